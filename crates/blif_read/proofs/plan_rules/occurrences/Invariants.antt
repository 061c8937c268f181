use Rattle.std.proofs.Common.{◌≡◌, ◌≤◌, ◌==◌, take, count_by}
use Rattle.blif_read.proofs.plan_rules.occurrences.Given as goal

abbrev pub invariant-loop-other : goal.invariant-loop-other
invariant-loop-other l = record {
  count : l.count ≡ count_by (λ other. l.place == other) (take l.other-index l.places);
  fits : l.count ≤ l.other-index;
}
