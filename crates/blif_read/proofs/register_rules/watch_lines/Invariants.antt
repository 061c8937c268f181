use Rattle.std.proofs.Common.{drop, ◌≡◌, ◌+◌, ◌≤◌}
use Rattle.blif_read.specs.PlanText.{watch_lines}
use Rattle.blif_read.proofs.register_rules.watch_lines.Given as goal

abbrev pub invariant-loop-place : goal.invariant-loop-place
invariant-loop-place l = record {
  count : l.count + watch_lines (drop l.place l.section) ≡ watch_lines l.section;
  fits : l.count ≤ l.place;
}
