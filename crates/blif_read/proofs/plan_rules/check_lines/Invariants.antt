use Rattle.std.proofs.Common.{drop, ◌≡◌, ◌+◌, ◌≤◌}
use Rattle.blif_read.specs.PlanText.{check_lines}
use Rattle.blif_read.proofs.plan_rules.check_lines.Given as goal

abbrev pub invariant-loop-place : goal.invariant-loop-place
invariant-loop-place l = record {
  count : l.count + check_lines (drop l.place l.section) ≡ check_lines l.section;
  fits : l.count ≤ l.place;
}
