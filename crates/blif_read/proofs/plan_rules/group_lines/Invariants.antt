use Rattle.std.proofs.Common.{drop, ◌≡◌, ◌+◌, ◌≤◌}
use Rattle.blif_read.specs.PlanText.{group_lines}
use Rattle.blif_read.proofs.plan_rules.group_lines.Given as goal

abbrev pub invariant-loop-place : goal.invariant-loop-place
invariant-loop-place l = record {
  count : l.count + group_lines (drop l.place l.section) ≡ group_lines l.section;
  fits : l.count ≤ l.place;
}
