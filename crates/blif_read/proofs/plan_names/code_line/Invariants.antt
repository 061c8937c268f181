use Rattle.std.proofs.Common.{drop, ◌≡◌}
use Rattle.blif_read.specs.PlanText.{code_line}
use Rattle.blif_read.proofs.plan_names.code_line.Given as goal

abbrev pub invariant-loop-place : goal.invariant-loop-place
invariant-loop-place l = code_line l.section ≡ code_line (drop l.place l.section)
