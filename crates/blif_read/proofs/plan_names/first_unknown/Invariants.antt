use Rattle.std.proofs.Common.{drop, ◌≡◌}
use Rattle.blif_read.specs.PlanFault.{first_unknown}
use Rattle.blif_read.proofs.plan_names.first_unknown.Given as goal

abbrev pub invariant-loop-place : goal.invariant-loop-place
invariant-loop-place l = first_unknown l.net.names l.section ≡ first_unknown l.net.names (drop l.place l.section)
