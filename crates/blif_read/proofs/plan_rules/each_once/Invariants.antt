use Rattle.std.proofs.Common.{◌≡◌, true}
use Rattle.blif_read.specs.PlanFault.{each_once}
use Rattle.blif_read.proofs.plan_rules.each_once.Given as goal

abbrev pub invariant-loop-place : goal.invariant-loop-place
invariant-loop-place l = each_once l.places l.place ≡ true
