use Rattle.std.proofs.Common.{drop, ◌≡◌}
use Rattle.blif_read.specs.PlanText.{state_words}
use Rattle.blif_read.specs.PlanFault.{are_alike}
use Rattle.blif_read.proofs.plan_rules.are_alike.Given as goal

abbrev pub invariant-loop-place : goal.invariant-loop-place
invariant-loop-place l =
    are_alike l.latches l.weight (state_words l.section) ≡ are_alike l.latches l.weight (state_words (drop l.place l.section))
