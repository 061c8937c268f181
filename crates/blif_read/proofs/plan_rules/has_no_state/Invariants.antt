use Rattle.std.proofs.Common.{drop, ◌≡◌}
use Rattle.blif_read.specs.PlanText.{state_words}
use Rattle.blif_read.proofs.plan_rules.has_no_state.Given as goal

abbrev pub invariant-loop-place : goal.invariant-loop-place
invariant-loop-place l = state_words l.section ≡ state_words (drop l.place l.section)
