use Rattle.std.proofs.Common.{drop, ◌≡◌}
use Rattle.tsc_net.specs.NetFault.{first_repeat, repeat_after}
use Rattle.blif_read.specs.PlanText.{state_words}
use Rattle.blif_read.proofs.plan_rules.are_distinct.Given as goal

abbrev pub invariant-loop-place : goal.invariant-loop-place
invariant-loop-place l = first_repeat (state_words l.section) ≡ repeat_after l.table (state_words (drop l.place l.section))
