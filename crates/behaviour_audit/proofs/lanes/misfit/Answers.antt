use Rattle.std.proofs.Common.{◌∙◌, sym}
use Rattle.std.proofs.lemmas.Bool.{true≢false}
use Rattle.code_lanes.proofs.LaneLemmas.{same_bit}
use Rattle.behaviour_audit.proofs.lanes.misfit.Goals as goal

pub returns-then-asked : goal.returns-then-asked
returns-then-asked c = record { fits = λ k below zero_ is. (same_bit k c.args.lane c.word_of.result).0 zero_ ∙ c.word_of.ensures.bits k below }

pub returns-else-asked : goal.returns-else-asked
returns-else-asked c = record { fits = λ k below zero_ is. absurd (true≢false (sym is ∙ c.if-asked.false)) }
