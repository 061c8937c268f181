use Rattle.std.proofs.Common.{◌∙◌, sym}
use Rattle.lane_sim.proofs.LaneLemmas.{bit_of_ones}
use Rattle.lane_sim.proofs.lanes.word_of.Goals as goal

pub returns-then-value : goal.returns-then-value
returns-then-value c = record { bits = λ k below. bit_of_ones k below ∙ sym c.if-value.true }
