use Rattle.lane_sim.proofs.LaneLemmas.{bit_of_not}
use Rattle.code_lanes.proofs.lanes.negated.Goals as goal

pub returns : goal.returns
returns c = record { bits = λ k few. bit_of_not c.args.word k c.ranges.word.fits few }
