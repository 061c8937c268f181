use Rattle.lane_sim.proofs.LaneLemmas.{signed_lanes}
use Rattle.lane_sim.proofs.lanes.signed.Goals as goal

pub returns : goal.returns
returns g c = record { lanes = signed_lanes g.row.N c.args.a _ c.args.wants c.fits-a.0 c.word_of.ensures.bits }
