use Rattle.lane_sim.proofs.LaneLemmas.{join_lanes}
use Rattle.lane_sim.proofs.lanes.join.Goals as goal

pub returns : goal.returns
returns g c = record { lanes = join_lanes g.row.N c.args.a c.args.b c.fits-a.0 c.fits-b.0 }
