use Rattle.lane_sim.proofs.LaneLemmas.{meet_lanes}
use Rattle.lane_sim.proofs.lanes.meet.Goals as goal

pub returns : goal.returns
returns g c = record { lanes = meet_lanes g.row.N c.args.a c.args.b c.fits-a.0 c.fits-b.0 }
