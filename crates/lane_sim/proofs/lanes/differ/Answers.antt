use Rattle.lane_sim.proofs.LaneLemmas.{differ_lanes}
use Rattle.lane_sim.proofs.lanes.differ.Goals as goal

pub returns : goal.returns
returns g c = record { lanes = differ_lanes g.row.N c.args.a c.args.b c.fits-a.0 c.fits-b.0 }
