use Rattle.lane_sim.proofs.LaneLemmas.{net_lanes}
use Rattle.lane_sim.proofs.lanes.load.Goals as goal

pub returns : goal.returns
returns g c = record { lanes = net_lanes g.row.N c.args.words.now c.args.net c.requires.few c.requires.room }
