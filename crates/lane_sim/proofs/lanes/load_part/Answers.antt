use Rattle.lane_sim.proofs.LaneLemmas.{part_lanes}
use Rattle.lane_sim.proofs.lanes.load_part.Goals as goal

pub returns : goal.returns
returns g c = record { lanes = part_lanes g.row.N c.args.words.now c.args.start c.args.from c.requires.few c.requires.start c.requires.room }
