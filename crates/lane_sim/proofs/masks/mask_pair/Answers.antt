use Rattle.lane_sim.proofs.LaneLemmas.{pair_lanes}
use Rattle.lane_sim.proofs.masks.mask_pair.Goals as goal

pub returns : goal.returns
returns c = record { lanes = pair_lanes c.args.masks.now c.args.from c.args.bit c.requires.masks c.requires.start c.requires.small c.requires.bit }
