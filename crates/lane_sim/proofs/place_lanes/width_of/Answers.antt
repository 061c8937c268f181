use Rattle.std.proofs.Common.{◌^◌, ◌≤◌, arith}
use Rattle.std.proofs.Math.Pow.{pow_mono}
use Rattle.lane_sim.proofs.place_lanes.width_of.Goals as goal

pub returns-clause-small : goal.returns-clause-small
returns-clause-small c = let most : 2 ^ c.args.bits ≤ 2 ^ 20 = pow_mono c.requires.few in omega arith
