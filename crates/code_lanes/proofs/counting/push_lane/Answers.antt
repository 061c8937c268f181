use Rattle.std.proofs.Common.{◌∷◌, length, refl, arith}
use Rattle.code_lanes.proofs.CountLemmas.{pushed_on, pushed_all}
use Rattle.code_lanes.proofs.counting.push_lane.Goals as goal

pub loop-digit-preserved : goal.loop-digit-preserved
loop-digit-preserved c =
    pushed_on c.loop-digit.digits c.loop-digit.digit-index _ c.loop-digit.moved (c.args.lane ∷ c.args.digits.now) (omega arith) refl c.loop-digit.invariant

pub returns : goal.returns
returns c = record {
  pushed = pushed_all c.loop-digit.digits c.loop-digit.digit-index c.loop-digit.moved (c.args.lane ∷ c.args.digits.now) (length c.args.digits.now) (omega arith) (omega arith) c.loop-digit.invariant;
}
