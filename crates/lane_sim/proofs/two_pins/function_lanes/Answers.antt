use Rattle.std.proofs.Common.{◌/◌, arith}
use Rattle.lane_sim.proofs.two_pins.function_lanes.Goals as goal

pub returns : goal.returns
returns g c = record {
  lanes = c.formula_lanes.ensures.lanes (c.args.from / 10) (record { sum = λ is. absurd (omega (arith, is)); difference = λ is. absurd (omega (arith, is)); product = λ is. absurd (omega (arith, is)) }) (record {
    constant = c.mask-constant.ensures.lanes;
    first = c.mask-first.ensures.lanes;
    second = c.mask-second.ensures.lanes;
    both = c.mask-both.ensures.lanes;
    negated = c.mask-negated.ensures.lanes;
  });
}
