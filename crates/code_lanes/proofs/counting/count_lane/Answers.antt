use Rattle.std.proofs.Common.{◌≤◌, length, refl, sym, ◌∙◌, arith, false}
use Rattle.tsc_bits.specs.Bits.{bit_worth}
use Rattle.tsc_bits.specs.Counting.{add_carry}
use Rattle.code_lanes.specs.Lanes.{column}
use Rattle.code_lanes.proofs.CountLemmas.{carry_goes_on, carry_ends, lane_counted}
use Rattle.code_lanes.proofs.counting.count_lane.Goals as goal

pub loop-digit-preserved : goal.loop-digit-preserved
loop-digit-preserved c = λ k.
    carry_goes_on k c.loop-digit.digits c.loop-digit.digit-index _ c.loop-digit.carry (add_carry false (bit_worth k c.args.lane) (column k c.args.digits.now)) (omega arith) refl (c.loop-digit.invariant k)

pub returns : goal.returns
returns c = record {
  counted = λ k few room.
      let past : length c.loop-digit.digits ≤ c.loop-digit.digit-index = omega arith in
      lane_counted k c.args.digits.now c.loop-digit.digits c.args.lane
      (sym (carry_ends k c.loop-digit.digits c.loop-digit.digit-index c.loop-digit.carry past) ∙ c.loop-digit.invariant k) room;
}
