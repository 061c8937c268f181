use Rattle.std.proofs.Common.{◌≤◌, length, arith}
use Rattle.code_lanes.proofs.CodeLaneLemmas.{odd_lanes_more, odd_lanes_last}
use Rattle.code_lanes.proofs.codewords.oddness.Goals as goal
use Rattle.tsc_bits.proofs.Bits.{bit_worth-zero}

pub loop-place-init : goal.loop-place-init
loop-place-init c = λ k. bit_worth-zero k

pub loop-place-preserved : goal.loop-place-preserved
loop-place-preserved c = λ k.
    odd_lanes_more k c.args.lanes.now c.args.places.now c.loop-place.place-index 0 c.loop-place.odd c.loop-place-test.true (c.loop-place.invariant k)

pub returns : goal.returns
returns c = record {
  odd = λ k few.
      let past : length c.args.places.now ≤ c.loop-place.place-index = omega arith in
      odd_lanes_last k c.args.lanes.now c.args.places.now c.args.check c.loop-place.place-index c.loop-place.odd past (c.loop-place.invariant k);
}
