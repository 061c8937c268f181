use Rattle.std.proofs.Common.{ℕ, ◌^◌, ◌<◌, false, sym, subst, arith}
use Rattle.tsc_bits.proofs.numbers.number_of.Goals as goal
use Rattle.tsc_bits.proofs.Bits.{number_more, number_room}

pub push_bit-number-requires : goal.push_bit-number-requires
push_bit-number-requires c = record {
  room = subst (λ (n : ℕ). n < 2 ^ 63) (sym c.loop-bit.invariant) (number_room c.args.bits.now c.loop-bit.bit-index (omega arith));
}

pub loop-bit-preserved : goal.loop-bit-preserved
loop-bit-preserved c = let more = number_more c.args.bits.now c.loop-bit.bit-index false c.loop-bit-test.true in cc
