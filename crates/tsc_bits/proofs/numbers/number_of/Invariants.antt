-- The number is that of the first bits.
use Rattle.std.proofs.Common.{◌≡◌, take}
use Rattle.tsc_bits.specs.Bits.{binary}
use Rattle.tsc_bits.proofs.numbers.number_of.Given as goal

abbrev pub invariant-loop-bit : goal.invariant-loop-bit
invariant-loop-bit l = l.number ≡ binary (take l.bit-index l.bits)
