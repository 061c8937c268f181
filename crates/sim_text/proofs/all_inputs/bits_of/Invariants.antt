-- What is made, and the bits that are left, are all bits.
use Rattle.std.proofs.Common.{◌≡◌, ◌-◌, ◌++◌}
use Rattle.tsc_bits.specs.Bits.{bits_of}
use Rattle.sim_text.proofs.all_inputs.bits_of.Given as goal

abbrev pub invariant-loop-place : goal.invariant-loop-place
invariant-loop-place l = l.bits ++ bits_of (l.count - l.place) l.number ≡ bits_of l.count l.number
