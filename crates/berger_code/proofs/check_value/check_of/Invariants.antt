use Rattle.std.proofs.Common.{◌≡◌, ◌≤◌}
use Rattle.tsc_bits.specs.Bits.{bits_of}
use Rattle.tsc_bits.specs.Counting.{zeros}
use Rattle.berger_code.proofs.check_value.check_of.Given as goal

-- the zeros among the bits so far
abbrev pub invariant-loop-place : goal.invariant-loop-place
invariant-loop-place l = record {
  made : l.count ≡ zeros (bits_of l.place l.outputs);
  few : l.count ≤ l.place;
}
