-- The bits that are written are those of the number.
use Rattle.std.proofs.Common.{◌≡◌, length, take}
use Rattle.tsc_bits.specs.Bits.{bits_of}
use Rattle.behaviour_audit.proofs.bits.write_number.Given as goal

abbrev pub invariant-loop-place : goal.invariant-loop-place
invariant-loop-place l = record {
  sized : length l.bits ≡ l.width;
  written : take l.place l.bits ≡ take l.place (bits_of l.width l.number);
}
