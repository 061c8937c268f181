-- The first bits are those of the first characters.
use Rattle.std.proofs.Common.{◌≡◌, length, map, take}
use Rattle.sim_text.specs.StepLines.{bit_of}
use Rattle.sim_text.proofs.steps.put_bits.Given as goal

abbrev pub invariant-loop-place : goal.invariant-loop-place
invariant-loop-place l = record {
  sized : length l.bits ≡ length l.word;
  read : take l.place l.bits ≡ take l.place (map bit_of l.word);
}
