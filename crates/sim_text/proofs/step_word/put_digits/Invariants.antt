-- The first characters are those of the word after its blank.
use Rattle.std.proofs.Common.{◌≡◌, ◌+◌, ◌∷◌, length, map, take}
use Rattle.tsc_bits.specs.Bits.{bits_of}
use Rattle.sim_text.specs.StepLine.{digit}
use Rattle.sim_text.proofs.step_word.put_digits.Given as goal

abbrev pub invariant-loop-place : goal.invariant-loop-place
invariant-loop-place l = record {
  room : length l.characters ≡ 65;
  written : take (l.place + 1) l.characters ≡ take (l.place + 1) (32 ∷ map digit (bits_of l.count l.bits));
}
