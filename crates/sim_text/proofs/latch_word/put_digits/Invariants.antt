-- The first characters are those of the word after its blank.
use Rattle.std.proofs.Common.{◌≡◌, ◌+◌, ◌∷◌, length, map, take}
use Rattle.sim_text.specs.StepLine.{digit}
use Rattle.sim_text.proofs.latch_word.put_digits.Given as goal

abbrev pub invariant-loop-place : goal.invariant-loop-place
invariant-loop-place l = record {
  room : length l.word ≡ length l.bits + 1;
  written : take (l.place + 1) l.word ≡ take (l.place + 1) (32 ∷ map digit l.bits);
}
