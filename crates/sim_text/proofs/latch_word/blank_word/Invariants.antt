-- A blank, and one character for each round.
use Rattle.std.proofs.Common.{◌≡◌, ◌+◌, length}
use Rattle.sim_text.proofs.latch_word.blank_word.Given as goal

abbrev pub invariant-loop : goal.invariant-loop
invariant-loop l = length l.word ≡ l.counter + 1
