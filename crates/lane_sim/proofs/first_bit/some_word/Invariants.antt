-- The words so far are 0.
use Rattle.std.proofs.Common.{◌≡◌, ℕ, ◌<◌, ◌≤◌, slice_index}
use Rattle.lane_sim.proofs.first_bit.some_word.Given as goal

abbrev pub invariant-loop-word : goal.invariant-loop-word
invariant-loop-word l = record {
  low : l.from ≤ l.word;
  zero : (word : ℕ) → l.from ≤ word → word < l.word → slice_index l.words word ≡ 0;
}
