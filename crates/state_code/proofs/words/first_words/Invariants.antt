use Rattle.std.proofs.Common.{◌≡◌, take, filter}
use Rattle.std.specs.List.{range_with_len}
use Rattle.state_code.specs.Words.{has_weight}
use Rattle.state_code.proofs.words.first_words.Given as goal

-- the first words of those among the numbers so far
abbrev pub invariant-loop-word : goal.invariant-loop-word
invariant-loop-word l = record {
  width : l.list.width ≡ l.n;
  words : l.list.words ≡ take l.states (filter (has_weight l.n l.m) (range_with_len 0 l.word));
}
