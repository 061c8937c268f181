-- State words: of twice m bits, m of them 1, in rising order.
use Rattle.std.specs.Prelude.{◌≡◌, ℕ, zero, suc, ◌+◌, ◌*◌, ◌^◌, ◌<◌, ◌≤◌, ◌==◌, Bool, List, length, take, filter, slice_index_or, [], All}
use Rattle.std.specs.List.{range_with_len}
use Rattle.tsc_bits.specs.Bits.{bits_of}
use Rattle.tsc_bits.specs.Counting.{ones}

-- how many lists of n bits have k ones
abbrev pub binomial : ℕ → ℕ → ℕ
binomial n zero = 1
binomial zero (suc k) = 0
binomial (suc n) (suc k) = binomial n k + binomial n (suc k)

-- the last n bits of the number have m ones
abbrev pub has_weight : ℕ → ℕ → ℕ → Bool
has_weight n m word = ones (bits_of n word) == m

-- the numbers of n bits with m ones, in rising order
abbrev pub words_of_weight : ℕ → ℕ → List ℕ
words_of_weight n m = filter (has_weight n m) (range_with_len 0 (2 ^ n))

-- the words of so many states: the first of those with m ones
abbrev pub state_words : ℕ → ℕ → ℕ → List ℕ
state_words n m states = take states (words_of_weight n m)

-- the least m from 1 on for which there are at least so many words of twice m bits with m ones
pub record IsLeastWeight (states m : ℕ) : Type 0 where
  pub some : 1 ≤ m
  pub enough : states ≤ binomial (2 * m) m
  pub least : (k : ℕ) → 1 ≤ k → states ≤ binomial (2 * k) k → m ≤ k

-- as many words as states, of n bits with m ones, no two the same: what a plan asks of its state words
pub record AreStateWords (n m states : ℕ) (words : List (List Bool)) : Type 0 where
  pub count : length words ≡ states
  pub sized : All (λ word. length word ≡ n) words
  pub weighed : All (λ word. ones word ≡ m) words
  pub distinct : (a b : ℕ) → a < b → b < length words → slice_index_or words a [] ≡ slice_index_or words b [] → ⊥
