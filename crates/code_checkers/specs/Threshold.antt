-- Thresholds: "at least j of these signals are 1", and the pair that differs where two lists have m ones together.
use Rattle.std.specs.Prelude.{ℕ, zero, suc, ◌+◌, ◌-◌, ◌%◌, ◌==◌, Bool, true, false, not, List, [], ◌∷◌, length, slice_index_or}
use Rattle.code_checkers.specs.Signal.{Signal, Pair, chain}
use Rattle.code_checkers.specs.Signal.Signal.{Word, And, Or}

-- the thresholds with one more signal x: each is met before, or the one below it was (`carried`) and x is 1
abbrev pub row_from : Signal → Signal → List Signal → List Signal
row_from carried x [] = carried ∷ []
row_from carried x (t ∷ row) = Or t carried ∷ row_from (And t x) x row

-- the thresholds with more signals, one after another
abbrev pub thresholds_from : List Signal → List Signal → List Signal
thresholds_from row [] = row
thresholds_from row (x ∷ signals) = thresholds_from (row_from x x row) signals

-- the thresholds of a list, that of 1 first
abbrev pub thresholds : List Signal → List Signal
thresholds signals = thresholds_from [] signals

-- the threshold of j, which is at least 1
abbrev pub threshold : List Signal → ℕ → Signal
threshold row j = slice_index_or row (j - 1) (Word 0)

-- at least i of the first list and at least j of the second, where 0 asks for nothing
abbrev pub both_reach : List Signal → List Signal → ℕ → ℕ → Signal
both_reach firsts seconds zero j = threshold seconds j
both_reach firsts seconds (suc i) zero = threshold firsts (suc i)
both_reach firsts seconds (suc i) (suc j) = And (threshold firsts (suc i)) (threshold seconds (suc j))

-- the terms of a threshold pair, from term t on: i = m + t - |seconds| of the first list, and m - i = |seconds| - t of the second
abbrev pub terms_from : List Signal → List Signal → ℕ → ℕ → ℕ → List Signal
terms_from firsts seconds m t zero = []
terms_from firsts seconds m t (suc count) =
    both_reach firsts seconds (m + t - length seconds) (length seconds - t) ∷ terms_from firsts seconds m (t + 1) count

-- every second item: the first, third and so on, or else the second, fourth and so on
abbrev pub every_second : {X : Type 0} → Bool → List X → List X
every_second chosen [] = []
every_second true (x ∷ xs) = x ∷ every_second false xs
every_second false (x ∷ xs) = every_second true xs

-- the number is odd
abbrev pub is_odd : ℕ → Bool
is_odd n = n % 2 == 1

-- the terms, their i from m - |B| to |A|
abbrev pub terms : List Signal → List Signal → ℕ → List Signal
terms A B m = terms_from (thresholds A) (thresholds B) m 0 (length A + length B + 1 - m)

-- the threshold pair: the terms of odd i, and those of even i. The first i is odd where m + |B| is
abbrev pub threshold_pair : List Signal → List Signal → ℕ → Pair
threshold_pair A B m = record {
  first = chain Or (every_second (is_odd (m + length B)) (terms A B m));
  second = chain Or (every_second (not (is_odd (m + length B))) (terms A B m));
}
