-- The two-rail cell, and the tree of cells.
use Rattle.std.specs.Prelude.{ℕ, zero, suc, List, [], ◌∷◌, length}
use Rattle.code_checkers.specs.Signal.{Pair}
use Rattle.code_checkers.specs.Signal.Signal.{Word, And, Or}

-- the cell of two pairs: a pair that differs where both do
abbrev pub cell : Pair → Pair → Pair
cell a b = record {
  first = Or (And a.first b.first) (And a.second b.second);
  second = Or (And a.first b.second) (And a.second b.first);
}

-- neighbours become their cells, and an odd last pair passes on
abbrev pub level : List Pair → List Pair
level [] = []
level (a ∷ []) = a ∷ []
level (a ∷ (b ∷ pairs)) = cell a b ∷ level pairs

-- so many levels
abbrev pub levels : ℕ → List Pair → List Pair
levels zero pairs = pairs
levels (suc count) pairs = levels count (level pairs)

-- what stands for the first pair where there is none
abbrev pub no_pair : Pair
no_pair = record { first = Word 0; second = Word 0 }

-- the first pair, and `no_pair` where there is none
abbrev pub head_pair : List Pair → Pair
head_pair [] = no_pair
head_pair (a ∷ pairs) = a

-- the pair that is left when no two are; a level leaves one pair as it is
abbrev pub tree : List Pair → Pair
tree pairs = head_pair (levels (length pairs) pairs)
