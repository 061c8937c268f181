-- The tree of two-rail cells differs exactly where every pair does.
use Rattle.std.specs.Prelude.{◌≡◌, ℕ, zero, suc, ◌<◌, ◌≤◌, Bool, true, false, ◌&&◌, ◌||◌, List, [], ◌∷◌, length, refl}
use Rattle.std.specs.List.{list_all}
use Rattle.std.proofs.Common.{sym, ◌∙◌, ap, arith}
use Rattle.tsc_bits.specs.Counting.{differ}
use Rattle.code_checkers.specs.Signal.{Pair, value, pair_differs}
use Rattle.code_checkers.specs.TwoRail.{cell, level, levels, head_pair, tree}
use Rattle.tsc_bits.proofs.Bools.{and_assoc, and-true}

cell_of_bits : (a₁ a₂ b₁ b₂ : Bool) → differ ((a₁ && b₁) || (a₂ && b₂)) ((a₁ && b₂) || (a₂ && b₁)) ≡ differ a₁ a₂ && differ b₁ b₂
cell_of_bits true true true true = refl
cell_of_bits true true true false = refl
cell_of_bits true true false true = refl
cell_of_bits true true false false = refl
cell_of_bits true false true true = refl
cell_of_bits true false true false = refl
cell_of_bits true false false true = refl
cell_of_bits true false false false = refl
cell_of_bits false true true true = refl
cell_of_bits false true true false = refl
cell_of_bits false true false true = refl
cell_of_bits false true false false = refl
cell_of_bits false false true true = refl
cell_of_bits false false true false = refl
cell_of_bits false false false true = refl
cell_of_bits false false false false = refl

-- a cell differs exactly where both of its pairs do
pub cell-differs : (w : List Bool) (a b : Pair) → pair_differs w (cell a b) ≡ pair_differs w a && pair_differs w b
cell-differs w a b = cell_of_bits (value w a.first) (value w a.second) (value w b.first) (value w b.second)

level-differs : (w : List Bool) (pairs : List Pair) → list_all (pair_differs w) (level pairs) ≡ list_all (pair_differs w) pairs
level-differs w [] = refl
level-differs w (a ∷ []) = refl
level-differs w (a ∷ (b ∷ pairs)) =
    ap (λ x. x && list_all (pair_differs w) (level pairs)) (cell-differs w a b)
    ∙ and_assoc (pair_differs w a) (pair_differs w b) (list_all (pair_differs w) (level pairs))
    ∙ ap (λ x. pair_differs w a && (pair_differs w b && x)) (level-differs w pairs)

levels-differ : (w : List Bool) (count : ℕ) (pairs : List Pair) → list_all (pair_differs w) (levels count pairs) ≡ list_all (pair_differs w) pairs
levels-differ w zero pairs = refl
levels-differ w (suc count) pairs = levels-differ w count (level pairs) ∙ level-differs w pairs

-- a level is no longer, and shorter where two pairs are left
pub level_length : (pairs : List Pair) → length (level pairs) ≤ length pairs
level_length [] = omega arith
level_length (a ∷ []) = omega arith
level_length (a ∷ (b ∷ pairs)) = omega (arith, level_length pairs)

pub level_shorter : (count : ℕ) (pairs : List Pair) → length pairs ≤ suc (suc count) → length (level pairs) ≤ suc count
level_shorter count [] h = omega arith
level_shorter count (a ∷ []) h = omega arith
level_shorter count (a ∷ (b ∷ pairs)) h = omega (arith, level_length pairs)

-- the level over some pairs has at least one pair
pub level_some : (pairs : List Pair) → 0 < length pairs → 0 < length (level pairs)
level_some [] h = h
level_some (a ∷ []) h = h
level_some (a ∷ (b ∷ pairs)) h = omega arith

pub levels_some : (count : ℕ) (pairs : List Pair) → 0 < length pairs → 0 < length (levels count pairs)
levels_some zero pairs h = h
levels_some (suc count) pairs h = levels_some count (level pairs) (level_some pairs h)

pub levels_one : (count : ℕ) (pairs : List Pair) → length pairs ≤ suc count → length (levels count pairs) ≤ 1
levels_one zero pairs h = h
levels_one (suc count) pairs h = levels_one count (level pairs) (level_shorter count pairs h)

one_pair : (w : List Bool) (pairs : List Pair) → 0 < length pairs → length pairs ≤ 1 → pair_differs w (head_pair pairs) ≡ list_all (pair_differs w) pairs
one_pair w [] some one = absurd (omega arith)
one_pair w (a ∷ []) some one = sym (and-true (pair_differs w a))
one_pair w (a ∷ (b ∷ pairs)) some one = absurd (omega arith)

-- the tree's pair differs exactly where every pair does
pub tree-differs : (w : List Bool) (pairs : List Pair) → 0 < length pairs → pair_differs w (tree pairs) ≡ list_all (pair_differs w) pairs
tree-differs w pairs some =
    one_pair w (levels (length pairs) pairs) (levels_some (length pairs) pairs some) (levels_one (length pairs) pairs (omega arith))
    ∙ levels-differ w (length pairs) pairs

pub level_less : (pairs : List Pair) → 1 < length pairs → length (level pairs) < length pairs
level_less [] h = absurd (omega arith)
level_less (a ∷ []) h = absurd (omega arith)
level_less (a ∷ (b ∷ pairs)) h = omega (arith, level_length pairs)
