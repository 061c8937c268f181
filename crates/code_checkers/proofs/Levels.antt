-- The loop of a level, and that a level changes no tree.
use Rattle.std.specs.Prelude.{◌≡◌, ℕ, zero, suc, ◌+◌, ◌<◌, ◌≤◌, ◌-◌, List, [], ◌∷◌, ◌++◌, length, drop, get_or, refl}
use Rattle.std.proofs.Common.{sym, ◌∙◌, ap, arith}
use Rattle.std.proofs.lemmas.List.{drop_more, drop_all, append_assoc, append-nil}
use Rattle.code_checkers.specs.Signal.{Pair}
use Rattle.code_checkers.specs.TwoRail.{cell, level, levels, head_pair, tree}
use Rattle.code_checkers.proofs.TwoRail.{level_length, level_shorter}

pub level_step : (made pairs goal : List Pair) (i : ℕ) (d x y : Pair) → i + 1 < length pairs → x ≡ get_or pairs i d → y ≡ get_or pairs (i + 1) d
    → made ++ level (drop i pairs) ≡ goal → (made ++ cell x y ∷ []) ++ level (drop (i + 2) pairs) ≡ goal
level_step made pairs goal i d x y lt at_x at_y h =
    let further : i < length pairs = omega arith in
    let place : i + 1 + 1 ≡ i + 2 = omega arith in
    let split : drop i pairs ≡ x ∷ (y ∷ drop (i + 2) pairs) =
    drop_more pairs i d further ∙ ap (λ p. p ∷ drop (i + 1) pairs) (sym at_x)
    ∙ ap (λ ps. x ∷ ps) (drop_more pairs (i + 1) d lt ∙ ap (λ p. p ∷ drop (i + 1 + 1) pairs) (sym at_y) ∙ ap (λ n. y ∷ drop n pairs) place) in
    append_assoc made (cell x y ∷ []) (level (drop (i + 2) pairs)) ∙ ap (λ ps. made ++ level ps) (sym split) ∙ h

pub level_last : (made pairs goal : List Pair) (i : ℕ) (d x : Pair) → i < length pairs → length pairs ≤ i + 1 → x ≡ get_or pairs i d
    → made ++ level (drop i pairs) ≡ goal → made ++ x ∷ [] ≡ goal
level_last made pairs goal i d x lt end at_x h =
    let split : drop i pairs ≡ x ∷ [] = drop_more pairs i d lt ∙ ap (λ p. p ∷ drop (i + 1) pairs) (sym at_x) ∙ ap (λ ps. x ∷ ps) (drop_all (i + 1) pairs end) in
    ap (λ ps. made ++ level ps) (sym split) ∙ h

pub level_end : (made pairs goal : List Pair) (i : ℕ) → length pairs ≤ i → made ++ level (drop i pairs) ≡ goal → made ≡ goal
level_end made pairs goal i end h = sym (append-nil made) ∙ ap (λ ps. made ++ level ps) (sym (drop_all i pairs end)) ∙ h

levels_more : (count : ℕ) (pairs : List Pair) → length pairs ≤ suc count → levels (suc count) pairs ≡ levels count pairs
levels_more zero [] h = refl
levels_more zero (a ∷ []) h = refl
levels_more zero (a ∷ (b ∷ pairs)) h = absurd (omega arith)
levels_more (suc count) pairs h = levels_more count (level pairs) (level_shorter count pairs h)

levels_enough : (more count : ℕ) (pairs : List Pair) → length pairs ≤ suc count → levels (count + more) pairs ≡ levels count pairs
levels_enough zero count pairs h = let e : count + 0 ≡ count = omega arith in ap (λ n. levels n pairs) e
levels_enough (suc more) count pairs h =
    let e : count + suc more ≡ suc (count + more) = omega arith in
    ap (λ n. levels n pairs) e ∙ levels_more (count + more) pairs (omega arith) ∙ levels_enough more count pairs h

-- a level changes no tree
pub tree-level : (pairs : List Pair) → tree (level pairs) ≡ tree pairs
tree-level [] = refl
tree-level (a ∷ []) = refl
tree-level (a ∷ (b ∷ pairs)) =
    let rest : List Pair = cell a b ∷ level pairs in
    let short : length (level pairs) ≤ length pairs = level_length pairs in
    let e : suc (length pairs) ≡ length (level pairs) + (1 + length pairs - length (level pairs)) = omega arith in
    let f : suc (length (level pairs)) ≡ length (level pairs) + 1 = omega arith in
    ap head_pair
    (ap (λ n. levels n (cell a b ∷ level pairs)) f ∙ levels_enough 1 (length (level pairs)) (cell a b ∷ level pairs) (omega arith)
    ∙ sym (ap (λ n. levels n (cell a b ∷ level pairs)) e ∙ levels_enough (1 + length pairs - length (level pairs)) (length (level pairs)) (cell a b ∷ level pairs) (omega arith)))
