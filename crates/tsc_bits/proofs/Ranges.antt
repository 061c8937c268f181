-- A range of a list, taken from its front and at its end.
use Rattle.std.proofs.Common.{◌≡◌, ℕ, ◌+◌, ◌-◌, ◌<◌, ◌≤◌, suc, List, [], ◌∷◌, ◌++◌, length, length-drop, take, drop, get_or, arith, refl, add-one, ap, ◌∙◌}
use Rattle.std.proofs.Math.Seq.{drop-cons, take-suc}
use Rattle.std.proofs.lemmas.List.{get_or-drop}
use Rattle.std.specs.List.{slice_range}

pub range_none : {X : Type 0} (xs : List X) (i j : ℕ) → j ≤ i → slice_range xs i j ≡ []
range_none xs i j h =
    let e : j - i ≡ 0 = omega arith in
    rw e refl

pub range_cons : {X : Type 0} (xs : List X) (i j : ℕ) (d : X) → i < j → j ≤ length xs
    → slice_range xs i j ≡ get_or xs i d ∷ slice_range xs (i + 1) j
range_cons xs i j d h k =
    let within : i < length xs = omega arith in
    let e : drop i xs ≡ get_or xs i d ∷ drop (suc i) xs = drop-cons xs i d within in
    let f : j - i ≡ suc (j - (i + 1)) = omega arith in
    rw (f, e, add-one) refl

pub range_push : {X : Type 0} (xs : List X) (i j : ℕ) (d : X) → i ≤ j → j < length xs
    → slice_range xs i (j + 1) ≡ slice_range xs i j ++ get_or xs j d ∷ []
range_push xs i j d h k =
    let f : (j + 1) - i ≡ suc (j - i) = omega arith in
    let m : i + (j - i) ≡ j = omega arith in
    let w : j - i < length (drop i xs) = omega (arith, length-drop i xs) in
    let e : take (suc (j - i)) (drop i xs) ≡ take (j - i) (drop i xs) ++ (get_or (drop i xs) (j - i) d ∷ []) = take-suc (drop i xs) (j - i) d w in
    let g : get_or (drop i xs) (j - i) d ≡ get_or xs j d = get_or-drop i xs (j - i) d ∙ ap (λ n. get_or xs n d) m in
    rw (f, e, g) refl
