-- The ends of lists: their last two items, and what holds of each of two.
use Rattle.std.proofs.Common.{◌≡◌, ℕ, ◌+◌, List, [], ◌∷◌, ◌++◌, take, length, slice_index, sym, ◌∙◌, ap, ap₂, arith}
use Rattle.std.proofs.lemmas.List.{take-append-drop, drop_more, drop_all}

-- a list that ends in two known items
pub ends_in_two : (xs : List ℕ) (k a b : ℕ) → length xs ≡ k + 2 → slice_index xs k ≡ a → slice_index xs (k + 1) ≡ b → xs ≡ take k xs ++ (a ∷ (b ∷ []))
ends_in_two xs k a b sized one two =
    let e : k + 1 + 1 ≡ k + 2 = omega arith in
    sym (take-append-drop k xs)
    ∙ ap (λ ys. take k xs ++ ys) (drop_more xs k 0 (omega arith)
    ∙ ap₂ (λ x ys. x ∷ ys) one (drop_more xs (k + 1) 0 (omega arith) ∙ ap₂ (λ x ys. x ∷ ys) two (drop_all (k + 1 + 1) xs (omega arith))))
