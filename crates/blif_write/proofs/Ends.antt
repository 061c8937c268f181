-- The last byte of a text.
use Rattle.std.proofs.Common.{◌≡◌, ℕ, zero, suc, ◌+◌, ◌-◌, List, [], ◌∷◌, length, Some, eqb, ap, arith, slice_get}
use Rattle.tsc_text.specs.Lines.{ends_in}

ends_in-at : (b : ℕ) (xs : List ℕ) (n x : ℕ) → n + 1 ≡ length xs → Some x ≡ slice_get xs n → eqb x b ≡ ends_in b xs
ends_in-at b [] n x e h = absurd (omega arith)
ends_in-at b (c ∷ []) zero x e h = let same : x ≡ c = cc in ap (λ y. eqb y b) same
ends_in-at b (c ∷ []) (suc n) x e h = absurd (omega arith)
ends_in-at b (c ∷ d ∷ cs) zero x e h = absurd (omega arith)
ends_in-at b (c ∷ d ∷ cs) (suc n) x e h = ends_in-at b (d ∷ cs) n x (omega arith) h

-- whether the last byte is b is whether the bytes end in b
pub ends_in-last : (b : ℕ) (xs : List ℕ) (x : ℕ) → Some x ≡ slice_get xs (length xs - 1) → eqb x b ≡ ends_in b xs
ends_in-last b [] x h = cc
ends_in-last b (c ∷ cs) x h = ends_in-at b (c ∷ cs) (length (c ∷ cs) - 1) x (omega arith) h
