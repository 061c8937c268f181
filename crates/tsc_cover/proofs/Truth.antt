-- What the truth of a cover looks at: the bits of the pins that its rows read, and no others.
use Rattle.std.proofs.Common.{◌≡◌, ℕ, ◌≤◌, ◌%◌, ◌^◌, Bool, ◌&&◌, List, [], ◌∷◌, length, suc, false, ◌+◌, get_or, ◌<◌, refl, sym, ap, ap₂, ◌∙◌, arith}
use Rattle.tsc_bits.specs.Bits.{same, bits_of, binary}
use Rattle.tsc_cover.specs.Terms.{terms_from, all_given}
use Rattle.tsc_cover.specs.Cover.{Literal, Free, Wants, row_matches, CoverTable, truth}
use Rattle.tsc_bits.proofs.Bits.{bits_of-mod, bits_of-binary}

-- bits of a number that are worth more than those of its pins do not count
pub truth-bits_of_mod : (c : CoverTable) (read : ℕ) → truth c (bits_of c.width (read % 2 ^ c.width)) ≡ truth c (bits_of c.width read)
truth-bits_of_mod c read = ap (truth c) (bits_of-mod c.width read)

-- the truth at a list of bits is that at their number
pub truth-binary : (c : CoverTable) (bits : List Bool) → length bits ≡ c.width → truth c (bits_of c.width (binary bits)) ≡ truth c bits
truth-binary c bits h =
    ap (truth c) (ap (λ n. bits_of n (binary bits)) (sym h) ∙ bits_of-binary bits)

shifted : (bits : List Bool) (b : Bool) (bit : ℕ → Bool) (pin n : ℕ) → ((i : ℕ) → i < suc n → get_or (b ∷ bits) i false ≡ bit (pin + i)) → (i : ℕ) → i < n → get_or bits i false ≡ bit (pin + 1 + i)
shifted bits b bit pin n h i below =
    let e : pin + suc i ≡ pin + 1 + i = omega arith in h (suc i) (omega arith) ∙ ap bit e

-- a row matches bits exactly where each pin that it reads has the bit that it wants
pub row_matches-terms : (row : List Literal) (bits : List Bool) (bit : ℕ → Bool) (pin : ℕ) → length row ≤ length bits → ((i : ℕ) → i < length row → get_or bits i false ≡ bit (pin + i)) → row_matches row bits ≡ all_given bit (terms_from pin row)
row_matches-terms [] bits bit pin h e = refl
row_matches-terms (l ∷ row) [] bit pin h e = absurd (omega arith)
row_matches-terms (Free ∷ row) (b ∷ bits) bit pin h e =
    row_matches-terms row bits bit (pin + 1) (omega arith) (shifted bits b bit pin (length row) e)
row_matches-terms (Wants wanted ∷ row) (b ∷ bits) bit pin h e =
    let here : pin + 0 ≡ pin = omega arith in
    ap₂ (λ x y. x && y)
    (ap (same wanted) (e 0 (omega arith) ∙ ap bit here))
    (row_matches-terms row bits bit (pin + 1) (omega arith) (shifted bits b bit pin (length row) e))
