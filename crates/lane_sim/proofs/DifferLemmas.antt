-- Lanes that don't differ.
use Rattle.std.proofs.Common.{◌≡◌, ℕ, zero, suc, ◌/◌, ◌%◌, ◌<◌, ◌≤◌, Bool, true, false, not, eqb, List, [], ◌∷◌, get_or, bit_or, refl, sym, ap, ◌∙◌, arith}
use Rattle.std.proofs.lemmas.Bool.{not-false, eqb-true}
use Rattle.std.proofs.lemmas.Nat.{le_or_l, le_or_r}
use Rattle.std.specs.Simd.Lanes.{fold_l}
use Rattle.tsc_bits.specs.Bits.{bit_worth}
use Rattle.lane_sim.specs.Lanes.{HasLanes, lane_bit}
use Rattle.lane_sim.specs.TwoPins.{differ}
use Rattle.tsc_bits.proofs.Bits.{bit_worth-zero}

-- where all words together have no bit, none of them has one
all_zero : (a : ℕ) (words : List ℕ) → fold_l bit_or a words ≡ 0 → (a ≡ 0) × ((i : ℕ) → get_or words i 0 ≡ 0)
all_zero a [] none = (none, λ i. refl)
all_zero a (word ∷ words) none =
    let rest = all_zero (bit_or a word) words none in
    let first : a ≤ bit_or a word = le_or_l a word in
    let second : word ≤ bit_or a word = le_or_r a word in
    (omega (arith, rest.0, first), each word words (omega (arith, rest.0, second)) rest.1)
  where
    each : (x : ℕ) (xs : List ℕ) → x ≡ 0 → ((i : ℕ) → get_or xs i 0 ≡ 0) → (i : ℕ) → get_or (x ∷ xs) i 0 ≡ 0
    each x xs here there zero = here
    each x xs here there (suc i) = there i

-- a point at which lanes don't differ
pub same_bits : (x y : Bool) → differ x y ≡ false → x ≡ y
same_bits true true none = refl
same_bits true false none = none
same_bits false true none = sym none
same_bits false false none = refl

pub none_somewhere : (lanes : List ℕ) → not (eqb (fold_l bit_or 0 lanes) 0) ≡ false → (p : ℕ) → lane_bit lanes p ≡ false
none_somewhere lanes none p =
    let zeros = all_zero 0 lanes (eqb-true _ 0 (not-false _ none)) in
    ap (bit_worth (p % 64)) (zeros.1 (p / 64)) ∙ bit_worth-zero (p % 64)

-- where no point of the new lanes of a row differs from the old ones the row is the same
pub unchanged_row : (old lanes changed : List ℕ) (before after : ℕ → Bool) → HasLanes 16 changed (λ p. differ (lane_bit old p) (lane_bit lanes p))
    → ((p : ℕ) → p < 1024 → lane_bit old p ≡ before p) → ((p : ℕ) → p < 1024 → after p ≡ lane_bit lanes p)
    → ((p : ℕ) → lane_bit changed p ≡ false) → (p : ℕ) → p < 1024 → after p ≡ before p
unchanged_row old lanes changed before after differs was is none p inside =
    is p inside ∙ (sym (same_bits (lane_bit old p) (lane_bit lanes p) (sym (differs.lanes p inside) ∙ none p)) ∙ was p inside)
