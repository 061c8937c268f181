-- Places of points as lanes.
use Rattle.std.proofs.Common.{◌≡◌, ℕ, zero, suc, ◌+◌, ◌-◌, ◌*◌, ◌/◌, ◌%◌, ◌^◌, ◌<◌, ◌≤◌, ◌==◌, eqb, nat_lt, Bool, true, not, ◌&&◌, refl, sym, ap, ap₂, ◌∙◌, subst, arith, lt-ltb, le-ltb, eq-eqb}
use Rattle.std.proofs.Math.Nat.{div-div-eq-div-mul, mod-add-div, mod-lt}
use Rattle.std.proofs.Math.Logic.{⊎_elim}
use Rattle.std.proofs.lemmas.Nat.{div-mul-add, pow-add}
use Rattle.std.proofs.lemmas.Bool.{cases_lt, ne_eqb, and_parts}
use Rattle.std.proofs.lemmas.Nat.Bits.{bit_at_ones, bit_at_ones_above}
use Rattle.tsc_bits.specs.Bits.{same, bit_worth}
use Rattle.tsc_bits.proofs.Bits.{bit_worth-mod}
use Rattle.tsc_bits.proofs.Bools.{same_is}

-- ---- the last six bits of a place are those of its number among 64

-- a test of the first numbers
abbrev all_below : ℕ → (ℕ → Bool) → Bool
all_below zero p = true
all_below (suc n) p = p n && all_below n p

one_below : (n : ℕ) (p : ℕ → Bool) → all_below n p ≡ true → (k : ℕ) → k < n → p k ≡ true
one_below zero p all k below = absurd (omega arith)
one_below (suc n) p all k below =
    let parts = and_parts (p n) (all_below n p) all in
    ⊎_elim (λ (less : k < n). one_below n p parts.1 k less) (λ (last : n ≤ k). let is : n ≡ k = omega arith in subst (λ (j : ℕ). p j ≡ true) is parts.0) (cases_lt k n)

pattern : (word digit : ℕ) → all_below 64 (λ k. same (bit_worth k word) (bit_worth digit k)) ≡ true → (k : ℕ) → k < 64 → bit_worth k word ≡ bit_worth digit k
pattern word digit all k few = same_is (bit_worth k word) (bit_worth digit k) (one_below 64 (λ (j : ℕ). same (bit_worth j word) (bit_worth digit j)) all k few)

low_digit : (digit base k : ℕ) → digit < 6 → base % 64 ≡ 0 → k < 64 → bit_worth digit k ≡ bit_worth digit (base + k)
low_digit digit base k low whole few =
    let rest : k ≡ (base + k) % 2 ^ 6 = omega arith in
    ap (bit_worth digit) rest ∙ bit_worth-mod 6 digit (base + k) low

pub places_0 : (base k : ℕ) → base % 64 ≡ 0 → k < 64 → bit_worth k 0xAAAA_AAAA_AAAA_AAAA ≡ bit_worth 0 (base + k)
places_0 base k whole few = pattern 0xAAAA_AAAA_AAAA_AAAA 0 refl k few ∙ low_digit 0 base k (omega arith) whole few

pub places_1 : (base k : ℕ) → base % 64 ≡ 0 → k < 64 → bit_worth k 0xCCCC_CCCC_CCCC_CCCC ≡ bit_worth 1 (base + k)
places_1 base k whole few = pattern 0xCCCC_CCCC_CCCC_CCCC 1 refl k few ∙ low_digit 1 base k (omega arith) whole few

pub places_2 : (base k : ℕ) → base % 64 ≡ 0 → k < 64 → bit_worth k 0xF0F0_F0F0_F0F0_F0F0 ≡ bit_worth 2 (base + k)
places_2 base k whole few = pattern 0xF0F0_F0F0_F0F0_F0F0 2 refl k few ∙ low_digit 2 base k (omega arith) whole few

pub places_3 : (base k : ℕ) → base % 64 ≡ 0 → k < 64 → bit_worth k 0xFF00_FF00_FF00_FF00 ≡ bit_worth 3 (base + k)
places_3 base k whole few = pattern 0xFF00_FF00_FF00_FF00 3 refl k few ∙ low_digit 3 base k (omega arith) whole few

pub places_4 : (base k : ℕ) → base % 64 ≡ 0 → k < 64 → bit_worth k 0xFFFF_0000_FFFF_0000 ≡ bit_worth 4 (base + k)
places_4 base k whole few = pattern 0xFFFF_0000_FFFF_0000 4 refl k few ∙ low_digit 4 base k (omega arith) whole few

pub places_5 : (base k : ℕ) → base % 64 ≡ 0 → k < 64 → bit_worth k 0xFFFF_FFFF_0000_0000 ≡ bit_worth 5 (base + k)
places_5 base k whole few = pattern 0xFFFF_FFFF_0000_0000 5 refl k few ∙ low_digit 5 base k (omega arith) whole few

-- ---- the other bits are those of the first of the 64 places

divided : (more x : ℕ) → x / 2 ^ (6 + more) ≡ x / 64 / 2 ^ more
divided more x = ap (λ (w : ℕ). x / w) (pow-add 2 6 more) ∙ sym (div-div-eq-div-mul x 64 (2 ^ more))

pub high_digit : (digit base k : ℕ) → 6 ≤ digit → base % 64 ≡ 0 → k < 64 → bit_worth digit base ≡ bit_worth digit (base + k)
high_digit digit base k high whole few =
    let more : ℕ = digit - 6 in
    let at : 6 + more ≡ digit = omega arith in
    let block : base / 64 ≡ (base + k) / 64 = omega arith in
    subst (λ (d : ℕ). bit_worth d base ≡ bit_worth d (base + k)) at
    (ap (λ (q : ℕ). eqb (q % 2) 1) (divided more base ∙ (ap (λ (b : ℕ). b / 2 ^ more) block ∙ sym (divided more (base + k)))))

-- ---- the places below a limit

pub all_are_below : (limit base k : ℕ) → base < limit → 64 ≤ limit - base → k < 64 → nat_lt (base + k) limit ≡ true
all_are_below limit base k some far few = lt-ltb (base + k) limit (omega arith)

pub first_below : (limit base k : ℕ) → base < limit → bit_worth k (2 ^ (limit - base) - 1) ≡ nat_lt (base + k) limit
first_below limit base k some = ⊎_elim
    (λ (inside : k < limit - base). ap (λ (b : ℕ). eqb b 1) (bit_at_ones (limit - base) k inside) ∙ sym (lt-ltb (base + k) limit (omega arith)))
    (λ (past : limit - base ≤ k). ap (λ (b : ℕ). eqb b 1) (bit_at_ones_above (limit - base) k past) ∙ sym (le-ltb (base + k) limit (omega arith)))
    (cases_lt k (limit - base))

-- ---- the places of a state

quotient : (state width place : ℕ) → 0 < width → state * width ≤ place → place < state * width + width → place / width ≡ state
quotient state width place some from below =
    let rest : place - state * width < width = omega arith in
    let is : state * width + (place - state * width) ≡ place = omega arith in
    ap (λ (p : ℕ). p / width) (sym is) ∙ div-mul-add state width (place - state * width) rest

pub state_is : (state width place : ℕ) → 0 < width → (nat_lt place (state * width + width) && not (nat_lt place (state * width))) ≡ (state == place / width)
state_is state width place some = ⊎_elim
    (λ (before : place < state * width).
    ap₂ (λ (a b : Bool). a && not b) (lt-ltb place (state * width + width) (omega arith)) (lt-ltb place (state * width) before)
    ∙ sym (ne_eqb state (place / width) (λ same. outside before same)))
    (λ (from : state * width ≤ place). ⊎_elim
    (λ (inside : place < state * width + width).
    ap₂ (λ (a b : Bool). a && not b) (lt-ltb place (state * width + width) inside) (le-ltb place (state * width) from)
    ∙ sym (eq-eqb state (place / width) (sym (quotient state width place some from inside))))
    (λ (past : state * width + width ≤ place).
    ap₂ (λ (a b : Bool). a && not b) (le-ltb place (state * width + width) past) (le-ltb place (state * width) from)
    ∙ sym (ne_eqb state (place / width) (λ same. beyond past same)))
    (cases_lt place (state * width + width)))
    (cases_lt place (state * width))
  where
    outside : place < state * width → state ≡ place / width → ⊥
    outside before same = omega (arith, ap (λ (q : ℕ). q * width) same, mod-add-div place width)

    beyond : state * width + width ≤ place → state ≡ place / width → ⊥
    beyond past same = omega (arith, ap (λ (q : ℕ). q * width) same, mod-add-div place width, mod-lt place some)
