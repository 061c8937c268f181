-- Sums and products that stop at a greatest number, and counts of literals.
use Rattle.std.proofs.Common.{◌≡◌, ℕ, zero, suc, ◌+◌, ◌*◌, ◌<◌, ◌≤◌, ◌%◌, ◌^◌, min, cond, inl, inr, Bool, true, false, if◌then◌else◌, sym, ◌∙◌, ap, ap₂, arith, mul_comm, mul-zero, mod-lt, le-mul_of_pos_right}
use Rattle.std.specs.Int.RustNames.{count_ones}
use Rattle.std.proofs.Math.Nat.{mod-eq_of_lt}
use Rattle.std.proofs.lemmas.Bool.{cases_lt, cases_eq}
use Rattle.std.proofs.lemmas.Nat.{ones_cat, ones-le, pow_pos}
use Rattle.std.specs.Int.Count.{ones-ones}
use Rattle.std.proofs.lemmas.List.Sums.{sum_by-cons}
use Rattle.tsc_bits.specs.Bits.{bit_worth, weight_of}
use Rattle.tsc_cover.specs.Cover.{literals as literals_for, wants_bit}
use Rattle.tsc_cover.specs.Cover.Literal.{Free, Wants}
use Rattle.tsc_bits.proofs.Bits.{mod-pow-suc}
use Rattle.fault_secure.specs.Size.{row_literals}

-- a product of two numbers of which the first is above m
past : (a b m : ℕ) → 0 < m → m < a → min (min a m * min b m) m ≡ min (a * b) m
past a b m some above = elim (cases_eq b 0) [
  | inl none ↦ (
      let low : min b m ≡ 0 = omega arith in
      let one : min a m * min b m ≡ 0 = ap (λ x. min a m * x) low ∙ mul-zero (min a m) in
      let two : a * b ≡ 0 = ap (λ x. a * x) none ∙ mul-zero a in
      omega arith)
  | inr there ↦ (
      let x : 0 < min b m = omega arith in
      let y : 0 < b = omega arith in
      let m_is : min a m ≡ m = omega arith in
      let one : m ≤ m * min b m = le-mul_of_pos_right m x in
      let two : a ≤ a * b = le-mul_of_pos_right a y in
      let first : min a m * min b m ≡ m * min b m = ap (λ k. k * min b m) m_is in
      omega arith)
]

-- a product of two numbers that stop at m
pub sat_product : (a b m : ℕ) → 0 < m → min (min a m * min b m) m ≡ min (a * b) m
sat_product a b m some = elim (cases_lt m a) [
  | inl above ↦ past a b m some above
  | inr low ↦ elim (cases_lt m b) [
    | inl above ↦ ap (λ k. min k m) (mul_comm (min a m) (min b m)) ∙ past b a m some above ∙ ap (λ k. min k m) (mul_comm b a)
    | inr also ↦ (
        let x : min a m ≡ a = omega arith in
        let y : min b m ≡ b = omega arith in
        ap₂ (λ k l. min (k * l) m) x y)
  ]
]

-- the bound, as it is computed
pub bound_stops : (m copies size inputs checker a c d k e r : ℕ) → 0 < m → copies ≤ m → a ≡ min size m → c ≡ min (a * copies) m → d ≡ min (c + inputs) m → k ≡ min checker m
    → e ≡ min (d + k) m → r ≡ min (e * 4) m → r ≡ min (4 * (copies * size + inputs + checker)) m
bound_stops m copies size inputs checker a c d k e r some low is_a is_c is_d is_k is_e is_r = linear (copies * size) product
  where
    own : copies ≡ min copies m
    own = omega arith

    product : c ≡ min (copies * size) m
    product = is_c ∙ ap₂ (λ x y. min (x * y) m) is_a own ∙ sat_product size copies m some ∙ ap (λ x. min x m) (mul_comm size copies)

    linear : (x : ℕ) → c ≡ min x m → r ≡ min (4 * (x + inputs + checker)) m
    linear x is = omega arith

-- the bound over a number of copies that stops at m is that over all of them
pub copies_stop : (m copies size inputs checker : ℕ) → 0 < size → min (4 * (min copies m * size + inputs + checker)) m ≡ min (4 * (copies * size + inputs + checker)) m
copies_stop m copies size inputs checker some = elim (cases_lt m copies) [
  | inl above ↦ (
      let is : min copies m ≡ m = omega arith in
      let one : m ≤ m * size = le-mul_of_pos_right m some in
      let two : copies ≤ copies * size = le-mul_of_pos_right copies some in
      let first : min copies m * size ≡ m * size = ap (λ k. k * size) is in
      omega arith)
  | inr low ↦ (
      let is : min copies m ≡ copies = omega arith in
      ap (λ k. min (4 * (k * size + inputs + checker)) m) is)
]

-- one literal asks for a bit, or none does
one_literal : (reads wanted : Bool) → cond (wants_bit (if reads then Wants wanted else Free)) 1 0 ≡ count_ones (weight_of reads)
one_literal true wanted = sym (ones-ones 1)
one_literal false wanted = sym (ones-ones 0)

-- the literals that ask for a bit are the ones among the bits that a row reads
literals_are_ones : (n care value : ℕ) → row_literals (literals_for n care value) ≡ count_ones (care % 2 ^ n)
literals_are_ones zero care value = let low : care % 2 ^ 0 < 2 ^ 0 = mod-lt care (pow_pos 0) in let none : count_ones (care % 2 ^ 0) ≤ 0 = ones-le 0 (care % 2 ^ 0) low in omega arith
literals_are_ones (suc n) care value =
    sum_by-cons (λ l. cond (wants_bit l) 1 0) (if bit_worth n care then Wants (bit_worth n value) else Free) (literals_for n care value)
    ∙ ap₂ (λ a b. a + b) (one_literal (bit_worth n care) (bit_worth n value)) (literals_are_ones n care value)
    ∙ sym (ap count_ones (mod-pow-suc n care) ∙ ones_cat n (weight_of (bit_worth n care)) (care % 2 ^ n) (mod-lt care (pow_pos n)))

-- the literals of a row that is kept as two numbers
pub literals_counted : (n care value : ℕ) → care < 2 ^ n → count_ones care ≡ row_literals (literals_for n care value)
literals_counted n care value narrow = sym (literals_are_ones n care value ∙ ap count_ones (mod-eq_of_lt narrow))
