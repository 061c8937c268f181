-- The first set bit of words, and the first number at which one of two facts holds that say the same.
use Rattle.std.proofs.Common.{◌≡◌, ℕ, ◌+◌, ◌-◌, ◌/◌, ◌%◌, ◌^◌, ◌<◌, ◌≤◌, true, eqb, Option, Some, None, sym, ap, ◌∙◌, arith, true≢false}
use Rattle.std.proofs.Math.Logic.{⊎_elim}
use Rattle.std.proofs.Math.Nat.{div-div-eq-div-mul}
use Rattle.std.proofs.Math.Pow.{pow_mono}
use Rattle.std.proofs.lemmas.Bool.{cases_lt}
use Rattle.std.proofs.lemmas.Nat.{pow-add}
use Rattle.std.proofs.lemmas.Nat.Bits.{bit_at-trailing_zeros, bit_at-zero}
use Rattle.std.specs.Int.{trailing_zeros}
use mir.Syntax.{w64}
use Rattle.tsc_bits.specs.Bits.{bit_worth}
use Rattle.lane_sim.specs.First.{IsFirstIn}

-- ---- a word

-- the bits from a place on are those of the word that is shifted by it
bit_above : (word from k : ℕ) → bit_worth k (word / 2 ^ from) ≡ bit_worth (from + k) word
bit_above word from k =
    ap (λ n. eqb (n % 2) 1) (div-div-eq-div-mul word (2 ^ from) (2 ^ k) ∙ ap (λ n. word / n) (sym (pow-add 2 from k)))

bit_past : (word from p : ℕ) → from ≤ p → bit_worth (p - from) (word / 2 ^ from) ≡ bit_worth p word
bit_past word from p past = bit_above word from (p - from) ∙ ap (λ n. bit_worth n word) (omega arith)

-- no bit is set where the shifted word is 0
pub none_set : (word from : ℕ) → word / 2 ^ from ≡ 0 → IsFirstIn (λ k. bit_worth k word ≡ true) from 64 None
none_set word from zero p past below is =
    true≢false (sym is ∙ sym (bit_past word from p past) ∙ ap (bit_worth (p - from)) zero ∙ ap (λ b. eqb b 1) (bit_at-zero (p - from)))

-- a word of 64 bits has no bit after them
no_bit : (word k : ℕ) → word < 2 ^ 64 → 64 ≤ k → bit_worth k word ≡ true → ⊥
no_bit word k fits past is =
    let far : 2 ^ 64 ≤ 2 ^ k = pow_mono past in
    let none : word / 2 ^ k ≡ 0 = div_none word (2 ^ k) (omega arith) in
    true≢false (sym is ∙ ap (λ n. eqb (n % 2) 1) none)
  where
    div_none : (a b : ℕ) → a < b → a / b ≡ 0
    div_none a b below = grind arith

-- the first is the place of the lowest 1 of the shifted word
pub first_set : (word from : ℕ) → word < 2 ^ 64 → from < 64 → 0 < word / 2 ^ from
    → IsFirstIn (λ k. bit_worth k word ≡ true) from 64 (Some (from + trailing_zeros w64 (word / 2 ^ from)))
first_set word from fits low some =
    let rest = word / 2 ^ from in
    let t = trailing_zeros w64 rest in
    let smaller : rest < 2 ^ 64 = omega arith in
    let lowest = bit_at-trailing_zeros w64 rest some smaller in
    let set : bit_worth (from + t) word ≡ true = sym (bit_above word from t) ∙ ap (λ b. eqb b 1) lowest.1 in (
      omega arith,
      ⊎_elim (λ below. below) (λ past. absurd (no_bit word (from + t) fits past set)) (cases_lt (from + t) 64),
      set,
      λ p past before is. true≢false (sym is ∙ sym (bit_past word from p past) ∙ ap (λ b. eqb b 1) (lowest.2 (p - from) (omega arith))),
    )

-- ---- words that are 0

-- ---- facts that say the same

-- the first number at which one fact holds is the first of another that holds at the same numbers
pub first_same : (E F : ℕ → Type 0) (low high : ℕ) (found : Option ℕ) → ((p : ℕ) → p < high → E p → F p) → ((p : ℕ) → p < high → F p → E p)
    → IsFirstIn E low high found → IsFirstIn F low high found
first_same E F low high None to from none = λ p past below h. none p past below (from p below h)
first_same E F low high (Some place) to from first =
    let inside : place < high = first.1 in
    (first.0, inside, to place inside first.2, λ p past below h. first.3 p past below (from p (omega arith) h))
