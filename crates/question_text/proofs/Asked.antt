-- What a row asks, pin by pin; and rows one after another.
use Rattle.std.proofs.Common.{◌≡◌, ℕ, zero, suc, ◌+◌, ◌-◌, Bool, true, false, cond, List, [], ◌∷◌, ◌++◌, nat_lt, refl, arith}
use Rattle.tsc_cover.specs.Cover.{Literal as PinLiteral, Free, Wants, literals}
use Rattle.tsc_bits.specs.Bits.{bit_worth}
use Rattle.exact_question.specs.Rows.{literal, asked}
use Rattle.question_text.specs.Covers.{asked_at}

pub asked_next : (width care value pin net : ℕ) (nets : List ℕ)
    → asked (literals (width - pin) care value) (net ∷ nets) ≡ asked_at width care value pin net ++ asked (literals (width - (pin + 1)) care value) nets
asked_next width care value pin net nets = by (width - pin) refl
  where
    here : (k : ℕ) (b : Bool) → bit_worth k care ≡ b
        → asked (cond b (Wants (bit_worth k value)) Free ∷ literals k care value) (net ∷ nets) ≡ cond b (literal net (bit_worth k value) ∷ []) [] ++ asked (literals k care value) nets
    here k true is = refl
    here k false is = refl

    by : (left : ℕ) → width - pin ≡ left → asked (literals left care value) (net ∷ nets) ≡ asked_at width care value pin net ++ asked (literals (width - (pin + 1)) care value) nets
    by zero is =
        let past : nat_lt pin width ≡ false = grind arith in
        let none : width - (pin + 1) ≡ 0 = omega arith in
        rw (past, none) refl
    by (suc k) is =
        let below : nat_lt pin width ≡ true = grind arith in
        let place : width - 1 - pin ≡ k = omega arith in
        let next : width - (pin + 1) ≡ k = omega arith in
        rw (below, place, next) (here k (bit_worth k care) refl)

pub asked_none : (row : List PinLiteral) → asked row [] ≡ []
asked_none [] = refl
asked_none (l ∷ row) = refl
