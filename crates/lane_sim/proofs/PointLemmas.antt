-- Bits of words that are written, and what a point has then.
use Rattle.std.proofs.Common.{◌≡◌, ◌≢◌, ℕ, ◌+◌, ◌*◌, ◌%◌, ◌^◌, ◌<◌, Bool, true, false, cond, eqb, nat_lt, List, length, bit_and, bit_or, sym, ap, ◌∙◌, arith, lt-ltb, le-ltb}
use Rattle.std.proofs.Math.Logic.{⊎_elim}
use Rattle.std.proofs.lemmas.Bool.{cases_lt, cond-true, cond-false}
use Rattle.std.proofs.lemmas.List.{get_or_past}
use Rattle.std.proofs.lemmas.Nat.Bits.{bit_at_set_same, bit_at_set_other, bit_at_clear_same, bit_at_clear_other}
use Rattle.std.specs.Int.{bit_not}
use mir.Syntax.{w64}
use Rattle.tsc_bits.specs.Bits.{bit_worth}
use Rattle.fault_secure.specs.Circuit.{bit}
use Rattle.lane_sim.specs.Points.{source_bit}

-- ---- a bit of a word
pub bit_set_here : (word k : ℕ) → k < 64 → bit_worth k (bit_or word (1 * 2 ^ k % 2 ^ 64)) ≡ true
bit_set_here word k below = ap (λ b. eqb b 1) (bit_at_set_same w64 word k below)

pub bit_set_there : (word k i : ℕ) → k < 64 → i ≢ k → bit_worth i (bit_or word (1 * 2 ^ k % 2 ^ 64)) ≡ bit_worth i word
bit_set_there word k i below apart = ap (λ b. eqb b 1) (bit_at_set_other w64 word k below i apart)

pub bit_cleared_here : (word k : ℕ) → k < 64 → bit_worth k (bit_and word (bit_not w64 (1 * 2 ^ k % 2 ^ 64))) ≡ false
bit_cleared_here word k below = ap (λ b. eqb b 1) (bit_at_clear_same w64 word k below)

pub bit_cleared_there : (word k i : ℕ) → k < 64 → i < 64 → i ≢ k → bit_worth i (bit_and word (bit_not w64 (1 * 2 ^ k % 2 ^ 64))) ≡ bit_worth i word
bit_cleared_there word k i below inside apart = ap (λ b. eqb b 1) (bit_at_clear_other w64 word k below i inside apart)

-- ---- a point that was put
pub state_of_point : (inputs latches place : ℕ) (state : List Bool) (new : List ℕ) → length state ≡ latches
    → ((k : ℕ) → k < length state → source_bit new (inputs + k) place ≡ bit state k)
    → (k : ℕ) → cond (nat_lt k latches) (source_bit new (inputs + k) place) false ≡ bit state k
state_of_point inputs latches place state new sized put k = ⊎_elim
    (λ lt. cond-true (nat_lt k latches) _ _ (lt-ltb k latches lt) ∙ put k (omega arith))
    (λ ge. cond-false (nat_lt k latches) _ _ (le-ltb k latches ge) ∙ sym (get_or_past state k false (omega arith)))
    (cases_lt k latches)
