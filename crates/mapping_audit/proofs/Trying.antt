-- 64 values more.
use Rattle.std.proofs.Common.{◌≡◌, ℕ, ◌+◌, ◌-◌, ◌*◌, ◌%◌, ◌^◌, ◌<◌, ◌≤◌, inl, inr, true, List, Option, Some, None, length, refl, sym, ◌∙◌, subst, arith, true≢false}
use Rattle.std.proofs.lemmas.Bool.{cases_lt, false_from_ne_true}
use Rattle.std.proofs.lemmas.Nat.{mod_below, pow_pos}
use Rattle.tsc_bits.specs.Bits.{bit_worth}
use Rattle.fault_secure.specs.Circuit.{Circuit}
use Rattle.code_lanes.specs.Lanes.{HasZerosWhere}
use Rattle.lane_sim.specs.First.{IsFirstIn}
use Rattle.mapping_reading.specs.ReadMapping.{block_pins}
use Rattle.mapping_audit.specs.Values.{IsGiven, AreGiven, IsFirstMissed}
use Rattle.mapping_audit.proofs.Rows.{given_again}

module _ (N G : Circuit) (at : ℕ → ℕ) (gates : List ℕ) (j block word : ℕ) (zeros : HasZerosWhere word (λ p. IsGiven N G at gates j (64 * block + p)))
    (before : (earlier : ℕ) → earlier < 64 * block → IsGiven N G at gates j earlier) where
  -- a value of the block at whose point the word has a 0
  zero_given : (e : ℕ) → 64 * block ≤ e → e < 64 * (block + 1) → (bit_worth (e - 64 * block) word ≡ true → ⊥) → IsGiven N G at gates j e
  zero_given e from low none =
      let place : 64 * block + (e - 64 * block) ≡ e = omega arith in
      subst (IsGiven N G at gates j) place ((zeros (e - 64 * block) (omega arith)).0 (false_from_ne_true (bit_worth (e - 64 * block) word) none))

  -- where the word has no 1, all of them are given
  pub block_given : (found : Option ℕ) → ((v : ℕ) → found ≡ Some v → ⊥) → IsFirstIn (λ p. bit_worth p word ≡ true) 0 64 found
      → (e : ℕ) → e < 64 * (block + 1) → IsGiven N G at gates j e
  block_given (Some v) other first e low = absurd (other v refl)
  block_given None other first e low = elim (cases_lt e (64 * block)) [
    | inl earlier ↦ before e earlier
    | inr here ↦ zero_given e (omega arith) low (first (e - 64 * block) (omega arith) (omega arith))
  ]

  -- where its first 1 is, is the first value that isn't
  pub block_missed : (v : ℕ) → IsFirstIn (λ p. bit_worth p word ≡ true) 0 64 (Some v) → IsFirstMissed N G at gates j (64 * block + v)
  block_missed v first = record { inside = inside; missed = missed; first = earlier }
    where
      missed : IsGiven N G at gates j (64 * block + v) → ⊥
      missed given = (let low : v < 64 = first.1 in true≢false (sym first.2 ∙ (zeros v low).1 given))

      earlier : (e : ℕ) → e < 64 * block + v → IsGiven N G at gates j e
      earlier e low = elim (cases_lt e (64 * block)) [
        | inl old ↦ before e old
        | inr here ↦ (let few : v < 64 = first.1 in zero_given e (omega arith) (omega arith) (first.3 (e - 64 * block) (omega arith) (omega arith)))
      ]

      inside : 64 * block + v < 2 ^ length (block_pins N at j)
      inside = elim (cases_lt (64 * block + v) (2 ^ length (block_pins N at j))) [
        | inl low ↦ low
        | inr past ↦
            let least : (64 * block + v) % 2 ^ length (block_pins N at j) < 2 ^ length (block_pins N at j) = mod_below (64 * block + v) (2 ^ length (block_pins N at j)) (pow_pos (length (block_pins N at j))) in
            absurd (missed (given_again N G at gates j (64 * block + v) (earlier ((64 * block + v) % 2 ^ length (block_pins N at j)) (omega arith))))
      ]

-- the blocks together have all values
pub all_given : (N G : Circuit) (at : ℕ → ℕ) (gates : List ℕ) (j block most : ℕ) → most ≡ 2 ^ length (block_pins N at j) → (most ≤ 64 * block)
    → ((e : ℕ) → e < 64 * block → IsGiven N G at gates j e) → AreGiven N G at gates j
all_given N G at gates j block most is past all value low = all value (omega arith)
