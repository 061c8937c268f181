-- Where a state's word stands in a plan.
use Rattle.std.proofs.Common.{◌≡◌, ℕ, ◌<◌, ◌==◌, Bool, false, List, [], length, position, Some, slice_index_or, sym, ◌∙◌, ap, inl, inr, arith, if◌then◌else◌}
use Rattle.std.proofs.lemmas.Bool.{cases_Bool, eqb-true}
use Rattle.fault_secure.specs.CodePlan.{CodePlan}
use Rattle.fault_secure.specs.FaultSecure.{equal_bits, state_at}
use Rattle.tsc_bits.proofs.Lists.{found_at, finds}
use Rattle.fault_secure.proofs.EqualBits.{same_bits, bits_same}

module _ (P : CodePlan) (some : 0 < P.latches) where
  latched : (P.latches == 0) ≡ false
  latched = elim (cases_Bool (P.latches == 0)) [
    | inl yes_ ↦ (let e : P.latches ≡ 0 = eqb-true P.latches 0 yes_ in absurd (omega arith))
    | inr no_ ↦ no_
  ]

  by_words : (s : List Bool) → state_at P s ≡ position (equal_bits s) P.states
  by_words s = ap (λ b. if b then Some 0 else position (equal_bits s) P.states) latched

  -- the state whose word is held has that word
  pub held_word : (s : List Bool) (q : ℕ) → state_at P s ≡ Some q → (q < length P.states) × (s ≡ slice_index_or P.states q [])
  held_word s q is =
      let found = found_at (equal_bits s) P.states q [] (sym (by_words s) ∙ is) in
      (found.0, same_bits s (slice_index_or P.states q []) found.1)

  -- and a word is that of its state
  pub word_held : (s : List Bool) (q : ℕ) → ((a b : ℕ) → a < b → b < length P.states → slice_index_or P.states a [] ≡ slice_index_or P.states b [] → ⊥)
      → q < length P.states → s ≡ slice_index_or P.states q [] → state_at P s ≡ Some q
  word_held s q distinct low is =
      by_words s ∙ finds (equal_bits s) P.states q [] low
      (λ k less. elim (cases_Bool (equal_bits s (slice_index_or P.states k []))) [
        | inl yes_ ↦ absurd (distinct k q less low (sym (same_bits s (slice_index_or P.states k []) yes_) ∙ is))
        | inr no_ ↦ no_
      ])
      (ap (equal_bits s) (sym is) ∙ bits_same s)
