-- Each reason has one place.
use Rattle.std.proofs.Common.{◌≡◌, ℕ, ◌<◌, subst, inl, inr}
use Rattle.std.proofs.lemmas.Bool.{cases_order}
use Rattle.fault_secure.specs.Circuit.{Circuit}
use Rattle.mapping_reading.specs.Pins.{IsOpenAt, IsFirstOpen}
use Rattle.mapping_reading.specs.FoundBlocks.{FirstsAreOne}
use Rattle.mapping_reading.specs.NamedMapping.{FirstMissingIsOne}

-- numbers of which none is below another are equal
one_first : (a b : ℕ) → (a < b → ⊥) → (b < a → ⊥) → a ≡ b
one_first a b above below = elim (cases_order a b) [
  | inl same ↦ same
  | inr (inl low) ↦ absurd (above low)
  | inr (inr high) ↦ absurd (below high)
]

module _ (N G : Circuit) (at block : ℕ → ℕ) where
  one_pin : (g pin other : ℕ) → IsOpenAt N G at block g pin → IsOpenAt N G at block g other → pin ≡ other
  one_pin g pin other first second =
      one_first pin other (λ low. first.open_there (second.first pin low)) (λ low. second.open_there (first.first other low))

  one_gate : (g pin h other : ℕ) → IsFirstOpen N G at block g pin → IsFirstOpen N G at block h other → g ≡ h
  one_gate g pin h other first second = one_first g h
      (λ low. first.here.open_there (second.first g pin low first.some first.here.has))
      (λ low. second.here.open_there (first.first h other low second.some second.here.has))

-- there is at most one first shared gate, one first open pin, and one first value that a block misses
pub firsts_are_one : FirstsAreOne
firsts_are_one = record {
  gates = λ G owners none blocks d e first second. one_first d e (λ low. second.first d low first.shared) (λ low. first.first e low second.shared);
  pins = λ N G at block g pin h other first second.
      let same = one_gate N G at block g pin h other first second in
      (same, one_pin N G at block h pin other (subst (λ k. IsOpenAt N G at block k pin) same first.here) second.here);
  values = λ N G at block order j value other first second.
      one_first value other (λ low. first.missed (second.first value low)) (λ low. second.missed (first.first other low));
}

-- there is at most one first node whose net's name isn't that of a net that a gate drives
pub first_missing_is_one : FirstMissingIsOne
first_missing_is_one N G j k first second = one_first j k (λ low. first.missing (second.first j low)) (λ low. second.missing (first.first k low))
