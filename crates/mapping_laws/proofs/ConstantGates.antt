-- A constant has a gate: with none, its net could have either bit.
use Rattle.std.proofs.Common.{◌≡◌, ℕ, zero, suc, ◌<◌, ◌⊎◌, Bool, true, false, not, List, replicate, length, sym, subst, ◌∙◌, inl, inr, arith}
use Rattle.std.proofs.lemmas.Bool.{cases_eq, cases_lt, true≢false, false≢true}
use Rattle.std.proofs.lemmas.List.{length-replicate, get_or-replicate}
use Rattle.tsc_cover.specs.Cover.{truth}
use Rattle.fault_secure.specs.Circuit.{Circuit, node, node_net, nets}
use Rattle.mapping_laws.specs.Mapping.{IsMapped, BlockSettles}
use Rattle.mapping_laws.specs.MappingLaws.{ConstantHasGate}

-- a number below n at which f is j, if any
abbrev Found : (ℕ → ℕ) → ℕ → ℕ → Type 0
Found f j n = (g : ℕ) × (g < n) × (f g ≡ j)

abbrev None : (ℕ → ℕ) → ℕ → ℕ → Type 0
None f j n = (g : ℕ) → g < n → f g ≡ j → ⊥

search_more : (f : ℕ → ℕ) (j n : ℕ) → Found f j n ⊎ None f j n → (f n ≡ j) ⊎ (f n ≡ j → ⊥) → Found f j (suc n) ⊎ None f j (suc n)
search_more f j n (inl found) last = inl (found.0, omega (arith, found.1), found.2)
search_more f j n (inr none) (inl here) = inl (n, omega arith, here)
search_more f j n (inr none) (inr off) = inr (λ g h e. elim (cases_lt g n) [
  | inl below ↦ none g below e
  | inr from ↦ off (subst (λ k. f k ≡ j) (omega arith) e)
])

search_below : (f : ℕ → ℕ) (j n : ℕ) → Found f j n ⊎ None f j n
search_below f j zero = inr (λ g h e. absurd (omega arith))
search_below f j (suc n) = search_more f j n (search_below f j n) (cases_eq (f n) j)

differs : (b : Bool) → not b ≡ b → ⊥
differs true e = false≢true e
differs false e = true≢false e

module _ (N G : Circuit) (at block : ℕ → ℕ) (j : ℕ) (constant : Bool) (m : IsMapped N G at block) (inside : j < length N.nodes)
    (is : (bits : List Bool) → truth (node N j).cover bits ≡ constant) where
  -- all nets have the other bit
  abbrev other : List Bool
  other = replicate (nets G) (not constant)

  no_gate_settles : None block j (length G.nodes) → BlockSettles G block j other
  no_gate_settles none = record { sized = length-replicate (nets G) (not constant); gates = λ g h e. absurd (none g h e) }

  some_gate : None block j (length G.nodes) → ⊥
  some_gate none =
      let low : at (node_net N j) < nets G = m.inside (node_net N j) (omega arith) in
      differs constant (sym (get_or-replicate (nets G) (at (node_net N j)) (not constant) false low) ∙ m.computes j other inside (no_gate_settles none) ∙ is _)

pub constant_has_gate : ConstantHasGate
constant_has_gate N G at block j constant m inside is = elim (search_below block j (length G.nodes)) [
  | inl found ↦ found
  | inr none ↦ absurd (some_gate N G at block j constant m inside is none)
]
