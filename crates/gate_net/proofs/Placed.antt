-- What the places of gates keep.
use Rattle.std.specs.Prelude.{◌≡◌, ℕ, zero, suc, ◌<◌, ◌↔◌, Bool, true, false, List, [], ◌∷◌, ◌++◌, length, slice_get, None, Some, if◌then◌else◌, refl}
use Rattle.std.specs.List.{list_any}
use Rattle.std.specs.HashMap.{HashMap, get, Updates}
use Rattle.std.proofs.Common.{sym, ◌∙◌, ap, subst, arith, inl, inr, get_or}
use Rattle.std.proofs.Math.Path.{fun_ext}
use Rattle.std.proofs.lemmas.List.{length-append}
use Rattle.std.proofs.lemmas.List.Folds.{list_any_none, list_any_at}
use Rattle.std.proofs.lemmas.Option.{none-some, same_Some, slice_get_within, slice_get-get_or, get_or_from_slice_get}
use Rattle.std.proofs.lemmas.Bool.{cases_Bool, cases_lt, false≢true}
use Rattle.gate_net.specs.declared.gate.Gate.{Gate}
use Rattle.gate_net.specs.declared.gate.Gate.TheVariants as gate
use Rattle.gate_net.specs.contracts.gate.GatePartialEq.TheImpl.{eq-value}
use Rattle.gate_net.specs.Gates.{same_gate, gates_with}
use Rattle.gate_net.specs.Places.{ArePlaces}
use Rattle.gate_net.proofs.SameGate.{gates_alike, same_gate-refl, same_gate-is}

alike : (λ (g h : Gate). eq-value.it g h) ≡ same_gate
alike = fun_ext (λ g. fun_ext (gates_alike g))

-- the gate that came last
pub last_gate : (gates : List Gate) (g : Gate) → slice_get (gates ++ g ∷ []) (length gates) ≡ Some g
last_gate [] g = refl
last_gate (h ∷ gates) g = last_gate gates g

-- the gates before it
earlier_gate : (gates : List Gate) (g : Gate) (place : ℕ) → place < length gates → slice_get (gates ++ g ∷ []) place ≡ slice_get gates place
earlier_gate [] g place lt = absurd (omega (arith, lt))
earlier_gate (h ∷ gates) g zero lt = refl
earlier_gate (h ∷ gates) g (suc place) lt = earlier_gate gates g place (omega (arith, lt))

module _ {S : Type 0} (gates : List Gate) (places : HashMap Gate ℕ S) (g : Gate) (placed : ArePlaces gates places) where
  -- the place that is found has the gate
  pub found_there : (place : ℕ) → Some place ≡ get eq-value.it places g → slice_get gates place ≡ Some g
  found_there place found = (placed g place).1 (subst (λ (eq : Gate → Gate → Bool). get eq places g ≡ Some place) alike (sym found))

  -- so no gate comes
  pub with_found : (place : ℕ) → Some place ≡ get eq-value.it places g → gates ≡ gates_with gates g
  with_found place found =
      let there : slice_get gates place ≡ Some g = found_there place found in
      let among : list_any (same_gate g) gates ≡ true = list_any_at (same_gate g) gates place gate.Zero (slice_get_within gates place g there) (ap (same_gate g) (get_or_from_slice_get gates place g gate.Zero there) ∙ same_gate-refl g) in
      sym (ap (λ (b : Bool). if b then gates else gates ++ g ∷ []) among)

  module _ (missing : None ≡ get eq-value.it places g) where
    nowhere : (place : ℕ) → slice_get gates place ≡ Some g → ⊥
    nowhere place there = none-some place (subst (λ (eq : Gate → Gate → Bool). None ≡ get eq places g) alike missing ∙ (placed g place).0 there)

    -- a gate that isn't found comes last
    pub with_missing : gates ++ g ∷ [] ≡ gates_with gates g
    with_missing = sym (ap (λ (b : Bool). if b then gates else gates ++ g ∷ []) (list_any_none (same_gate g) gates absent))
      where
        absent : (k : ℕ) (d : Gate) → k < length gates → same_gate g (get_or gates k d) ≡ false
        absent k d lt = elim (cases_Bool (same_gate g (get_or gates k d))) [
          | inl same ↦ absurd (nowhere k (slice_get-get_or gates k d lt ∙ ap (λ (h : Gate). Some h) (sym (same_gate-is g (get_or gates k d) same))))
          | inr other ↦ other
        ]

    -- and its place is the number of gates before it
    pub placed_push : (other : HashMap Gate ℕ S) → Updates eq-value.it places other g (Some (length gates)) → ArePlaces (gates ++ g ∷ []) other
    placed_push other updated h place = elim (cases_Bool (same_gate g h)) [
      | inl same ↦ subst (λ (k : Gate). (slice_get (gates ++ g ∷ []) place ≡ Some k) ↔ (get same_gate other k ≡ Some place)) (same_gate-is g h same) (at_last, from_last)
      | inr apart ↦ (λ there. updates.2 h apart ∙ (placed h place).0 (was_there apart there), λ found. is_there ((placed h place).1 (sym (updates.2 h apart) ∙ found)))
    ]
      where
        updates : Updates same_gate places other g (Some (length gates))
        updates = subst (λ (eq : Gate → Gate → Bool). Updates eq places other g (Some (length gates))) alike updated

        seam : (k : Gate) → slice_get (gates ++ g ∷ []) place ≡ Some k → (place < length gates → ⊥) → length gates ≡ place
        seam k there high = omega (arith, slice_get_within (gates ++ g ∷ []) place k there, length-append gates (g ∷ []), high)

        at_last : slice_get (gates ++ g ∷ []) place ≡ Some g → get same_gate other g ≡ Some place
        at_last there = elim (cases_lt place (length gates)) [
          | inl low ↦ absurd (nowhere place (sym (earlier_gate gates g place low) ∙ there))
          | inr high ↦ subst (λ (k : ℕ). get same_gate other g ≡ Some k) (seam g there (λ lt. omega (arith, lt, high))) updates.1
        ]

        from_last : get same_gate other g ≡ Some place → slice_get (gates ++ g ∷ []) place ≡ Some g
        from_last found = subst (λ (k : ℕ). slice_get (gates ++ g ∷ []) k ≡ Some g) (same_Some (length gates) place (sym updates.1 ∙ found)) (last_gate gates g)

        was_there : same_gate g h ≡ false → slice_get (gates ++ g ∷ []) place ≡ Some h → slice_get gates place ≡ Some h
        was_there apart there = elim (cases_lt place (length gates)) [
          | inl low ↦ sym (earlier_gate gates g place low) ∙ there
          | inr high ↦
              let same : g ≡ h = same_Some g h (sym (subst (λ (k : ℕ). slice_get (gates ++ g ∷ []) k ≡ Some g) (seam h there (λ lt. omega (arith, lt, high))) (last_gate gates g)) ∙ there) in
              absurd (false≢true (sym apart ∙ ap (same_gate g) (sym same) ∙ same_gate-refl g))
        ]

        is_there : slice_get gates place ≡ Some h → slice_get (gates ++ g ∷ []) place ≡ Some h
        is_there there = earlier_gate gates g place (slice_get_within gates place h there) ∙ there
