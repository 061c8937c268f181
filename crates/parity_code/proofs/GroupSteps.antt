-- Steps of making the groups.
use Rattle.std.proofs.Common.{◌≡◌, ℕ, zero, suc, ◌+◌, ◌<◌, ◌≤◌, inl, inr, Bool, List, [], ◌∷◌, ◌++◌, take, length, slice_index, slice_index_or, All, sym, ◌∙◌, ap, subst, arith, length-append, length-take-le, get_or-take}
use Rattle.std.proofs.lemmas.Bool.{cases_lt}
use Rattle.std.proofs.lemmas.Grind.{common_steps}
use Rattle.std.proofs.lemmas.List.{length-map, get_or-map, get_or_append_left, get_or-append-add}
use Rattle.std.proofs.lemmas.List.Elements.{All-get_or, All-from_get_or}
use Rattle.fault_secure.specs.Circuit.{Circuit, nets}
use Rattle.fault_secure.specs.Closed.{IsClosed}
use Rattle.tsc_net.specs.PlanView.{net_numbers}
use Rattle.tsc_net.specs.declared.ids.NetId.{NetId}
use Rattle.net_cones.specs.Cones.{MarksCone}
use Rattle.parity_code.specs.FirstFit.{marks_of, first_fit}
use Rattle.parity_code.specs.Cones.{AreCones}
use Rattle.parity_code.proofs.FirstFitLemmas.{first_fit-within}
use Rattle.parity_code.proofs.PlacesWithin.{places_within}

-- a default doesn't matter at a place of the list
pub get_default : (groups : List (List ℕ)) (place : ℕ) (d : List ℕ) → place < length groups → d ≡ slice_index_or groups place d → d ≡ slice_index_or groups place []
get_default groups place d within is = grind (arith, common_steps)

-- the number of an output's net
pub output_number : (C : Circuit) (outputs : List NetId) → net_numbers outputs ≡ C.outputs → (i : ℕ) (d : NetId) → i < length outputs → (slice_index_or outputs i d).number ≡ slice_index C.outputs i
output_number C outputs is i d within = sym (get_or-map (λ net. net.number) outputs i d 0 within) ∙ ap (λ xs. slice_index xs i) is

-- an output of a closed circuit is a net
pub output_within : (C : Circuit) (outputs : List NetId) → IsClosed C → net_numbers outputs ≡ C.outputs → (i : ℕ) (d : NetId) → i < length outputs → (slice_index_or outputs i d).number < nets C
output_within C outputs closed is i d within =
    let count : length (net_numbers outputs) ≡ length outputs = length-map outputs (λ net. net.number) in
    let same : length (net_numbers outputs) ≡ length C.outputs = ap length is in
    let e : (slice_index_or outputs i d).number ≡ slice_index C.outputs i = output_number C outputs is i d within in
    let b : slice_index C.outputs i < nets C = All-get_or (λ net. net < nets C) C.outputs i 0 (omega arith) closed.outputs in
    omega arith

-- one net alone
pub one_net : (m : ℕ) (net : NetId) → net.number < m → (k : ℕ) (d : NetId) → k < 1 → (slice_index_or (net ∷ []) k d).number < m
one_net m net below zero d h = below
one_net m net below (suc k) d h = absurd (omega arith)

-- one cone more
pub cones_more : (C : Circuit) (roots : List ℕ) (i : ℕ) (cones : List (List Bool)) (marks : List Bool) → i < length roots → AreCones C (take i roots) cones
    → MarksCone C (slice_index roots i ∷ []) marks → AreCones C (take (i + 1) roots) (cones ++ marks ∷ [])
cones_more C roots i cones marks within are is = record {
  sized = (let a : length (cones ++ marks ∷ []) ≡ length cones + 1 = length-append cones (marks ∷ []) in
      let s : length cones ≡ length (take i roots) = are.sized in omega (arith, front, back));
  each = λ o there. each o (omega (arith, back));
}
  where
    front : length (take i roots) ≡ i
    front = length-take-le {A = ℕ} i roots (omega arith)

    back : length (take (i + 1) roots) ≡ i + 1
    back = length-take-le {A = ℕ} (i + 1) roots (omega arith)

    each : (o : ℕ) → o < i + 1 → MarksCone C (slice_index (take (i + 1) roots) o ∷ []) (marks_of (cones ++ marks ∷ []) o)
    each o there =
        let s : length cones ≡ length (take i roots) = are.sized in
        let root : slice_index (take (i + 1) roots) o ≡ slice_index roots o = get_or-take (i + 1) roots o 0 there in
        elim (cases_lt o i) [
          | inl low ↦ (
              let old : slice_index (take i roots) o ≡ slice_index roots o = get_or-take i roots o 0 low in
              let e : marks_of (cones ++ marks ∷ []) o ≡ marks_of cones o = get_or_append_left cones (marks ∷ []) [] o (omega (arith, front)) in
              subst (λ r. MarksCone C (r ∷ []) (marks_of (cones ++ marks ∷ []) o)) (old ∙ sym root)
              (subst (λ m. MarksCone C (slice_index (take i roots) o ∷ []) m) (sym e) (are.each o (omega (arith, front)))))
          | inr high ↦ (
              let at : o ≡ i = omega arith in
              let f : o ≡ length cones + 0 = omega (arith, front) in
              let e : marks_of (cones ++ marks ∷ []) o ≡ marks = ap (marks_of (cones ++ marks ∷ [])) f ∙ get_or-append-add cones (marks ∷ []) 0 [] in
              subst (λ r. MarksCone C (r ∷ []) (marks_of (cones ++ marks ∷ []) o)) (sym (ap (slice_index roots) at) ∙ sym root)
              (subst (λ m. MarksCone C (slice_index roots i ∷ []) m) (sym e) is))
        ]

-- the members of first-fit groups are below the number of outputs
pub members_within : (shares : ℕ → ℕ → Bool) (groups : List (List ℕ)) (outputs more : ℕ) → groups ≡ first_fit shares outputs → outputs ≤ more → All (All (λ member. member < more)) groups
members_within shares groups outputs more is up =
    All-from_get_or (All (λ member. member < more)) groups [] (λ i there.
    subst (λ gs. All (λ member. member < more) (slice_index_or gs i [])) (sym is)
    (places_within (λ member. member < more) (first_fit shares outputs) (first_fit-within shares outputs more up) i))
