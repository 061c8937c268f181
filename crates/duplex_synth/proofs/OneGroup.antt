-- With one group the duplex netlist is the parity netlist.
use Rattle.std.proofs.Common.{◌≡◌, ℕ, zero, suc, ◌+◌, ◌-◌, ◌<◌, ◌⊎◌, inl, inr, Bool, true, false, if◌then◌else◌, List, [], ◌∷◌, ◌++◌, map, drop, length, slice_index, slice_index_or, refl, sym, ◌∙◌, ap, ap₂, subst, arith, append-nil, length-append}
use Rattle.std.specs.List.{list_any}
use Rattle.std.proofs.lemmas.Bool.{cases_lt}
use Rattle.std.proofs.lemmas.List.{ext_get_or, length-map, get_or-map, get_or_append_left, get_or_at}
use Rattle.fault_secure.specs.Circuit.{Circuit}
use Rattle.parity_code.specs.FirstFit.{joined, first_fit, share, first_fit_groups}
use Rattle.net_cones.specs.ConeMarks.{cone_of}
use Rattle.parity_code.specs.ParityFunction.{outputs_at}
use Rattle.parity_code.specs.ParityCircuit.{predictor_nodes, all_predictors, check_nets}
use Rattle.parity_code.proofs.PredictorsForetell.{predictor_shared}
use Rattle.parity_synth.specs.ParityNet.{group_cone_of, parity_logic, parity_checks}
use Rattle.parity_code.specs.GroupChecks.{group_check_nets, shared_checks}
use Rattle.parity_synth.specs.CheckedNet.{kept_places, checked_plan, checked_netlist}
use Rattle.duplex_synth.specs.DuplexNet.{duplex_logic, duplex_checks}
use Rattle.duplex_synth.specs.DuplexLaws.{OneGroupIsParity}

-- no group is lost when an output joins
joined_some : (shares : ℕ → ℕ → Bool) (groups : List (List ℕ)) (o : ℕ) → 0 < length (joined shares groups o)
joined_some shares [] o = omega arith
joined_some shares (group ∷ groups) o = choose (list_any (shares o) group)
  where
    choose : (b : Bool) → 0 < length (if b then group ∷ joined shares groups o else (group ++ o ∷ []) ∷ groups)
    choose true = omega arith
    choose false = omega arith

-- where one group is left, it is the output alone, or one group with the output after it
joined_one : (shares : ℕ → ℕ → Bool) (groups : List (List ℕ)) (o : ℕ) (group : List ℕ) → joined shares groups o ≡ group ∷ []
    → ((groups ≡ []) × (group ≡ o ∷ [])) ⊎ ((g : List ℕ) × (groups ≡ g ∷ []) × (group ≡ g ++ o ∷ []))
joined_one shares [] o group is = inl (refl, ap (λ (gs : List (List ℕ)). slice_index_or gs 0 []) (sym is))
joined_one shares (g ∷ groups) o group is = choose (list_any (shares o) g) is
  where
    choose : (b : Bool) → (if b then g ∷ joined shares groups o else (g ++ o ∷ []) ∷ groups) ≡ group ∷ []
        → ((g ∷ groups ≡ []) × (group ≡ o ∷ [])) ⊎ ((f : List ℕ) × (g ∷ groups ≡ f ∷ []) × (group ≡ f ++ o ∷ []))
    choose true e = absurd (let none = ap (λ (gs : List (List ℕ)). length gs) e in omega (arith, none, joined_some shares groups o))
    choose false e = inr (g, ap (λ (gs : List (List ℕ)). g ∷ drop 1 gs) e, ap (λ (gs : List (List ℕ)). slice_index_or gs 0 []) (sym e))

-- a group has the first places, so many of them, in order
record IsFirst (n : ℕ) (group : List ℕ) : Type 0 where
  pub sized : length group ≡ n
  pub own : (k : ℕ) → k < n → slice_index group k ≡ k

pushed_first : (n : ℕ) (group : List ℕ) → IsFirst n group → IsFirst (suc n) (group ++ n ∷ [])
pushed_first n group is = record {
  sized = let s = is.sized in omega (arith, s, length-append group (n ∷ []));
  own = λ k low.
      elim (cases_lt k n) [
        | inl before ↦ get_or_append_left group (n ∷ []) 0 k (let s = is.sized in omega (arith, s, before)) ∙ is.own k before
        | inr last ↦ (
            let at : k ≡ n = omega arith in
            ap (slice_index (group ++ n ∷ [])) at ∙ get_or_at group n [] 0 n is.sized ∙ sym at)
      ];
}

-- the only first-fit group has all places
only_first : (shares : ℕ → ℕ → Bool) (outputs : ℕ) (group : List ℕ) → first_fit shares outputs ≡ group ∷ [] → IsFirst outputs group
only_first shares zero group is = absurd (let none = ap (λ (gs : List (List ℕ)). length gs) is in omega (arith, none))
only_first shares (suc outputs) group is = elim (joined_one shares (first_fit shares outputs) outputs group is) [
  | inl alone ↦ first_one outputs alone.0 alone.1
  | inr more ↦ subst (IsFirst (suc outputs)) (sym more.2) (pushed_first outputs more.0 (only_first shares outputs more.0 more.1))
]
  where
    first_one : (n : ℕ) → first_fit shares n ≡ [] → group ≡ n ∷ [] → IsFirst (suc n) group
    first_one zero none e = subst (IsFirst 1) (sym e) (record { sized = refl; own = λ k low. (let at : k ≡ 0 = omega (arith, low) in ap (slice_index (0 ∷ [])) at ∙ sym at) })
    first_one (suc n) none e = absurd (let few = ap (λ (gs : List (List ℕ)). length gs) none in omega (arith, few, joined_some shares (first_fit shares n) n))

-- so its outputs are all outputs
all_outputs : (C : Circuit) (group : List ℕ) → IsFirst (length C.outputs) group → outputs_at C group ≡ C.outputs
all_outputs C group is =
    let long : length (outputs_at C group) ≡ length C.outputs = length-map group (slice_index C.outputs) ∙ is.sized in
    ext_get_or 0 (outputs_at C group) C.outputs long (λ k there. each k (omega (arith, there, long)))
  where
    each : (k : ℕ) → k < length C.outputs → slice_index (outputs_at C group) k ≡ slice_index C.outputs k
    each k low = get_or-map (slice_index C.outputs) group k 0 0 (let s = is.sized in omega (arith, s, low)) ∙ ap (slice_index C.outputs) (is.own k low)

-- a list of one
only_item : (groups : List (List ℕ)) → length groups ≡ 1 → groups ≡ slice_index_or groups 0 [] ∷ []
only_item [] one = absurd (omega (arith, one))
only_item (group ∷ []) one = refl
only_item (group ∷ (other ∷ groups)) one = absurd (omega (arith, one))

module _ (C : Circuit) (group : List ℕ) (whole : outputs_at C group ≡ C.outputs) where
  -- one copy for a group of all outputs is its predictor
  logic_same : shared_checks C (kept_places C) (group ∷ []) (length (kept_places C)) ≡ all_predictors C (map (group_cone_of C) (group ∷ [])) (length (kept_places C))
  logic_same =
      predictor_shared C (kept_places C) group (length (kept_places C)) ∙ sym (append-nil (predictor_nodes C (kept_places C) group (length (kept_places C))))
      ∙ ap (λ (cone : List ℕ). predictor_nodes C cone group (length (kept_places C)) ++ []) (ap (cone_of C) (sym whole))

  -- and its check the same net
  checks_same : group_check_nets C.inputs (group ∷ []) (length (kept_places C) + length (kept_places C)) ≡ check_nets C.inputs (map (group_cone_of C) (group ∷ [])) (length (kept_places C))
  checks_same =
      let cone : length (cone_of C (outputs_at C group)) ≡ length (kept_places C) = ap (λ (roots : List ℕ). length (cone_of C roots)) whole in
      let at : C.inputs + (length (kept_places C) + length (kept_places C) + length group - 1) ≡ C.inputs + (length (kept_places C) + (length (cone_of C (outputs_at C group)) + length group) - 1) = omega (arith, cone) in
      ap (λ (n : ℕ). let list : List ℕ = n ∷ [] in list) at

pub one_group : OneGroupIsParity
one_group S made h one =
    let only : first_fit_groups S.circuit ≡ slice_index_or (first_fit_groups S.circuit) 0 [] ∷ [] = only_item (first_fit_groups S.circuit) one in
    let first = only_first (share h.fit.cones) (length S.circuit.outputs) (slice_index_or (first_fit_groups S.circuit) 0 []) (sym h.fit.fit ∙ only) in
    let whole = all_outputs S.circuit (slice_index_or (first_fit_groups S.circuit) 0 []) first in
    let logic : duplex_logic S.circuit ≡ parity_logic S.circuit
    = ap (λ (gs : List (List ℕ)). shared_checks S.circuit (kept_places S.circuit) gs (length (kept_places S.circuit))) only ∙ logic_same S.circuit (slice_index_or (first_fit_groups S.circuit) 0 []) whole
    ∙ ap (λ (gs : List (List ℕ)). all_predictors S.circuit (map (group_cone_of S.circuit) gs) (length (kept_places S.circuit))) (sym only) in
    let checks : duplex_checks S.circuit ≡ parity_checks S.circuit
    = ap (λ (gs : List (List ℕ)). group_check_nets S.circuit.inputs gs (length (kept_places S.circuit) + length (kept_places S.circuit))) only
    ∙ checks_same S.circuit (slice_index_or (first_fit_groups S.circuit) 0 []) whole ∙ ap (λ (gs : List (List ℕ)). check_nets S.circuit.inputs (map (group_cone_of S.circuit) gs) (length (kept_places S.circuit))) (sym only) in (
      ap₂ (checked_netlist S) logic checks,
      ap₂ (checked_plan S.circuit) logic checks,
    )
