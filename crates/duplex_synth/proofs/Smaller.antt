-- A duplex netlist has no more covers than the parity netlist: each kept cover stands in the cone of some group.
use Rattle.std.proofs.Common.{◌≡◌, ℕ, suc, ◌+◌, ◌-◌, ◌<◌, ◌≤◌, ◌==◌, inl, inr, cond, List, [], ◌∷◌, ◌++◌, map, take, drop, length, count_by, slice_index, slice_index_or, Contains, refl, ◌∙◌, ap, arith, length-append, length-take-le, length-drop, get_or-take}
use Rattle.std.proofs.lemmas.Bool.{cases_lt}
use Rattle.std.proofs.lemmas.Bool.Decides.{nat_tests}
use Rattle.std.proofs.lemmas.Grind.{common_steps}
use Rattle.std.proofs.lemmas.List.{length-map, get_or-map, get_or_append_left, get_or-append-add, get_or-drop}
use Rattle.std.proofs.lemmas.List.Elements.{Contains-append_left, Contains-append_right, Contains-append_cases}
use Rattle.std.proofs.lemmas.List.Sums.{sum_by-cons}
use Rattle.fault_secure.specs.Circuit.{Circuit, NodeOf, node}
use Rattle.fault_secure.specs.CodePlan.{concat_places}
use Rattle.fault_secure.specs.Depends.{Depends}
use Rattle.tsc_net.specs.NetlistOf.{NetlistOf}
use Rattle.tsc_net.specs.Order.{fan_ins, evaluation_order}
use Rattle.net_cones.specs.ConeMarks.{cone_of}
use Rattle.parity_code.specs.FirstFit.{first_fit_groups}
use Rattle.parity_code.specs.Copy.{renamed}
use Rattle.parity_code.specs.ParityFunction.{outputs_at}
use Rattle.net_cones.specs.Cones.{IsCone}
use Rattle.parity_code.specs.ParityCircuit.{copy_net, copied_nodes}
use Rattle.parity_code.specs.Predictors.{predictors_size}
use Rattle.parity_code.proofs.PredictorsCounted.{predictors_counted}
use Rattle.code_checkers.specs.declared.gate.CheckGate.{CheckGate}
use Rattle.code_checkers.specs.declared.gate.CheckGate.TheVariants as gate
use Rattle.code_checkers.specs.GateList.{GateList}
use Rattle.code_checkers.specs.CheckerNodes.{gate_node, gate_nodes, checker_gates, checker_nets, checker_nodes, checker_signals}
use Rattle.parity_synth.specs.ParityNet.{parity_groups, parity_logic, parity_checks}
use Rattle.parity_synth.proofs.Begun.{sizes_are}
use Rattle.parity_synth.proofs.Cones.{cone_is, group_cones}
use Rattle.parity_synth.specs.CheckedNet.{kept_places, plan_of, word_of, checker_net_of, checked_nodes}
use Rattle.duplex_synth.specs.DuplexNet.{duplex_logic, duplex_checks}
use Rattle.duplex_synth.specs.DuplexLaws.{DuplexIsNoLarger}
use Rattle.duplex_synth.specs.Duplexable.{IsDuplexable}
use Rattle.duplex_synth.proofs.DuplexDraft.{cone, grouped, logic_sized}

-- the number of another place isn't counted
low_apart : (place x : ℕ) → place < x → cond {A = ℕ} (place == x) 1 0 ≡ 0
low_apart place x less = grind (arith, nat_tests)

high_apart : (place x : ℕ) → x < place → cond {A = ℕ} (place == x) 1 0 ≡ 0
high_apart place x less = grind (arith, nat_tests)

-- what is counted stands there
counted_there : (place : ℕ) (xs : List ℕ) → 0 < count_by (λ other. place == other) xs → Contains xs place
counted_there place [] some = absurd (let none : count_by (λ k. place == k) [] ≡ 0 = refl in omega (arith, some, none))
counted_there place (x ∷ xs) some =
    let all : count_by (λ k. place == k) (x ∷ xs) ≡ cond (place == x) 1 0 + count_by (λ k. place == k) xs = sum_by-cons (λ k. cond (place == k) 1 0) x xs in
    elim (cases_lt place x) [
      | inl low ↦ Contains-append_right (x ∷ []) xs place (counted_there place xs (omega (arith, some, all, low_apart place x low)))
      | inr above ↦ elim (cases_lt x place) [
        | inl high ↦ Contains-append_right (x ∷ []) xs place (counted_there place xs (omega (arith, some, all, high_apart place x high)))
        | inr same ↦ (let e : x ≡ place = omega arith in (0, omega arith, e))
      ]
    ]

-- a rising list whose items stand in another is no longer
rising_few : (xs ys : List ℕ) → ((i k : ℕ) → i < k → k < length xs → slice_index xs i < slice_index xs k)
    → ((k : ℕ) → k < length xs → (j : ℕ) × (j < length ys) × (slice_index ys j ≡ slice_index xs k)) → length xs ≤ length ys
rising_few [] ys rising holds = omega arith
rising_few (x ∷ xs) ys rising holds =
    let first = holds 0 (omega arith) in
    let within : first.0 < length ys = first.1 in
    let front : length (take first.0 ys) ≡ first.0 = length-take-le {A = ℕ} first.0 ys (omega arith) in
    let fewer : length (take first.0 ys ++ drop (first.0 + 1) ys) + 1 ≡ length ys = omega (arith, within, front, length-append (take first.0 ys) (drop (first.0 + 1) ys), length-drop (first.0 + 1) ys) in
    omega (arith, fewer, rising_few xs (take first.0 ys ++ drop (first.0 + 1) ys) (λ i k low there. rising (suc i) (suc k) (omega arith) (omega arith)) (kept first.0 within front first.2))
  where
    kept : (i : ℕ) → i < length ys → length (take i ys) ≡ i → slice_index ys i ≡ x → (k : ℕ) → k < length xs
        → (j : ℕ) × (j < length (take i ys ++ drop (i + 1) ys)) × (slice_index (take i ys ++ drop (i + 1) ys) j ≡ slice_index xs k)
    kept i within front is k there =
        let next = holds (suc k) (omega arith) in
        let j : ℕ = next.0 in
        let low : next.0 < length ys = next.1 in
        let at : slice_index ys next.0 ≡ slice_index xs k = next.2 in
        let less : x < slice_index xs k = rising 0 (suc k) (omega arith) (omega arith) in
        let long = length-append (take i ys) (drop (i + 1) ys) in
        let back = length-drop (i + 1) ys in
        elim (cases_lt next.0 i) [
          | inl before ↦ (next.0, omega (arith, before, long, front), get_or_append_left (take i ys) (drop (i + 1) ys) 0 next.0 (omega (arith, before, front)) ∙ get_or-take i ys next.0 0 before ∙ at)
          | inr above ↦ elim (cases_lt i next.0) [
            | inl behind ↦ (
                let place : next.0 - 1 ≡ length (take i ys) + (next.0 - 1 - i) = omega (arith, behind, front) in
                let from : i + 1 + (next.0 - 1 - i) ≡ next.0 = omega (arith, behind) in (
                  next.0 - 1,
                  omega (arith, behind, low, long, front, back),
                  ap (slice_index (take i ys ++ drop (i + 1) ys)) place ∙ get_or-append-add (take i ys) (drop (i + 1) ys) (next.0 - 1 - i) 0 ∙ get_or-drop (i + 1) ys (next.0 - 1 - i) 0 ∙ ap (slice_index ys) from ∙ at,
                ))
            | inr same ↦ (
                let e : next.0 ≡ i = omega arith in
                absurd (omega (arith, less, is, at, ap (slice_index ys) e)))
          ]
        ]

-- the cones of groups, one a group
abbrev cones_of : Circuit → List (List ℕ) → List (List ℕ)
cones_of C groups = map (λ group. cone_of C (outputs_at C group)) groups

-- the predictors have their nodes, and one for each place
sizes_split : (C : Circuit) (groups : List (List ℕ)) → predictors_size C groups ≡ length (concat_places (cones_of C groups)) + length (concat_places groups)
sizes_split C [] = refl
sizes_split C (group ∷ groups) =
    omega (arith, sizes_split C groups, length-append (cone_of C (outputs_at C group)) (concat_places (cones_of C groups)), length-append group (concat_places groups))

module _ (C : Circuit) (cones : (roots : List ℕ) → IsCone C roots (cone_of C roots)) (q o net : ℕ) (is : slice_index C.outputs o ≡ net) (depends : Depends C q net) where
  -- what an output depends on stands in the cone of its group
  in_cones : (groups : List (List ℕ)) → Contains (concat_places groups) o → Contains (concat_places (cones_of C groups)) q
  in_cones [] has = absurd (let low : has.0 < 0 = has.1 in omega (arith, low))
  in_cones (group ∷ groups) has = elim (Contains-append_cases group (concat_places groups) o has) [
    | inl here ↦ Contains-append_left (cone_of C (outputs_at C group)) (concat_places (cones_of C groups)) q ((cones (outputs_at C group)).whole q net (root group here) depends)
    | inr there ↦ Contains-append_right (cone_of C (outputs_at C group)) (concat_places (cones_of C groups)) q (in_cones groups there)
  ]
    where
      root : (group : List ℕ) → Contains group o → Contains (outputs_at C group) net
      root group (k, low, e) = (k, omega (arith, low, length-map group (slice_index C.outputs)), get_or-map (slice_index C.outputs) group k o net low ∙ ap (slice_index C.outputs) e ∙ is)

-- a gate has as many nodes over any nets
gate_same : (nets others : List ℕ) (g : CheckGate) → length (gate_node nets g) ≡ length (gate_node others g)
gate_same nets others (gate.Word place) = refl
gate_same nets others (gate.Buf a) = refl
gate_same nets others (gate.Not a) = refl
gate_same nets others (gate.And a b) = refl
gate_same nets others (gate.Or a b) = refl
gate_same nets others (gate.Xor a b) = refl

gates_same : (nets others : List ℕ) (gates : List CheckGate) → length (gate_nodes nets gates) ≡ length (gate_nodes others gates)
gates_same nets others [] = refl
gates_same nets others (g ∷ gates) =
    omega (arith, length-append (gate_node nets g) (gate_nodes nets gates), length-append (gate_node others g) (gate_nodes others gates), gate_same nets others g, gates_same nets others gates)

-- and so has a checker, whichever nets its checks are
same_gates : (C : Circuit) (a b : List ℕ) → checker_gates (plan_of C a 0 0) ≡ checker_gates (plan_of C b 0 0)
unfolding checker_signals
same_gates C a b = refl

checker_same : (C : Circuit) (a b words others : List ℕ) (next last : ℕ) → length (checker_nodes (plan_of C a 0 0) words next) ≡ length (checker_nodes (plan_of C b 0 0) others last)
checker_same C a b words others next last =
    gates_same (checker_nets (plan_of C a 0 0) words next) (checker_nets (plan_of C b 0 0) others last) (checker_gates (plan_of C a 0 0))
    ∙ ap (λ (gates : List CheckGate). length (gate_nodes (checker_nets (plan_of C b 0 0) others last) gates)) (same_gates C a b)

module _ (S : NetlistOf) (made : GateList) (h : IsDuplexable S made) where
  cones : (roots : List ℕ) → IsCone S.circuit roots (cone_of S.circuit roots)
  cones = cone_is S.circuit (evaluation_order (fan_ins S.circuit)) refl h.order

  -- each kept cover stands in the cone of a group
  kept_holds : (k : ℕ) → k < length (kept_places S.circuit)
      → (j : ℕ) × (j < length (concat_places (cones_of S.circuit (first_fit_groups S.circuit)))) × (slice_index (concat_places (cones_of S.circuit (first_fit_groups S.circuit))) j ≡ slice_index (kept_places S.circuit) k)
  kept_holds k there =
      let q : ℕ = slice_index (kept_places S.circuit) k in
      let sound = (cone S made h).sound k there in
      let o : ℕ = sound.1.0 in
      let low : sound.1.0 < length S.circuit.outputs = sound.1.1 in
      let once = (grouped S made h).once sound.1.0 low in
      let placed = counted_there sound.1.0 (concat_places (first_fit_groups S.circuit)) (omega (arith, once)) in
      let is : slice_index S.circuit.outputs sound.1.0 ≡ sound.0 = at_default S.circuit.outputs sound.1.0 sound.0 low sound.1.2 in
      let has = in_cones S.circuit cones (slice_index (kept_places S.circuit) k) sound.1.0 sound.0 is sound.2 (first_fit_groups S.circuit) placed in
      (has.0, has.1, at_default (concat_places (cones_of S.circuit (first_fit_groups S.circuit))) has.0 (slice_index (kept_places S.circuit) k) has.1 has.2)
    where
      at_default : (xs : List ℕ) (i d : ℕ) → i < length xs → slice_index_or xs i d ≡ d → slice_index xs i ≡ d
      at_default xs i d low e = grind (arith, common_steps)

  -- so there are no more of them than nodes in the cones
  kept_few : length (kept_places S.circuit) ≤ length (concat_places (cones_of S.circuit (first_fit_groups S.circuit)))
  kept_few = rising_few (kept_places S.circuit) (concat_places (cones_of S.circuit (first_fit_groups S.circuit))) (cone S made h).rising kept_holds

-- so many nodes have the predictors
predictors_sized : (S : NetlistOf) (made : GateList) → IsDuplexable S made → length (parity_logic S.circuit) ≡ predictors_size S.circuit (first_fit_groups S.circuit)
predictors_sized S made h =
    omega (
      arith,
      predictors_counted S.circuit (parity_groups S.circuit) (length (kept_places S.circuit))
          (group_cones S.circuit (evaluation_order (fan_ins S.circuit)) refl h.order (first_fit_groups S.circuit) (grouped S made h)),
      sizes_are S.circuit (first_fit_groups S.circuit) (length (kept_places S.circuit)),
    )

-- a checked netlist has its own covers, its logic and its checker
nodes_counted : (C : Circuit) (logic : List NodeOf) (checks : List ℕ)
    → length (checked_nodes C logic checks) ≡ length (kept_places C) + length logic + length (checker_nodes (plan_of C checks 0 0) (word_of C checks) (checker_net_of C logic))
nodes_counted C logic checks =
    omega (
      arith,
      length-map (kept_places C) (λ place. renamed (copy_net C (kept_places C) 0) (node C place)),
      length-append (copied_nodes C (kept_places C) 0 ++ logic) (checker_nodes (plan_of C checks 0 0) (word_of C checks) (checker_net_of C logic)),
      length-append (copied_nodes C (kept_places C) 0) logic,
    )

pub no_larger : DuplexIsNoLarger
no_larger S made h =
    omega (
      arith,
      nodes_counted S.circuit (duplex_logic S.circuit) (duplex_checks S.circuit),
      nodes_counted S.circuit (parity_logic S.circuit) (parity_checks S.circuit),
      logic_sized S made h,
      predictors_sized S made h,
      sizes_split S.circuit (first_fit_groups S.circuit),
      kept_few S made h,
      checker_same S.circuit (duplex_checks S.circuit) (parity_checks S.circuit) (word_of S.circuit (duplex_checks S.circuit)) (word_of S.circuit (parity_checks S.circuit)) (checker_net_of S.circuit (duplex_logic S.circuit)) (checker_net_of S.circuit (parity_logic S.circuit)),
    )
