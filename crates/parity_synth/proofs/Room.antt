-- How many nodes and names a parity netlist of a small network has.
use Rattle.std.proofs.Common.{◌≡◌, ℕ, zero, suc, ◌+◌, ◌*◌, ◌-◌, ◌<◌, ◌≤◌, ◌^◌, inl, inr, Bool, true, false, if◌then◌else◌, List, [], ◌∷◌, ◌++◌, map, drop, length, slice_index, slice_index_or, All, refl, sym, ◌∙◌, ap, arith, length-append}
use Rattle.std.specs.List.{list_any, sum_by}
use Rattle.std.proofs.lemmas.Bool.{cases_eq}
use Rattle.std.proofs.lemmas.Nat.{mul-le}
use Rattle.std.proofs.lemmas.List.{drop_more}
use Rattle.std.proofs.lemmas.List.Sums.{sum_by-cons}
use Rattle.std.proofs.lemmas.List.Elements.{All-head, All-tail}
use Rattle.fault_secure.specs.declared.code.Code.{Code}
use Rattle.fault_secure.specs.declared.code.Code.TheVariants.{Parity}
use Rattle.fault_secure.specs.Circuit.{Circuit, nets}
use Rattle.fault_secure.specs.CodePlan.{CodePlan, concat_places}
use Rattle.fault_secure.specs.Size.{network_size, literal_count, rows}
use Rattle.code_checkers.specs.Size.{stretch_gates, code_gates, code_pairs_most, checker_size}
use Rattle.parity_code.specs.FirstFit.{AreFirstFit, joined, first_fit, first_fit_groups, share}
use Rattle.net_cones.specs.ConeMarks.{cone_of}
use Rattle.net_cones.specs.Cones.{IsCone}
use Rattle.parity_code.specs.ParityCircuit.{GroupCone, IsGroupCone, size_of, predictors_end}
use Rattle.parity_code.specs.ParityFunction.{outputs_at}
use Rattle.parity_code.specs.Predictors.{predictors_size}
use Rattle.fault_secure.proofs.PlanSizes.{filled}
use Rattle.code_checkers.specs.GateList.{GateList, IsCheckerOf}
use Rattle.code_checkers.proofs.Sizes.{checker-few}
use Rattle.parity_synth.specs.CheckedNet.{plan_of}
use Rattle.parity_synth.specs.ParityNet.{group_cone_of}
use Rattle.parity_synth.specs.Small.{IsSmall}
use Rattle.parity_synth.proofs.Begun.{sizes_are}
use Rattle.parity_synth.proofs.PlanningLemmas.{first_fit_grouped}

-- first-fit groups have a place for each output
joined_length : (shares : ℕ → ℕ → Bool) (groups : List (List ℕ)) (o : ℕ) → length (concat_places (joined shares groups o)) ≡ 1 + length (concat_places groups)
joined_length shares [] o = refl
joined_length shares (group ∷ groups) o = choose (joined_length shares groups o) (list_any (shares o) group)
  where
    choose : length (concat_places (joined shares groups o)) ≡ 1 + length (concat_places groups) → (b : Bool)
        → length (concat_places (if b then group ∷ joined shares groups o else (group ++ o ∷ []) ∷ groups)) ≡ 1 + length (group ++ concat_places groups)
    choose deeper true = omega (arith, deeper, length-append group (concat_places (joined shares groups o)), length-append group (concat_places groups))
    choose deeper false = omega (arith, length-append (group ++ o ∷ []) (concat_places groups), length-append group (o ∷ []), length-append group (concat_places groups))

first_fit_length : (shares : ℕ → ℕ → Bool) (outputs : ℕ) → length (concat_places (first_fit shares outputs)) ≡ outputs
first_fit_length shares zero = refl
first_fit_length shares (suc outputs) = let more : length (concat_places (first_fit shares (suc outputs))) ≡ 1 + length (concat_places (first_fit shares outputs)) = joined_length shares (first_fit shares outputs) outputs in omega (arith, more, first_fit_length shares outputs)

-- first-fit groups have together as many places as there are outputs
pub places_counted : (C : Circuit) (groups : List (List ℕ)) → AreFirstFit C groups → length (concat_places groups) ≡ length C.outputs
places_counted C groups fit = ap (λ gs. length (concat_places gs)) fit.fit ∙ first_fit_length (share fit.cones) (length C.outputs)

-- a cone has no more nodes than its circuit
place_low : (places : List ℕ) → ((i k : ℕ) → i < k → k < length places → slice_index places i < slice_index places k) → (k : ℕ) → k < length places → k ≤ slice_index places k
place_low places rising zero h = omega arith
place_low places rising (suc k) h = let before = place_low places rising k (omega arith) in let up = rising k (suc k) (omega arith) h in omega (arith, before, up)

-- a cone has at most as many places as its circuit has nodes
pub cone_few : (C : Circuit) (roots places : List ℕ) → IsCone C roots places → length places ≤ length C.nodes
cone_few C roots places is = elim (cases_eq (length places) 0) [
  | inl none ↦ omega arith
  | inr some ↦ (
      let last : length places - 1 < length places = omega arith in
      let low = place_low places is.rising (length places - 1) last in
      let high = is.within (length places - 1) last in
      omega (arith, low, high))
]

-- predictors end after where they begin
pub end_behind : (groups : List GroupCone) (base : ℕ) → base ≤ predictors_end groups base
end_behind [] base = omega arith
end_behind (g ∷ groups) base = let more = end_behind groups (base + size_of g) in omega (arith, more)

-- the end of one predictor is no further than that of all
pub end_within : (C : Circuit) (groups : List (List ℕ)) (i : ℕ) (item : List ℕ) (base whole : ℕ) → i < length groups → item ≡ slice_index_or groups i item
    → predictors_end (map (group_cone_of C) (drop i groups)) base ≡ whole → base + (length (cone_of C (outputs_at C item)) + length item) ≤ whole
end_within C groups i item base whole within is all =
    let behind = end_behind (map (group_cone_of C) (drop (i + 1) groups)) (base + (length (cone_of C (outputs_at C item)) + length item)) in
    let at : predictors_end (map (group_cone_of C) (drop i groups)) base ≡ predictors_end (map (group_cone_of C) (item ∷ drop (i + 1) groups)) base
    = ap (λ (gs : List (List ℕ)). predictors_end (map (group_cone_of C) gs) base) (drop_more groups i item within ∙ ap (λ (g : List ℕ). g ∷ drop (i + 1) groups) (sym is)) in
    omega (arith, behind, at, all)

-- a network is at least as large as it has nodes
large : (a n : ℕ) → n ≤ a + n + 1
large a n = omega arith

-- a circuit's size is at least the number of its nodes
pub nodes_within : (C : Circuit) → length C.nodes ≤ network_size C
nodes_within C = large (literal_count C + rows C) (length C.nodes)

-- each predictor has a copy of no more than the network, and a node for each of its outputs
pub ends_at : (C : Circuit) (groups : List (List ℕ)) (base : ℕ) → All (IsGroupCone C) (map (group_cone_of C) groups)
    → predictors_end (map (group_cone_of C) groups) base ≤ base + length groups * length C.nodes + length (concat_places groups)
ends_at C [] base all = omega arith
ends_at C (group ∷ groups) base all =
    let cone = cone_few C _ (cone_of C (outputs_at C group)) (All-head (IsGroupCone C) (group_cone_of C group) (map (group_cone_of C) groups) all).cone in
    let more = ends_at C groups (base + (length (cone_of C (outputs_at C group)) + length group)) (All-tail (IsGroupCone C) (group_cone_of C group) (map (group_cone_of C) groups) all) in
    let both = length-append group (concat_places groups) in
    omega (arith, cone, more, both)

module _ (C : Circuit) (groups : List (List ℕ)) (small : IsSmall C groups) (all : All (IsGroupCone C) (map (group_cone_of C) groups)) where
  -- the network is at least as large as it has nodes
  nodes_low : length C.nodes ≤ network_size C
  nodes_low = nodes_within C

  -- the copies of nodes are fewer than those of the network
  copies : length groups * length C.nodes ≤ length groups * network_size C
  copies = mul-le (length groups) (length C.nodes) (length groups) (network_size C) (omega arith) nodes_low

  -- predictors end before the size of a copy for each, and a node for each output
  pub low_end : (base : ℕ) → predictors_end (map (group_cone_of C) groups) base ≤ base + length groups * network_size C + 64
  low_end base = omega (arith, ends_at C groups base all, small.few, copies)

  -- the nets of the function part have numbers
  pub room_for_nets : (base : ℕ) → base ≤ length C.nodes → C.inputs + predictors_end (map (group_cone_of C) groups) base < 2 ^ 32
  room_for_nets base within = omega (arith, low_end base, nodes_low, small.copies)

  -- the predictors of groups have few nodes
  pub predictors_few : predictors_size C groups ≤ length groups * network_size C + 64
  predictors_few = omega (arith, low_end 0, sizes_are C groups 0)

-- the gates of the checker over groups
pairs_are : (groups : List (List ℕ)) → sum_by (λ group. 2 * length group + 1) groups ≡ 2 * length (concat_places groups) + length groups
pairs_are [] = refl
pairs_are (group ∷ groups) = omega (arith, sum_by-cons (λ (g : List ℕ). 2 * length g + 1) group groups, pairs_are groups, length-append group (concat_places groups))

pub checker_of : (P : CodePlan) (groups : List (List ℕ)) → P.code ≡ Parity → P.groups ≡ groups → P.latches ≡ 0 → checker_size P ≡ 2 * length (concat_places groups) + 7 * length groups + 12
checker_of P groups code are latches =
    ap (λ (c : Code). code_gates c P + stretch_gates P.latches P.latches + 6 * (code_pairs_most c P + 1) + 3) code
    ∙ ap (λ (n : ℕ). code_gates Parity P + stretch_gates n n + 6 * (code_pairs_most Parity P + 1) + 3) latches
    ∙ ap (λ (gs : List (List ℕ)). sum_by (λ group. 2 * length group + 1) gs + stretch_gates 0 0 + 6 * (length gs + 1) + 3) are
    ∙ counted
  where
    counted : sum_by (λ group. 2 * length group + 1) groups + stretch_gates 0 0 + 6 * (length groups + 1) + 3 ≡ 2 * length (concat_places groups) + 7 * length groups + 12
    counted = omega (arith, pairs_are groups)

-- its gates are a few for each output
pub gates_few : (C : Circuit) (checks : List ℕ) (made : GateList) → IsCheckerOf (plan_of C checks 0 0) made → AreFirstFit C (first_fit_groups C) → length made.gates ≤ 9 * length C.outputs + 12
gates_few C checks made is fit =
    omega (
      arith,
      checker-few (plan_of C checks 0 0) made is,
      checker_of (plan_of C checks 0 0) (first_fit_groups C) refl refl refl,
      places_counted C (first_fit_groups C) fit,
      filled (first_fit_groups C) (first_fit_grouped C (first_fit_groups C) fit).filled,
    )

-- the names of the netlist
pub room_for_names : (C : Circuit) (groups : List (List ℕ)) (P : CodePlan) (gates : ℕ) → IsSmall C groups → length C.latches ≡ 0
    → P.code ≡ Parity → P.groups ≡ groups → P.latches ≡ 0 → gates ≤ checker_size P → predictors_size C groups ≤ length groups * network_size C + 64 → nets C + predictors_size C groups + gates < 2 ^ 32
room_for_names C groups P gates small latchless code same latches few nodes =
    omega (arith, checker_of P groups code same latches, nodes, nodes_within C, latchless, few, small.few, small.copies)
