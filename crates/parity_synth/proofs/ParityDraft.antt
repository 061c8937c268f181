-- The parity netlist of a source is one with foretold checks: a predictor for each group, which foretells it.
use Rattle.std.proofs.Common.{◌≡◌, ℕ, suc, ◌+◌, ◌^◌, ◌<◌, ◌≤◌, List, [], ◌∷◌, map, length, All, refl, ◌∙◌, ap, subst, arith}
use Rattle.fault_secure.specs.Circuit.{Circuit, nets}
use Rattle.tsc_net.specs.NetlistOf.{NetlistOf, IsBuilt}
use Rattle.tsc_net.specs.Order.{fan_ins, evaluation_order, IsOrder}
use Rattle.tsc_net.specs.Parts.{free_number}
use Rattle.tsc_bits.specs.Lists.{AreApart}
use Rattle.net_cones.specs.ConeMarks.{cone_of}
use Rattle.net_cones.specs.Cones.{IsCone}
use Rattle.parity_code.specs.FirstFit.{AreFirstFit, first_fit_groups}
use Rattle.parity_code.specs.Foretold.{Foretells}
use Rattle.parity_code.specs.ParityFunction.{outputs_at}
use Rattle.parity_code.specs.ParityCircuit.{IsGroupCone, all_predictors, check_nets, predictors_end, StandAt}
use Rattle.parity_code.specs.Predictors.{with_predictors, check_texts, predictors_size}
use Rattle.parity_code.proofs.PredictorsCounted.{predictors_counted}
use Rattle.parity_code.proofs.PredictorsForetell.{predictors_foretell}
use Rattle.code_checkers.specs.GateList.{GateList, IsCheckerOf}
use Rattle.code_checkers.specs.Within.{ReadsWord}
use Rattle.parity_synth.specs.CheckedNet.{kept_places, plan_of}
use Rattle.parity_synth.specs.ParityNet.{group_cone_of, parity_groups, parity_logic, parity_checks}
use Rattle.parity_synth.specs.Composed.{own_parts}
use Rattle.parity_synth.proofs.Begun.{sizes_are}
use Rattle.parity_synth.proofs.Cones.{cone_is, group_cones}
use Rattle.parity_synth.proofs.Drafts.{Draft, IsDraft, AreNumbered}
use Rattle.parity_synth.proofs.GroupNodes.{predictors_written, checks_are}
use Rattle.parity_synth.proofs.PlanningLemmas.{first_fit_grouped}
use Rattle.parity_synth.proofs.PredictorNodes.{Writes}
use Rattle.parity_synth.proofs.SharedNodes.{own_fresh}

-- the parity netlist, as it is composed
abbrev pub parity_draft : NetlistOf → GateList → Draft
parity_draft S made = record {
  source = S;
  logic = parity_logic S.circuit;
  checks = parity_checks S.circuit;
  parts = with_predictors S (first_fit_groups S.circuit) (own_parts S (kept_places S.circuit));
  texts = check_texts S (first_fit_groups S.circuit) (own_parts S (kept_places S.circuit));
  made = made;
}

-- a source without latches whose outputs differ, its first-fit groups with their cones, and the gates of their checker
pub record IsComposable (S : NetlistOf) (made : GateList) : Type 0 where
  pub checked : IsBuilt S
  pub none : length S.circuit.latches ≡ 0
  pub few : length S.circuit.outputs ≤ 64
  pub once : AreApart S.circuit.outputs
  pub cone : IsCone S.circuit S.circuit.outputs (kept_places S.circuit)
  pub fit : AreFirstFit S.circuit (first_fit_groups S.circuit)
  pub cones : All (IsGroupCone S.circuit) (parity_groups S.circuit)
  pub gates : IsCheckerOf (plan_of S.circuit (parity_checks S.circuit) 0 0) made
  pub words : ReadsWord (plan_of S.circuit (parity_checks S.circuit) 0 0) made
  pub room : nets S.circuit + predictors_size S.circuit (first_fit_groups S.circuit) + length made.gates < 2 ^ 32

-- a source with its groups and the gates of their checker can be composed
pub is_composable : (S : NetlistOf) (groups : List (List ℕ)) (places : List ℕ) (made : GateList) → IsBuilt S → length S.circuit.latches ≡ 0 → length S.circuit.outputs ≤ 64 → AreApart S.circuit.outputs
    → places ≡ evaluation_order (fan_ins S.circuit) → IsOrder (fan_ins S.circuit) places → AreFirstFit S.circuit groups → groups ≡ first_fit_groups S.circuit
    → IsCheckerOf (plan_of S.circuit (parity_checks S.circuit) 0 0) made → ReadsWord (plan_of S.circuit (parity_checks S.circuit) 0 0) made
    → nets S.circuit + predictors_size S.circuit groups + length made.gates < 2 ^ 32 → IsComposable S made
is_composable S groups places made checked none few once is whole fit are gates words room =
    let fit_is : AreFirstFit S.circuit (first_fit_groups S.circuit) = subst (AreFirstFit S.circuit) are fit in
    record {
      checked = checked;
      none = none;
      few = few;
      once = once;
      cone = cone_is S.circuit places is whole S.circuit.outputs;
      fit = fit_is;
      cones = group_cones S.circuit places is whole (first_fit_groups S.circuit) (first_fit_grouped S.circuit (first_fit_groups S.circuit) fit_is);
      gates = gates;
      words = words;
      room = subst (λ (gs : List (List ℕ)). nets S.circuit + predictors_size S.circuit gs + length made.gates < 2 ^ 32) are room;
    }

-- there is a check for each group
pub checks_paired : (C : Circuit) (groups : List (List ℕ)) (base : ℕ) → length (check_nets C.inputs (map (group_cone_of C) groups) base) ≡ length groups
checks_paired C [] base = refl
checks_paired C (group ∷ groups) base = ap suc (checks_paired C groups (base + (length (cone_of C (outputs_at C group)) + length group)))

-- the groups with their cones are these groups
groups_back : (C : Circuit) (groups : List (List ℕ)) → map (λ g. g.group) (map (group_cone_of C) groups) ≡ groups
groups_back C [] = refl
groups_back C (group ∷ groups) = ap (λ gs. group ∷ gs) (groups_back C groups)

module _ (S : NetlistOf) (made : GateList) (h : IsComposable S made) where
  -- so many nodes has the logic
  pub logic_sized : length (parity_logic S.circuit) ≡ predictors_size S.circuit (first_fit_groups S.circuit)
  logic_sized =
      omega (arith, predictors_counted S.circuit (parity_groups S.circuit) (length (kept_places S.circuit)) h.cones, sizes_are S.circuit (first_fit_groups S.circuit) (length (kept_places S.circuit)))

  -- the logic is written after the own covers
  written : (net : List ℕ → ℕ) (last : ℕ) → length (parity_logic S.circuit) ≤ last → AreNumbered S net last
      → Writes net (free_number S.names) 0 (own_parts S (kept_places S.circuit)) (with_predictors S (first_fit_groups S.circuit) (own_parts S (kept_places S.circuit))) (parity_logic S.circuit)
  written net last room are =
      let from : length (kept_places S.circuit) + 0 ≡ length (kept_places S.circuit) = omega arith in
      subst (λ (b : ℕ). Writes net (free_number S.names) 0 (own_parts S (kept_places S.circuit)) (with_predictors S (first_fit_groups S.circuit) (own_parts S (kept_places S.circuit)))
      (all_predictors S.circuit (parity_groups S.circuit) b)) from
      (predictors_written S net (free_number S.names) (length (kept_places S.circuit)) last h.none h.checked.closed are.inputs are.fresh (first_fit_groups S.circuit) 0 (own_parts S (kept_places S.circuit)) h.cones
      (own_fresh S (kept_places S.circuit) h.checked) (omega (arith, room, logic_sized)))

  -- and the names of its checks have the stated numbers
  numbered : (net : List ℕ → ℕ) (last : ℕ) → length (parity_logic S.circuit) ≤ last → AreNumbered S net last
      → map net (check_texts S (first_fit_groups S.circuit) (own_parts S (kept_places S.circuit))) ≡ parity_checks S.circuit
  numbered net last room are =
      let from : length (kept_places S.circuit) + 0 ≡ length (kept_places S.circuit) = omega arith in
      checks_are S net (free_number S.names) (length (kept_places S.circuit)) last h.none h.checked.closed are.inputs are.fresh (first_fit_groups S.circuit) 0 (own_parts S (kept_places S.circuit)) h.cones
      (own_fresh S (kept_places S.circuit) h.checked) (omega (arith, room, logic_sized))
      ∙ ap (check_nets S.circuit.inputs (parity_groups S.circuit)) from

  -- wherever the logic stands, it foretells the groups
  foretells : (N : Circuit) → N.inputs ≡ S.circuit.inputs → length N.latches ≡ 0 → StandAt N (length (kept_places S.circuit)) (parity_logic S.circuit)
      → Foretells S.circuit N (first_fit_groups S.circuit) (parity_checks S.circuit) (length (kept_places S.circuit)) (length (kept_places S.circuit) + length (parity_logic S.circuit))
  foretells N same latchless stand =
      let end : predictors_end (parity_groups S.circuit) (length (kept_places S.circuit)) ≡ length (kept_places S.circuit) + length (parity_logic S.circuit)
      = omega (arith, predictors_counted S.circuit (parity_groups S.circuit) (length (kept_places S.circuit)) h.cones) in
      subst (λ (gs : List (List ℕ)). Foretells S.circuit N gs (parity_checks S.circuit) (length (kept_places S.circuit)) (length (kept_places S.circuit) + length (parity_logic S.circuit)))
      (groups_back S.circuit (first_fit_groups S.circuit))
      (subst (Foretells S.circuit N (map (λ g. g.group) (parity_groups S.circuit)) (parity_checks S.circuit) (length (kept_places S.circuit))) end
      (predictors_foretell S.circuit N (h.none, latchless) same h.checked.closed h.checked.acyclic.rank h.checked.acyclic.ranks (parity_groups S.circuit) (length (kept_places S.circuit)) h.cones stand))

  -- so it is a draft
  pub is_draft : IsDraft (parity_draft S made)
  is_draft = record {
    checked = h.checked;
    none = h.none;
    few = h.few;
    once = h.once;
    cone = h.cone;
    fit = h.fit;
    written = written;
    numbered = numbered;
    foretells = foretells;
    gates = h.gates;
    words = h.words;
    room = (let room = h.room in omega (arith, room, logic_sized));
  }
