-- The duplex netlist of a source is one with foretold checks.
use Rattle.std.proofs.Common.{◌≡◌, ℕ, ◌+◌, ◌^◌, ◌<◌, ◌≤◌, List, map, length, All, refl, ◌∙◌, ap, subst, arith}
use Rattle.std.proofs.lemmas.List.Elements.{All-weaker}
use Rattle.fault_secure.specs.Circuit.{Circuit, node_net, nets}
use Rattle.fault_secure.specs.CodePlan.{concat_places}
use Rattle.fault_secure.proofs.PlanSizes.{filled}
use Rattle.tsc_net.specs.NetlistOf.{NetlistOf}
use Rattle.tsc_net.specs.Order.{fan_ins, evaluation_order}
use Rattle.tsc_net.specs.Parts.{free_number}
use Rattle.parity_code.specs.Copy.{IsCopied}
use Rattle.parity_code.specs.FirstFit.{first_fit_groups}
use Rattle.parity_code.specs.ParityFunction.{outputs_at}
use Rattle.net_cones.specs.Cones.{IsCone}
use Rattle.parity_code.specs.ParityCircuit.{StandAt}
use Rattle.code_checkers.specs.GateList.{GateList}
use Rattle.parity_synth.specs.Planning.{AreGrouped}
use Rattle.parity_synth.specs.Composed.{own_parts}
use Rattle.parity_synth.proofs.Begun.{groups_within}
use Rattle.parity_synth.proofs.Cones.{cone_is}
use Rattle.parity_synth.proofs.PlanningLemmas.{first_fit_grouped}
use Rattle.parity_synth.proofs.PredictorNodes.{Writes}
use Rattle.parity_synth.proofs.Room.{cone_few, nodes_within, places_counted, gates_few}
use Rattle.parity_code.specs.GroupChecks.{group_check_nets, shared_checks}
use Rattle.parity_code.specs.Foretold.{Foretells}
use Rattle.parity_synth.specs.CheckedNet.{kept_places}
use Rattle.duplex_synth.specs.DuplexNet.{duplex_logic, duplex_checks}
use Rattle.duplex_synth.specs.Duplexable.{IsDuplexable}
use Rattle.parity_code.specs.SharedParts.{with_shared, shared_texts}
use Rattle.parity_code.proofs.OutputsCopied.{at_outputs, all_copied}
use Rattle.parity_code.proofs.SharedForetell.{shared_sized, shared_foretell}
use Rattle.parity_synth.proofs.SharedNodes.{own_fresh, shared_written, shared_numbered}
use Rattle.parity_synth.proofs.Drafts.{Draft, IsDraft, AreNumbered}

-- the duplex netlist, as it is composed
abbrev pub duplex_draft : NetlistOf → GateList → Draft
duplex_draft S made = record {
  source = S;
  logic = duplex_logic S.circuit;
  checks = duplex_checks S.circuit;
  parts = with_shared S (kept_places S.circuit) (first_fit_groups S.circuit) (own_parts S (kept_places S.circuit));
  texts = shared_texts S (kept_places S.circuit) (first_fit_groups S.circuit) (own_parts S (kept_places S.circuit));
  made = made;
}

module _ (S : NetlistOf) (made : GateList) (h : IsDuplexable S made) where
  -- the kept covers are those that outputs depend on
  pub cone : IsCone S.circuit S.circuit.outputs (kept_places S.circuit)
  cone = cone_is S.circuit (evaluation_order (fan_ins S.circuit)) refl h.order S.circuit.outputs

  -- the groups have each output once
  pub grouped : AreGrouped (length S.circuit.outputs) (first_fit_groups S.circuit)
  grouped = first_fit_grouped S.circuit (first_fit_groups S.circuit) h.fit

  -- the outputs of each group are copied
  groups_copied : All (λ group. All (IsCopied S.circuit (kept_places S.circuit)) (outputs_at S.circuit group)) (first_fit_groups S.circuit)
  groups_copied =
      All-weaker (All (λ place. place < length S.circuit.outputs)) (λ group. All (IsCopied S.circuit (kept_places S.circuit)) (outputs_at S.circuit group))
      (λ group within. at_outputs (IsCopied S.circuit (kept_places S.circuit)) S.circuit group (all_copied S.circuit (kept_places S.circuit) h.none h.checked.closed cone) within) (first_fit_groups S.circuit)
      (groups_within (length S.circuit.outputs) (first_fit_groups S.circuit) grouped)

  net_is : (j : ℕ) → node_net S.circuit j ≡ S.circuit.inputs + j
  net_is j = let none = h.none in omega (arith, none)

  -- so many nodes has the logic
  pub logic_sized : length (duplex_logic S.circuit) ≡ length (kept_places S.circuit) + length (concat_places (first_fit_groups S.circuit))
  logic_sized = shared_sized S.circuit S.circuit net_is (kept_places S.circuit) (first_fit_groups S.circuit) (length (kept_places S.circuit))

  -- a place for each output
  pub counted : length (concat_places (first_fit_groups S.circuit)) ≡ length S.circuit.outputs
  counted = places_counted S.circuit (first_fit_groups S.circuit) h.fit

  -- there is room for all names
  room : nets S.circuit + length (duplex_logic S.circuit) + length made.gates < 2 ^ 32
  room =
      let none = h.none in
      let few = h.few in
      let small = h.small in
      omega (arith, none, few, small, logic_sized, counted, gates_few S.circuit (duplex_checks S.circuit) made h.gates h.fit, cone_few S.circuit S.circuit.outputs (kept_places S.circuit) cone, nodes_within S.circuit)

  -- the logic is written after the own covers
  written : (net : List ℕ → ℕ) (last : ℕ) → length (duplex_logic S.circuit) ≤ last → AreNumbered S net last
      → Writes net (free_number S.names) 0 (own_parts S (kept_places S.circuit)) (with_shared S (kept_places S.circuit) (first_fit_groups S.circuit) (own_parts S (kept_places S.circuit))) (duplex_logic S.circuit)
  written net last room are =
      let from : length (kept_places S.circuit) + 0 ≡ length (kept_places S.circuit) = omega arith in
      subst (λ (b : ℕ). Writes net (free_number S.names) 0 (own_parts S (kept_places S.circuit)) (with_shared S (kept_places S.circuit) (first_fit_groups S.circuit) (own_parts S (kept_places S.circuit)))
      (shared_checks S.circuit (kept_places S.circuit) (first_fit_groups S.circuit) b)) from
      (shared_written S net (free_number S.names) (length (kept_places S.circuit)) last h.none h.checked.closed are.inputs are.fresh S.circuit.outputs (kept_places S.circuit) cone (first_fit_groups S.circuit) grouped.filled
      groups_copied 0 (own_parts S (kept_places S.circuit)) (own_fresh S (kept_places S.circuit) h.checked) (omega (arith, room, logic_sized)))

  -- and the names of its checks have the stated numbers
  numbered : (net : List ℕ → ℕ) (last : ℕ) → length (duplex_logic S.circuit) ≤ last → AreNumbered S net last
      → map net (shared_texts S (kept_places S.circuit) (first_fit_groups S.circuit) (own_parts S (kept_places S.circuit))) ≡ duplex_checks S.circuit
  numbered net last room are =
      let from : length (kept_places S.circuit) + 0 + length (kept_places S.circuit) ≡ length (kept_places S.circuit) + length (kept_places S.circuit) = omega arith in
      shared_numbered S net (free_number S.names) (length (kept_places S.circuit)) last h.none h.checked.closed are.inputs are.fresh S.circuit.outputs (kept_places S.circuit) cone (first_fit_groups S.circuit) grouped.filled
      groups_copied 0 (own_parts S (kept_places S.circuit)) (own_fresh S (kept_places S.circuit) h.checked) (omega (arith, room, logic_sized))
      ∙ ap (group_check_nets S.circuit.inputs (first_fit_groups S.circuit)) from

  -- wherever the logic stands, it foretells the groups
  foretells : (N : Circuit) → N.inputs ≡ S.circuit.inputs → length N.latches ≡ 0 → StandAt N (length (kept_places S.circuit)) (duplex_logic S.circuit)
      → Foretells S.circuit N (first_fit_groups S.circuit) (duplex_checks S.circuit) (length (kept_places S.circuit)) (length (kept_places S.circuit) + length (duplex_logic S.circuit))
  foretells N same latchless stand =
      let end : length (kept_places S.circuit) + length (kept_places S.circuit) + length (concat_places (first_fit_groups S.circuit)) ≡ length (kept_places S.circuit) + length (duplex_logic S.circuit)
      = omega (arith, logic_sized) in
      subst (Foretells S.circuit N (first_fit_groups S.circuit) (duplex_checks S.circuit) (length (kept_places S.circuit))) end
      (shared_foretell S.circuit N (h.none, latchless) same h.checked.closed.pins h.checked.acyclic.rank h.checked.acyclic.ranks S.circuit.outputs (kept_places S.circuit) cone (first_fit_groups S.circuit) grouped.filled groups_copied
      (length (kept_places S.circuit)) stand)

  -- so it is a draft
  pub is_draft : IsDraft (duplex_draft S made)
  is_draft = record {
    checked = h.checked;
    none = h.none;
    few = h.few;
    once = h.once;
    cone = cone;
    fit = h.fit;
    written = written;
    numbered = numbered;
    foretells = foretells;
    gates = h.gates;
    words = h.words;
    room = room;
  }
