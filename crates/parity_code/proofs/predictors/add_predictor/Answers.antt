use Rattle.std.proofs.Common.{◌≡◌, ℕ, ◌<◌, List, All, map, length, ap, sym, ◌∙◌, subst}
use Rattle.tsc_net.specs.NetlistOf.{NetlistOf}
use Rattle.fault_secure.specs.Closed.{IsClosed}
use Rattle.fault_secure.specs.Circuit.{Circuit}
use Rattle.tsc_net.specs.Parts.{PartsOf}
use Rattle.tsc_net.specs.PartsView.{text_of}
use Rattle.tsc_net.specs.declared.ids.Name.{Name}
use Rattle.net_cones.specs.ConeMarks.{cone_of}
use Rattle.net_cones.specs.Cones.{IsCone}
use Rattle.parity_code.specs.ParityFunction.{outputs_at}
use Rattle.parity_code.specs.Predictors.{with_fresh_names, with_nodes, node_by}
use Rattle.parity_code.specs.PredictorSteps.{name_at, NamesCopy, IsNameable}
use Rattle.tsc_net.proofs.ResultLemmas.{on_ok_so}
use Rattle.parity_code.proofs.PredictorGroups.{CopyMade, made_nameable, made_outputs, made_room, made_predictor}
use Rattle.parity_code.proofs.predictors.add_predictor.Goals as goal

-- the copy, as it was made over the cone's slice
made : (S : NetlistOf) (group cone places : List ℕ) (p q : PartsOf) (names : List Name) → length S.circuit.latches ≡ 0 → IsClosed S.circuit
    → All (λ place. place < length S.circuit.outputs) group → IsCone S.circuit (outputs_at S.circuit group) cone → cone ≡ cone_of S.circuit (outputs_at S.circuit group)
    → places ≡ cone → NamesCopy S places p q names → q ≡ with_fresh_names (length places) p → CopyMade S group places p q names
made S group cone places p q names none closed within is computed whole copy fresh = record {
  latchless = none;
  closed = closed;
  within = within;
  is_cone = subst (IsCone S.circuit (outputs_at S.circuit group)) (sym whole) is;
  computed = whole ∙ computed;
  copy = copy;
  fresh = fresh;
}

-- the nodes that were added over other slices of the same lists
added_at : (C : Circuit) (q r : PartsOf) (names slice : List Name) (cone places : List ℕ) → slice ≡ names → places ≡ cone
    → r ≡ with_nodes q (map (node_by C (λ n. text_of q.names (name_at slice n))) places) → r ≡ with_nodes q (map (node_by C (λ n. text_of q.names (name_at names n))) cone)
added_at C q r names slice cone places same whole added =
    added ∙ ap (λ (list : List Name). with_nodes q (map (node_by C (λ n. text_of q.names (name_at list n))) places)) same
    ∙ ap (λ (list : List ℕ). with_nodes q (map (node_by C (λ n. text_of q.names (name_at names n))) list)) whole

pub add_nodes-requires-clause-nameable : goal.add_nodes-requires-clause-nameable
add_nodes-requires-clause-nameable c =
    let S = c.args.net.now in
    let copy = made c.args.net.now c.args.group.now c.in_ok-cone.cone c.as_slice.result.now c.args.parts.now c.copy_names.new.parts c.in_ok-names.names.items
    c.requires.combinational c.nets-nets.ensures.checked.closed c.requires.within c.in_ok-cone.ensures.cone c.in_ok-cone.ensures.computed c.as_slice.ensures.whole
    c.in_ok-names.ensures.names c.in_ok-names.ensures.parts in
    subst (λ (list : List Name). All (IsNameable c.args.net.now.circuit c.copy_names.new.parts.names list) c.as_slice-2.result.now) (sym c.deref.ensures.value)
    (subst (All (IsNameable c.args.net.now.circuit c.copy_names.new.parts.names c.in_ok-names.names.items)) (c.as_slice.ensures.whole ∙ sym c.as_slice-2.ensures.whole)
    (made_nameable c.args.net.now c.args.group.now c.as_slice.result.now c.args.parts.now c.copy_names.new.parts c.in_ok-names.names.items copy))

pub add_parity-requires-clause-names : goal.add_parity-requires-clause-names
add_parity-requires-clause-names c =
    let copy = made c.args.net.now c.args.group.now c.in_ok-cone.cone c.as_slice.result.now c.args.parts.now c.copy_names.new.parts c.in_ok-names.names.items
    c.requires.combinational c.nets-nets.ensures.checked.closed c.requires.within c.in_ok-cone.ensures.cone c.in_ok-cone.ensures.computed c.as_slice.ensures.whole
    c.in_ok-names.ensures.names c.in_ok-names.ensures.parts in
    let added = added_at c.args.net.now.circuit c.copy_names.new.parts c.add_nodes.new.parts c.in_ok-names.names.items c.deref.result.now c.as_slice.result.now c.as_slice-2.result.now
    c.deref.ensures.value (c.as_slice-2.ensures.whole ∙ sym c.as_slice.ensures.whole) c.in_ok-add_nodes.ensures.added in
    made_outputs c.args.net.now c.args.group.now c.as_slice.result.now c.args.parts.now c.copy_names.new.parts c.in_ok-names.names.items copy c.add_nodes.new.parts added c.as_slice-3.result.now
    (c.as_slice-3.ensures.whole ∙ c.in_ok-outputs.ensures.names ∙ ap (λ (list : List Name). map (name_at list) (outputs_at c.args.net.now.circuit c.args.group.now)) c.deref-2.ensures.value)

pub add_parity-requires-clause-room : goal.add_parity-requires-clause-room
add_parity-requires-clause-room c =
    let copy = made c.args.net.now c.args.group.now c.in_ok-cone.cone c.as_slice.result.now c.args.parts.now c.copy_names.new.parts c.in_ok-names.names.items
    c.requires.combinational c.nets-nets.ensures.checked.closed c.requires.within c.in_ok-cone.ensures.cone c.in_ok-cone.ensures.computed c.as_slice.ensures.whole
    c.in_ok-names.ensures.names c.in_ok-names.ensures.parts in
    let added = added_at c.args.net.now.circuit c.copy_names.new.parts c.add_nodes.new.parts c.in_ok-names.names.items c.deref.result.now c.as_slice.result.now c.as_slice-2.result.now
    c.deref.ensures.value (c.as_slice-2.ensures.whole ∙ sym c.as_slice.ensures.whole) c.in_ok-add_nodes.ensures.added in
    made_room c.args.net.now c.args.group.now c.as_slice.result.now c.args.parts.now c.copy_names.new.parts c.in_ok-names.names.items copy c.add_nodes.new.parts added c.as_slice-3.result.now
    (c.as_slice-3.ensures.whole ∙ c.in_ok-outputs.ensures.names ∙ ap (λ (list : List Name). map (name_at list) (outputs_at c.args.net.now.circuit c.args.group.now)) c.deref-2.ensures.value)
    c.requires.room

pub returns-clause-added : goal.returns-clause-added
returns-clause-added c =
    let copy = made c.args.net.now c.args.group.now c.in_ok-cone.cone c.as_slice.result.now c.args.parts.now c.copy_names.new.parts c.in_ok-names.names.items
    c.requires.combinational c.nets-nets.ensures.checked.closed c.requires.within c.in_ok-cone.ensures.cone c.in_ok-cone.ensures.computed c.as_slice.ensures.whole
    c.in_ok-names.ensures.names c.in_ok-names.ensures.parts in
    let added = added_at c.args.net.now.circuit c.copy_names.new.parts c.add_nodes.new.parts c.in_ok-names.names.items c.deref.result.now c.as_slice.result.now c.as_slice-2.result.now
    c.deref.ensures.value (c.as_slice-2.ensures.whole ∙ sym c.as_slice.ensures.whole) c.in_ok-add_nodes.ensures.added in
    on_ok_so
    (made_predictor c.args.net.now c.args.group.now c.as_slice.result.now c.args.parts.now c.copy_names.new.parts c.in_ok-names.names.items copy c.add_nodes.new.parts added c.as_slice-3.result.now
    (c.as_slice-3.ensures.whole ∙ c.in_ok-outputs.ensures.names ∙ ap (λ (list : List Name). map (name_at list) (outputs_at c.args.net.now.circuit c.args.group.now)) c.deref-2.ensures.value)
    c.add_parity.new.parts) c.add_parity.result
    c.add_parity.ensures.added
