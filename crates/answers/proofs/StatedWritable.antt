-- A text can hold the stated netlists of a network that a text can hold, parity's and the duplex netlist, where they have few enough nodes.
use Rattle.std.proofs.Common.{◌≡◌, ℕ, ◌-◌, ◌^◌, ◌<◌, ◌≤◌, inl, inr, true, false, List, [], ◌∷◌, take, length, All, refl, sym, ◌∙◌, ap, subst, arith}
use Rattle.std.proofs.lemmas.Bool.{cases_lt}
use Rattle.std.proofs.lemmas.List.{length-map, get_or_past}
use Rattle.std.proofs.lemmas.List.Elements.{All-nil, All-cons, All-get_or}
use Rattle.tsc_bits.proofs.Lists.{front}
use Rattle.tsc_cover.specs.Cover.{CoverTable, Literal, zero_cover}
use Rattle.tsc_cover.specs.Cover.Literal.{Free, Wants}
use Rattle.tsc_cover.specs.Gates.{buf_cover, not_cover, and_cover, or_cover, xor_cover}
use Rattle.fault_secure.specs.Circuit.{Circuit, node, no_node, gate, nets}
use Rattle.fault_secure.specs.CodePlan.{CodePlan}
use Rattle.fault_secure.specs.Logic.Logic.{Network}
use Rattle.tsc_net.specs.NetlistOf.{NetlistOf, IsBuilt}
use Rattle.tsc_net.specs.Order.{fan_ins, evaluation_order, IsOrder}
use Rattle.tsc_net.specs.Parts.{fresh_text, free_number}
use Rattle.tsc_net.proofs.AcyclicLemmas.{whole_is_order}
use Rattle.blif_write.specs.Writable.{IsGoodName, IsWritableNode, IsWritable}
use Rattle.blif_write.proofs.WholeOrder.{whole-acyclic}
use Rattle.code_checkers.specs.SelfChecking.{IsSelfChecking}
use Rattle.tsc_bits.specs.Lists.{AreApart}
use Rattle.parity_synth.specs.ParityNet.{kept_places, names_with, parity_nodes, parity_plan, parity_netlist, output_nets, IsParityNetlist}
use Rattle.parity_synth.proofs.Cones.{cone_is}
use Rattle.parity_synth.proofs.NetParts.{HoldsOfGates, HoldsOfNodes, names_each, nodes_each, output_nets_apart}
use Rattle.duplex_synth.specs.DuplexNet.{duplex_circuit, duplex_plan, duplex_netlist, IsDuplexNetlist}
use Rattle.duplex_synth.proofs.DuplexParts.{duplex_nodes_each}
use Rattle.answers.proofs.FreshWritable.{free_small, fresh_good}
use Rattle.answers.proofs.RailsApart.{outputs_apart}

-- a node over one or two nets whose cover has rows as wide as it, and an on-set
gate_writable : (cover : CoverTable) (reads : List ℕ) → length reads ≤ 2 → All (λ (row : List Literal). length row ≡ cover.width) cover.rows → cover.on ≡ true → IsWritableNode (gate cover reads)
gate_writable cover reads few rows on = record { pins = omega (arith, few); rows = rows; set = λ none. on }

-- a list of one row of this width, and of two
one_row : (width : ℕ) (row : List Literal) → length row ≡ width → All (λ (r : List Literal). length r ≡ width) (row ∷ [])
one_row width row is = All-cons (λ (r : List Literal). length r ≡ width) row [] is (All-nil (λ (r : List Literal). length r ≡ width))

two_rows : (width : ℕ) (row other : List Literal) → length row ≡ width → length other ≡ width → All (λ (r : List Literal). length r ≡ width) (row ∷ (other ∷ []))
two_rows width row other is too = All-cons (λ (r : List Literal). length r ≡ width) row (other ∷ []) is (one_row width other too)

-- a text can hold each gate
gates_writable : HoldsOfGates IsWritableNode
gates_writable = record {
  bufs = λ a. gate_writable buf_cover (a ∷ []) (omega arith) (one_row 1 (Wants true ∷ []) refl) refl;
  nots = λ a. gate_writable not_cover (a ∷ []) (omega arith) (one_row 1 (Wants false ∷ []) refl) refl;
  ands = λ a b. gate_writable and_cover (a ∷ (b ∷ [])) (omega arith) (one_row 2 (Wants true ∷ (Wants true ∷ [])) refl) refl;
  ors = λ a b. gate_writable or_cover (a ∷ (b ∷ [])) (omega arith) (two_rows 2 (Wants true ∷ (Free ∷ [])) (Free ∷ (Wants true ∷ [])) refl refl) refl;
  xors = λ a b. gate_writable xor_cover (a ∷ (b ∷ [])) (omega arith) (two_rows 2 (Wants true ∷ (Wants false ∷ [])) (Wants false ∷ (Wants true ∷ [])) refl refl) refl;
}

-- and a node that it can hold, whatever its nets are named
own_writable : (C : Circuit) → All IsWritableNode C.nodes → HoldsOfNodes IsWritableNode C
own_writable C all place net =
    let here : IsWritableNode (node C place) = elim (cases_lt place (length C.nodes)) [
      | inl there ↦ All-get_or IsWritableNode C.nodes place no_node there all
      | inr past ↦ subst IsWritableNode (sym (get_or_past C.nodes place no_node past)) (gate_writable zero_cover [] (omega arith) (All-nil (λ (r : List Literal). length r ≡ 0)) refl)
    ] in
    let pins : length (node C place).reads ≤ 64 = here.pins in
    record { pins = omega (arith, pins, length-map (node C place).reads net); rows = here.rows; set = here.set }

-- a netlist that has the source's model and inputs, its names with some fresh ones behind them, its outputs before others, and nodes that
-- a text can hold
record IsOver (S N : NetlistOf) : Type 0 where
  model : N.model ≡ S.model
  inputs : N.circuit.inputs ≡ S.circuit.inputs
  latchless : length N.circuit.latches ≡ 0
  new : ℕ
  few : new ≤ length N.circuit.nodes
  names : N.names ≡ names_with S (kept_places S.circuit) new
  outputs : take (length S.circuit.outputs) N.circuit.outputs ≡ output_nets S.circuit
  each_node : All IsWritableNode N.circuit.nodes

-- what is left of a number is no more
fewer : (a b : ℕ) → a - b ≤ a
fewer a b = omega arith

over_parity : (S : NetlistOf) → All IsWritableNode S.circuit.nodes → IsOver S (parity_netlist S)
over_parity S each = record {
  model = refl;
  inputs = refl;
  latchless = refl;
  new = length (parity_nodes S.circuit) - length (kept_places S.circuit);
  few = fewer (length (parity_nodes S.circuit)) (length (kept_places S.circuit));
  names = refl;
  outputs = front (length S.circuit.outputs) (output_nets S.circuit) ((parity_plan S.circuit).rail1 ∷ ((parity_plan S.circuit).rail2 ∷ [])) (length-map S.circuit.outputs _);
  each_node = nodes_each IsWritableNode gates_writable S.circuit (own_writable S.circuit each);
}

over_duplex : (S : NetlistOf) → All IsWritableNode S.circuit.nodes → IsOver S (duplex_netlist S)
over_duplex S each = record {
  model = refl;
  inputs = refl;
  latchless = refl;
  new = length (duplex_circuit S.circuit).nodes - length (kept_places S.circuit);
  few = fewer (length (duplex_circuit S.circuit).nodes) (length (kept_places S.circuit));
  names = refl;
  outputs = front (length S.circuit.outputs) (output_nets S.circuit) ((duplex_plan S.circuit).rail1 ∷ ((duplex_plan S.circuit).rail2 ∷ [])) (length-map S.circuit.outputs _);
  each_node = duplex_nodes_each IsWritableNode gates_writable S.circuit (own_writable S.circuit each);
}

module _ (S N : NetlistOf) (P : CodePlan) (checked : IsBuilt S) (writable : IsWritable S) (none : length S.circuit.latches ≡ 0) (once : AreApart S.circuit.outputs)
    (secure : IsSelfChecking (Network S.circuit) N.circuit P) (counted : P.outputs ≡ length S.circuit.outputs) (small : length N.circuit.nodes ≤ 1048576) (over : IsOver S N) where
  -- the source's nodes have an order
  order : IsOrder (fan_ins S.circuit) (evaluation_order (fan_ins S.circuit))
  order = whole_is_order (fan_ins S.circuit) (whole-acyclic S.circuit checked.closed checked.acyclic)

  -- the fresh names are good
  fresh_are_good : (count : ℕ) → count < over.new → IsGoodName (fresh_text (free_number S.names) count)
  fresh_are_good count low =
      let few : nets S.circuit < 2 ^ 32 = checked.few in
      let sized : length S.names ≡ nets S.circuit = checked.sized in
      let most = over.few in
      fresh_good (free_number S.names) count (free_small S.names (omega (arith, few, sized))) (omega (arith, low, most, small))

  -- the outputs before the rails differ
  own_apart : AreApart (take P.outputs N.circuit.outputs)
  own_apart =
      subst AreApart (sym (ap (λ (n : ℕ). take n N.circuit.outputs) counted ∙ over.outputs))
      (output_nets_apart S.circuit none checked.closed (cone_is S.circuit (evaluation_order (fan_ins S.circuit)) refl order S.circuit.outputs) once)

  -- so a text can hold it
  over_writable : IsWritable N
  over_writable =
      let sized = secure.structure.plan_of.outputs in
      let most = secure.structure.well_made.most_outputs in
      let same = over.inputs in
      let few = writable.inputs in
      let latchless = over.latchless in
      record {
        model = subst IsGoodName (sym over.model) writable.model;
        names = subst (All IsGoodName) (sym over.names)
            (names_each IsGoodName S checked.sized (cone_is S.circuit (evaluation_order (fan_ins S.circuit)) refl order S.circuit.outputs) writable.names over.new fresh_are_good);
        inputs = omega (arith, same, few);
        outputs = omega (arith, sized, most);
        latches = omega (arith, latchless);
        nodes = small;
        different = outputs_apart (Network S.circuit) N.circuit P secure own_apart;
        each_node = over.each_node;
      }

-- a text can hold a parity netlist of few enough nodes
pub parity_writable : (S N : NetlistOf) (P : CodePlan) → IsBuilt S → IsWritable S → length S.circuit.latches ≡ 0 → AreApart S.circuit.outputs
    → IsSelfChecking (Network S.circuit) N.circuit P → IsParityNetlist S N P → length N.circuit.nodes ≤ 1048576 → IsWritable N
parity_writable S N P checked writable none once secure exact small =
    over_writable S N P checked writable none once secure (ap (λ (Q : CodePlan). Q.outputs) exact.plan) small (subst (IsOver S) (sym exact.net) (over_parity S writable.each_node))

-- and a duplex netlist
pub duplex_writable : (S N : NetlistOf) (P : CodePlan) → IsBuilt S → IsWritable S → length S.circuit.latches ≡ 0 → AreApart S.circuit.outputs
    → IsSelfChecking (Network S.circuit) N.circuit P → IsDuplexNetlist S N P → length N.circuit.nodes ≤ 1048576 → IsWritable N
duplex_writable S N P checked writable none once secure exact small =
    over_writable S N P checked writable none once secure (ap (λ (Q : CodePlan). Q.outputs) exact.plan) small (subst (IsOver S) (sym exact.net) (over_duplex S writable.each_node))
