-- What holds of each node of a parity netlist, and of the names and outputs of any netlist over the kept covers: what holds of those of
-- its source, of fresh names and of gates.
use Rattle.std.proofs.Common.{◌≡◌, ℕ, suc, ◌+◌, ◌-◌, ◌<◌, ◌≤◌, inl, inr, List, [], ◌∷◌, ◌++◌, map, take, length, slice_index, All, sym, ◌∙◌, ap, arith}
use Rattle.std.specs.List.{range_with_len}
use Rattle.std.proofs.lemmas.List.{length-map, get_or-map}
use Rattle.std.proofs.lemmas.List.FromFn.{length-range_with_len, get_or-range_with_len}
use Rattle.std.proofs.lemmas.List.Elements.{All-nil, All-cons, All-append, All-map, All-take, All-get_or, All-from_get_or, Contains-get_or}
use Rattle.tsc_cover.specs.Gates.{buf_cover, not_cover, and_cover, or_cover, xor_cover}
use Rattle.fault_secure.specs.Circuit.{Circuit, NodeOf, node, node_net, nets, gate as node_over}
use Rattle.fault_secure.specs.Closed.{IsClosed}
use Rattle.tsc_net.specs.Names.{text_at}
use Rattle.tsc_net.specs.NetlistOf.{NetlistOf}
use Rattle.tsc_net.specs.Parts.{fresh_text, free_number}
use Rattle.tsc_bits.specs.Lists.{AreApart}
use Rattle.parity_code.specs.Copy.{IsCopied, renamed}
use Rattle.parity_code.specs.ParityFunction.{outputs_at}
use Rattle.net_cones.specs.Cones.{IsCone}
use Rattle.parity_code.specs.ParityCircuit.{GroupCone, size_of, place_in, copy_net, copied_nodes, chain_nodes, chain_end, parity_nodes as check_nodes, predictor_nodes, all_predictors}
use Rattle.parity_code.proofs.ParityCircuit.{place_in-rising, copy_net-input, copy_net-node, root_copied}
use Rattle.code_checkers.specs.declared.gate.CheckGate.{CheckGate}
use Rattle.code_checkers.specs.declared.gate.CheckGate.TheVariants as gate
use Rattle.code_checkers.specs.CheckerNodes.{gate_node, gate_nodes, checker_gates, checker_nets, checker_nodes}
use Rattle.parity_synth.specs.CheckedNet.{kept_places, output_nets, plan_of, word_of, checker_net_of, checked_nodes, cover_names, fresh_texts, names_with}
use Rattle.parity_synth.specs.ParityNet.{parity_groups, parity_logic, parity_checks, parity_nodes}

-- a fact holds of each gate that is a node
pub record HoldsOfGates (Q : NodeOf → Type 0) : Type 0 where
  pub bufs : (a : ℕ) → Q (node_over buf_cover (a ∷ []))
  pub nots : (a : ℕ) → Q (node_over not_cover (a ∷ []))
  pub ands : (a b : ℕ) → Q (node_over and_cover (a ∷ (b ∷ [])))
  pub ors : (a b : ℕ) → Q (node_over or_cover (a ∷ (b ∷ [])))
  pub xors : (a b : ℕ) → Q (node_over xor_cover (a ∷ (b ∷ [])))

-- a fact holds of each node of a circuit, whatever its nets are named
abbrev pub HoldsOfNodes : (NodeOf → Type 0) → Circuit → Type 0
HoldsOfNodes Q C = (place : ℕ) (net : ℕ → ℕ) → Q (renamed net (node C place))

module _ (Q : NodeOf → Type 0) (gates : HoldsOfGates Q) where
  -- it holds of the node of a gate of a checker
  gate_each : (nets : List ℕ) (g : CheckGate) → All Q (gate_node nets g)
  gate_each nets (gate.Word place) = All-nil Q
  gate_each nets (gate.Buf a) = All-cons Q (node_over buf_cover (slice_index nets a ∷ [])) [] (gates.bufs (slice_index nets a)) (All-nil Q)
  gate_each nets (gate.Not a) = All-cons Q (node_over not_cover (slice_index nets a ∷ [])) [] (gates.nots (slice_index nets a)) (All-nil Q)
  gate_each nets (gate.And a b) = All-cons Q (node_over and_cover (slice_index nets a ∷ (slice_index nets b ∷ []))) [] (gates.ands (slice_index nets a) (slice_index nets b)) (All-nil Q)
  gate_each nets (gate.Or a b) = All-cons Q (node_over or_cover (slice_index nets a ∷ (slice_index nets b ∷ []))) [] (gates.ors (slice_index nets a) (slice_index nets b)) (All-nil Q)
  gate_each nets (gate.Xor a b) = All-cons Q (node_over xor_cover (slice_index nets a ∷ (slice_index nets b ∷ []))) [] (gates.xors (slice_index nets a) (slice_index nets b)) (All-nil Q)

  -- of those of each gate
  gates_each : (nets : List ℕ) (list : List CheckGate) → All Q (gate_nodes nets list)
  gates_each nets [] = All-nil Q
  gates_each nets (g ∷ list) = All-append Q (gate_node nets g) (gate_nodes nets list) (gate_each nets g) (gates_each nets list)

  -- of a chain
  chain_each : (inputs from first : ℕ) (rest : List ℕ) → All Q (chain_nodes inputs from first rest)
  chain_each inputs from first [] = All-nil Q
  chain_each inputs from first (net ∷ rest) =
      All-cons Q (node_over xor_cover (first ∷ (net ∷ []))) (chain_nodes inputs (suc from) (inputs + from) rest) (gates.xors first net) (chain_each inputs (suc from) (inputs + from) rest)

  -- of what makes a check
  pub check_each : (inputs from : ℕ) (list : List ℕ) → All Q (check_nodes inputs from list)
  check_each inputs from [] = All-nil Q
  check_each inputs from (first ∷ rest) =
      All-append Q (chain_nodes inputs from first rest) (node_over not_cover (chain_end inputs from first rest ∷ []) ∷ []) (chain_each inputs from first rest)
      (All-cons Q (node_over not_cover (chain_end inputs from first rest ∷ [])) [] (gates.nots (chain_end inputs from first rest)) (All-nil Q))

  module _ (C : Circuit) (own : HoldsOfNodes Q C) where
    -- of copies
    pub copies_each : (places : List ℕ) (base : ℕ) → All Q (copied_nodes C places base)
    copies_each places base =
        All-map Q (λ place. renamed (copy_net C places base) (node C place)) places
        (All-from_get_or (λ place. Q (renamed (copy_net C places base) (node C place))) places 0 (λ k there. own (slice_index places k) (copy_net C places base)))

    -- of predictors
    predictors_each : (groups : List GroupCone) (base : ℕ) → All Q (all_predictors C groups base)
    predictors_each [] base = All-nil Q
    predictors_each (g ∷ groups) base =
        All-append Q (predictor_nodes C g.cone g.group base) (all_predictors C groups (base + size_of g))
        (All-append Q (copied_nodes C g.cone base) (check_nodes C.inputs (base + length g.cone) (map (copy_net C g.cone base) (outputs_at C g.group))) (copies_each g.cone base)
        (check_each C.inputs (base + length g.cone) (map (copy_net C g.cone base) (outputs_at C g.group))))
        (predictors_each groups (base + size_of g))

    -- so of each node of a checked netlist, where it holds of those of its logic
    pub checked_each : (logic : List NodeOf) (checks : List ℕ) → All Q logic → All Q (checked_nodes C logic checks)
    checked_each logic checks of_logic =
        All-append Q (copied_nodes C (kept_places C) 0 ++ logic) (checker_nodes (plan_of C checks 0 0) (word_of C checks) (checker_net_of C logic))
        (All-append Q (copied_nodes C (kept_places C) 0) logic (copies_each (kept_places C) 0) of_logic)
        (gates_each (checker_nets (plan_of C checks 0 0) (word_of C checks) (checker_net_of C logic)) (checker_gates (plan_of C checks 0 0)))

    -- as of the parity netlist
    pub nodes_each : All Q (parity_nodes C)
    nodes_each = checked_each (parity_logic C) (parity_checks C) (predictors_each (parity_groups C) (length (kept_places C)))

-- the names over the kept covers are some of the source's, and so many fresh ones
pub names_each : (Q : List ℕ → Type 0) (S : NetlistOf) → length S.names ≡ nets S.circuit → IsCone S.circuit S.circuit.outputs (kept_places S.circuit) → All Q S.names
    → (new : ℕ) → ((count : ℕ) → count < new → Q (fresh_text (free_number S.names) count)) → All Q (names_with S (kept_places S.circuit) new)
names_each Q S sized cone own new fresh =
    All-append Q (take S.circuit.inputs S.names ++ cover_names S (kept_places S.circuit)) (fresh_texts (free_number S.names) new)
    (All-append Q (take S.circuit.inputs S.names) (cover_names S (kept_places S.circuit)) (All-take Q S.circuit.inputs S.names own)
    (All-map Q (λ place. text_at S.names (node_net S.circuit place)) (kept_places S.circuit)
    (All-from_get_or (λ place. Q (text_at S.names (node_net S.circuit place))) (kept_places S.circuit) 0 (λ k there. cover k there))))
    (All-map Q (fresh_text (free_number S.names)) (range_with_len 0 new) (All-from_get_or (λ count. Q (fresh_text (free_number S.names) count)) (range_with_len 0 new) 0 (λ k there. one k there)))
  where
    cover : (k : ℕ) → k < length (kept_places S.circuit) → Q (text_at S.names (node_net S.circuit (slice_index (kept_places S.circuit) k)))
    cover k there = All-get_or Q S.names (node_net S.circuit (slice_index (kept_places S.circuit) k)) [] (let low = cone.within k there in omega (arith, low, sized)) own

    one : (k : ℕ) → k < length (range_with_len 0 new) → Q (fresh_text (free_number S.names) (slice_index (range_with_len 0 new) k))
    one k there =
        let low : k < new = omega (arith, there, length-range_with_len 0 new) in
        let at : slice_index (range_with_len 0 new) k ≡ 0 + k = get_or-range_with_len 0 new k 0 low in
        fresh (slice_index (range_with_len 0 new) k) (omega (arith, low, at))

module _ (C : Circuit) (none : length C.latches ≡ 0) (closed : IsClosed C) (cone : IsCone C C.outputs (kept_places C)) where
  -- the net of a kept cover is that of its place among them
  cover_copied : (n k : ℕ) → k < length (kept_places C) → n ≡ node_net C (slice_index (kept_places C) k) → copy_net C (kept_places C) 0 n ≡ C.inputs + k
  cover_copied n k there e =
      let over : C.inputs ≤ n = omega (arith, e) in
      let back : n - C.inputs ≡ slice_index (kept_places C) k = omega (arith, e, none) in
      let place : place_in (kept_places C) (n - C.inputs) ≡ k = ap (place_in (kept_places C)) back ∙ place_in-rising (kept_places C) cone.rising k there in
      omega (arith, copy_net-node C (kept_places C) 0 n over, place)

  -- different nets that are kept have different ones
  copied_apart : (a b : ℕ) → IsCopied C (kept_places C) a → IsCopied C (kept_places C) b → copy_net C (kept_places C) 0 a ≡ copy_net C (kept_places C) 0 b → a ≡ b
  copied_apart a b (inl x) (inl y) same = omega (arith, same, copy_net-input C (kept_places C) 0 a x, copy_net-input C (kept_places C) 0 b y)
  copied_apart a b (inl x) (inr (k, there, e)) same = absurd (omega (arith, same, x, copy_net-input C (kept_places C) 0 a x, cover_copied b k there e))
  copied_apart a b (inr (k, there, e)) (inl y) same = absurd (omega (arith, same, y, copy_net-input C (kept_places C) 0 b y, cover_copied a k there e))
  copied_apart a b (inr (k, there, e)) (inr (j, within, f)) same =
      let equal : k ≡ j = omega (arith, same, cover_copied a k there e, cover_copied b j within f) in
      e ∙ ap (λ (i : ℕ). node_net C (slice_index (kept_places C) i)) equal ∙ sym f

  -- so outputs that differ are shown at different nets
  pub output_nets_apart : AreApart C.outputs → AreApart (output_nets C)
  output_nets_apart apart a b less low same =
      let lower : b < length C.outputs = omega (arith, low, length-map C.outputs (copy_net C (kept_places C) 0)) in
      let first : a < length C.outputs = omega (arith, less, lower) in
      apart a b less lower (copied_apart (slice_index C.outputs a) (slice_index C.outputs b) (kept a first) (kept b lower)
      (sym (get_or-map (copy_net C (kept_places C) 0) C.outputs a 0 0 first) ∙ same ∙ get_or-map (copy_net C (kept_places C) 0) C.outputs b 0 0 lower))
    where
      kept : (i : ℕ) → i < length C.outputs → IsCopied C (kept_places C) (slice_index C.outputs i)
      kept i there =
          root_copied C none closed.pins C.outputs (kept_places C) cone (slice_index C.outputs i) (All-get_or (λ net. net < nets C) C.outputs i 0 there closed.outputs) (Contains-get_or C.outputs i 0 there)
