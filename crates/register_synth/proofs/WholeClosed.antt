-- The twin with its watch is closed.
use Rattle.std.proofs.Common.{◌≡◌, ℕ, suc, ◌+◌, ◌<◌, ◌≤◌, List, [], ◌∷◌, map, length, All, refl, sym, ◌∙◌, arith, length-append}
use Rattle.std.proofs.lemmas.List.{length-map}
use Rattle.std.proofs.lemmas.List.Elements.{All-nil, All-cons, All-append, All-map, All-weaker, All-from_get_or}
use Rattle.fault_secure.specs.Circuit.{Circuit, LatchOf, NodeOf, no_latch, node_net, nets}
use Rattle.fault_secure.specs.Closed.{IsClosed}
use Rattle.fault_secure.specs.Settle.{Acyclic}
use Rattle.fault_secure.specs.Segment.{SoundTo}
use Rattle.parity_code.specs.GroupChecks.{group_checks}
use Rattle.parity_code.specs.ParityCircuit.{chain_nodes, parity_nodes}
use Rattle.parity_code.specs.ParityFunction.{outputs_at}
use Rattle.code_checkers.specs.declared.gate.CheckGate.{CheckGate}
use Rattle.code_checkers.specs.declared.gate.CheckGate.TheVariants as gates
use Rattle.code_checkers.specs.GateList.{GateList, IsCheckerOf}
use Rattle.code_checkers.specs.CheckerNodes.{gate_node, gate_nodes, checker_gates, checker_nets}
use Rattle.register_laws.specs.RegisterPlan.{next_net}
use Rattle.register_laws.specs.Twin.{renamed}
use Rattle.register_synth.specs.TwinNet.{own_net, copied_net, widened, twin_covers, twin_checks}
use Rattle.register_synth.specs.TwinChecker.{twin_top}
use Rattle.register_synth.specs.TwinCircuit.{showing, watched_groups, twin_logic, twin_word, twin_next, watched_word, twin_rail1, twin_rail2, twin_circuit}
use Rattle.register_synth.proofs.TwinMade.{IsGrouping}
use Rattle.register_synth.proofs.TwinFront.{own_in, next_low}
use Rattle.register_synth.proofs.TwinOrder.{twin_sound}
use Rattle.register_synth.proofs.TwinDecides.{twin_planned}
use Rattle.register_synth.proofs.WatchedGroups.{watched_grouping, closed_showing}
use Rattle.register_synth.proofs.WatchedTwin.{wide_twin, twin_checker, begins_wide, appended, wide_checker}

-- ---- a node's cover has a pin for each net that it reads

abbrev IsWide : NodeOf → Type 0
IsWide n = n.cover.width ≡ length n.reads

renamed_wide : (net : ℕ → ℕ) (nodes : List NodeOf) → All IsWide nodes → All IsWide (map (renamed net) nodes)
renamed_wide net nodes all = All-map IsWide (renamed net) nodes (All-weaker IsWide (λ n. IsWide (renamed net n)) (λ n h. h ∙ sym (length-map n.reads net)) nodes all)

chain_wide : (inputs from made : ℕ) (ns : List ℕ) → All IsWide (chain_nodes inputs from made ns)
chain_wide inputs from made [] = All-nil IsWide
chain_wide inputs from made (n ∷ ns) = All-cons IsWide _ (chain_nodes inputs (suc from) (inputs + from) ns) refl (chain_wide inputs (suc from) (inputs + from) ns)

check_wide : (inputs from : ℕ) (ns : List ℕ) → All IsWide (parity_nodes inputs from ns)
check_wide inputs from [] = All-nil IsWide
check_wide inputs from (first ∷ rest) = All-append IsWide (chain_nodes inputs from first rest) _ (chain_wide inputs from first rest) (All-cons IsWide _ [] refl (All-nil IsWide))

checks_wide : (C : Circuit) (net : ℕ → ℕ) (groups : List (List ℕ)) (from : ℕ) → All IsWide (group_checks C net groups from)
checks_wide C net [] from = All-nil IsWide
checks_wide C net (group ∷ groups) from =
    All-append IsWide (parity_nodes C.inputs from (map net (outputs_at C group))) (group_checks C net groups (from + length group))
    (check_wide C.inputs from (map net (outputs_at C group))) (checks_wide C net groups (from + length group))

gate_wide : (nets : List ℕ) (g : CheckGate) → All IsWide (gate_node nets g)
gate_wide nets (gates.Word p) = All-nil IsWide
gate_wide nets (gates.Buf a) = All-cons IsWide _ [] refl (All-nil IsWide)
gate_wide nets (gates.Not a) = All-cons IsWide _ [] refl (All-nil IsWide)
gate_wide nets (gates.And a b) = All-cons IsWide _ [] refl (All-nil IsWide)
gate_wide nets (gates.Or a b) = All-cons IsWide _ [] refl (All-nil IsWide)
gate_wide nets (gates.Xor a b) = All-cons IsWide _ [] refl (All-nil IsWide)

gates_wide : (nets : List ℕ) (list : List CheckGate) → All IsWide (gate_nodes nets list)
gates_wide nets [] = All-nil IsWide
gates_wide nets (g ∷ list) = All-append IsWide (gate_node nets g) (gate_nodes nets list) (gate_wide nets g) (gates_wide nets list)

module _ (watched : ℕ) (T : Circuit) (groups : List (List ℕ)) (made : GateList) (closed : IsClosed T) (acyclic : Acyclic T) (grouping : IsGrouping (length T.outputs) groups)
    (fits : watched ≤ length T.latches) (checker : IsCheckerOf (watched_word watched T groups) made) where
  abbrev wide : Circuit
  wide = showing watched T

  abbrev all_groups : List (List ℕ)
  all_groups = watched_groups watched T groups

  abbrev rail1 : ℕ
  rail1 = twin_rail1 watched T groups

  abbrev rail2 : ℕ
  rail2 = twin_rail2 watched T groups

  abbrev N : Circuit
  N = twin_circuit watched T groups

  wide_closed : IsClosed wide
  wide_closed = closed_showing T watched fits closed

  all_grouping : IsGrouping (length wide.outputs) all_groups
  all_grouping = watched_grouping watched T groups grouping

  sound : SoundTo (wide_twin watched T groups) (length N.nodes)
  sound =
      twin_sound wide (wide_twin watched T groups) all_groups rail1 rail2 wide_closed (begins_wide watched T groups) all_grouping acyclic.rank (record { above = acyclic.ranks.above })
      (appended watched T groups made closed grouping fits checker)

  -- there is no ring
  pub whole_acyclic : Acyclic (twin_circuit watched T groups)
  whole_acyclic = record { rank = sound.rank; ranks = record { above = sound.above } }

  -- its rails are nets of its own
  pub rails : (rail1 < nets N) × (rail2 < nets N)
  rails =
      let planned = twin_planned wide (wide_twin watched T groups) all_groups rail1 rail2 made wide_closed (begins_wide watched T groups) all_grouping
      (wide_checker watched T groups made closed grouping fits checker) in
      planned.plan_of.rails

  -- the checks end before its last node
  pub top_low : twin_top wide all_groups ≤ length N.nodes
  top_low = (appended watched T groups made closed grouping fits checker).ordered

  latches_in : (l : ℕ) → l < length N.latches → next_net N l < nets N
  latches_in l h =
      let low : next_net N l < node_net (wide_twin watched T groups) (twin_top wide all_groups)
      = next_low wide (wide_twin watched T groups) all_groups rail1 rail2 wide_closed (begins_wide watched T groups) all_grouping l h in
      omega (arith, low, top_low)

  own_inside : (n : ℕ) → n < nets T → own_net T n < nets N
  own_inside n h =
      let low : own_net T n < node_net (wide_twin watched T groups) (length T.nodes)
      = own_in wide (wide_twin watched T groups) all_groups rail1 rail2 wide_closed (begins_wide watched T groups) all_grouping n h in
      omega (arith, low, top_low)

  -- the twin is closed
  pub whole_closed : IsClosed (twin_circuit watched T groups)
  whole_closed = record {
    pins = sound.before;
    latches = All-from_get_or (λ (l : LatchOf). l.reads < nets N) N.latches no_latch latches_in;
    outputs = All-append (λ net. net < nets N) (map (own_net T) T.outputs) (rail1 ∷ rail2 ∷ [])
        (All-map (λ net. net < nets N) (own_net T) T.outputs (All-weaker (λ n. n < nets T) (λ n. own_net T n < nets N) own_inside T.outputs closed.outputs))
        (All-cons (λ net. net < nets N) rail1 (rail2 ∷ []) rails.0 (All-cons (λ net. net < nets N) rail2 [] rails.1 (All-nil (λ net. net < nets N))));
    some_output = omega (arith, length-append (map (own_net T) T.outputs) (rail1 ∷ rail2 ∷ []));
    widths = All-append IsWide (twin_logic watched T groups) (twin_checker watched T groups)
        (All-append IsWide (twin_covers T) (twin_checks wide all_groups)
        (All-append IsWide (map (renamed (own_net T)) T.nodes) (map (renamed (copied_net T)) T.nodes) (renamed_wide (own_net T) T.nodes closed.widths) (renamed_wide (copied_net T) T.nodes closed.widths))
        (checks_wide (widened wide) (copied_net T) all_groups (length T.nodes + length T.nodes)))
        (gates_wide (checker_nets (watched_word watched T groups) (twin_word watched T groups) (twin_next watched T groups)) (checker_gates (watched_word watched T groups)));
  }
