-- The twin with its watch begins as a twin of its source, and, if it showed its registers too, as one of the source that shows them, with the
-- checker of this one.
use Rattle.std.proofs.Common.{◌≡◌, ℕ, ◌+◌, ◌<◌, ◌≤◌, List, [], ◌∷◌, ◌++◌, map, length, slice_index, slice_index_or, All, refl, sym, ap, ap₂, ◌∙◌, subst, arith, length-append}
use Rattle.std.proofs.lemmas.List.{append-nil, append_assoc, length-map}
use Rattle.std.proofs.lemmas.List.Elements.{All-weaker}
use Rattle.fault_secure.specs.Circuit.{Circuit, NodeOf, node_net}
use Rattle.fault_secure.specs.Closed.{IsClosed}
use Rattle.fault_secure.specs.CodePlan.{concat_places, monitored}
use Rattle.fault_secure.specs.Segment.{IsAppended}
use Rattle.parity_code.specs.ParityCircuit.{StandAt}
use Rattle.parity_code.proofs.ParityCircuit.{stand_left, stand_right}
use Rattle.parity_code.proofs.GroupStands.{checks_paired, checks_sized}
use Rattle.code_checkers.specs.declared.gate.CheckGate.{CheckGate}
use Rattle.code_checkers.specs.declared.gate.CheckGate.TheVariants as gate
use Rattle.code_checkers.specs.Signal.{Pair}
use Rattle.code_checkers.specs.Signal.Signal.{Buf}
use Rattle.code_checkers.specs.TwoRail.{tree}
use Rattle.code_checkers.specs.Checker.{group_pairs}
use Rattle.code_checkers.specs.GateList.{GateList, IsWalkOf, IsCheckerOf, IsGroupChecker}
use Rattle.code_checkers.specs.CheckerNodes.{checker_gates, gate_nets, gate_nodes, checker_nodes}
use Rattle.code_checkers.specs.NodesOfGates.{StandsFrom}
use Rattle.code_checkers.proofs.CanonicalGates.{checker_gates_are, rail1_place, rail2_place}
use Rattle.register_laws.specs.RegisterPlan.{front_nets}
use Rattle.register_synth.specs.TwinNet.{own_net, copied_net, widened, twin_covers, twin_checks, twin_check_nets, twin_plan, BeginsAsTwin}
use Rattle.register_synth.specs.TwinChecker.{opened, word_plan, twin_top, HasTwinChecker}
use Rattle.register_synth.specs.TwinCircuit.{showing, watched_groups, twin_logic, twin_word, watched_word, twin_next, twin_rail1, twin_rail2, twin_circuit}
use Rattle.register_synth.proofs.TwinMade.{IsGrouping, covers_counted, first_net, front_are}
use Rattle.register_synth.proofs.TwinFront.{front_all}
use Rattle.register_synth.proofs.GatesStand.{all_stand, gates_stand, gates_read}
use Rattle.register_synth.proofs.GroupsWithin.{groups_read}
use Rattle.register_synth.proofs.WatchedGroups.{watched_grouping, closed_showing}
use Rattle.register_synth.proofs.WatchedChecks.{watch_nodes, twin_checks_are}

-- the twin with its watch, as one that shows its own registers too
abbrev pub wide_twin : ℕ → Circuit → List (List ℕ) → Circuit
wide_twin watched T groups = let N = twin_circuit watched T groups in record N {
  outputs = map (own_net T) (showing watched T).outputs ++ twin_rail1 watched T groups ∷ twin_rail2 watched T groups ∷ [];
}

-- the nodes of its checker
abbrev pub twin_checker : ℕ → Circuit → List (List ℕ) → List NodeOf
twin_checker watched T groups = checker_nodes (watched_word watched T groups) (twin_word watched T groups) (twin_next watched T groups)

-- the checker of a plan of groups without latches is that of the groups
pub is_group_checker : (T : Circuit) (groups : List (List ℕ)) (rail1 rail2 : ℕ) (made : GateList) → IsCheckerOf (word_plan T groups rail1 rail2) made → IsGroupChecker (length T.outputs) groups made
is_group_checker T groups rail1 rail2 made is =
    subst (λ (pairs : List Pair). IsWalkOf (Buf (tree pairs).first) (Buf (tree pairs).second) made) (append-nil (group_pairs (length T.outputs) groups)) is

-- it begins as a twin that shows its registers too
pub begins_wide : (watched : ℕ) (T : Circuit) (groups : List (List ℕ))
    → BeginsAsTwin (showing watched T) (wide_twin watched T groups) (watched_groups watched T groups) (twin_rail1 watched T groups) (twin_rail2 watched T groups)
begins_wide watched T groups = record {
  same_inputs = refl;
  latches = refl;
  nodes = stand_left (wide_twin watched T groups) 0 (twin_logic watched T groups) (twin_checker watched T groups) (all_stand (wide_twin watched T groups));
  outputs = refl;
}

-- and as a twin of the source
pub begins_own : (watched : ℕ) (T : Circuit) (groups : List (List ℕ)) → All (λ place. place < length T.outputs) (concat_places groups)
    → BeginsAsTwin T (twin_circuit watched T groups) groups (twin_rail1 watched T groups) (twin_rail2 watched T groups)
begins_own watched T groups within = record {
  same_inputs = refl;
  latches = refl;
  nodes = stand_left (twin_circuit watched T groups) 0 (twin_covers T ++ twin_checks T groups) (watch_nodes T watched groups)
      (subst (StandAt (twin_circuit watched T groups) 0)
      (ap (λ nodes. twin_covers T ++ nodes) (twin_checks_are T watched groups within) ∙ sym (append_assoc (twin_covers T) (twin_checks T groups) (watch_nodes T watched groups)))
      (stand_left (twin_circuit watched T groups) 0 (twin_logic watched T groups) (twin_checker watched T groups) (all_stand (twin_circuit watched T groups))));
  outputs = refl;
}

module _ (watched : ℕ) (T : Circuit) (groups : List (List ℕ)) (made : GateList) (closed : IsClosed T) (grouping : IsGrouping (length T.outputs) groups)
    (fits : watched ≤ length T.latches) (checker : IsCheckerOf (watched_word watched T groups) made) where
  abbrev wide : Circuit
  wide = showing watched T

  abbrev all_groups : List (List ℕ)
  all_groups = watched_groups watched T groups

  abbrev rail1 : ℕ
  rail1 = twin_rail1 watched T groups

  abbrev rail2 : ℕ
  rail2 = twin_rail2 watched T groups

  abbrev N : Circuit
  N = wide_twin watched T groups

  closed_wide : IsClosed wide
  closed_wide = closed_showing T watched fits closed

  all_grouping : IsGrouping (length wide.outputs) all_groups
  all_grouping = watched_grouping watched T groups grouping

  net_at : (j : ℕ) → node_net N j ≡ (widened T).inputs + j
  net_at = first_net wide N all_groups rail1 rail2 closed_wide (begins_wide watched T groups)

  -- the checker begins where the checks end
  pub logic_counted : length (twin_logic watched T groups) ≡ twin_top wide all_groups
  logic_counted =
      omega (
        arith,
        length-append (twin_covers T) (twin_checks wide all_groups),
        covers_counted T,
        checks_sized (widened wide) N (copied_net T) net_at all_groups (length T.nodes + length T.nodes),
      )

  -- ---- the gates

  gates_are : made.gates ≡ checker_gates (watched_word watched T groups)
  gates_are = checker_gates_are (watched_word watched T groups) made checker

  nets : List ℕ
  nets = gate_nets (twin_word watched T groups) (twin_next watched T groups) made.gates

  next_is : twin_next watched T groups ≡ node_net N (twin_top wide all_groups)
  next_is = omega (arith, logic_counted, net_at (twin_top wide all_groups))

  nodes_are : twin_checker watched T groups ≡ gate_nodes nets made.gates
  unfolding nets
  nodes_are = ap (λ gates. gate_nodes (gate_nets (twin_word watched T groups) (twin_next watched T groups) gates) gates) (sym gates_are)

  nodes_stand : StandAt N (twin_top wide all_groups) (gate_nodes nets made.gates)
  nodes_stand =
      subst (StandAt N (twin_top wide all_groups)) nodes_are
      (subst (λ k. StandAt N k (twin_checker watched T groups)) (let e : 0 + length (twin_logic watched T groups) ≡ twin_top wide all_groups = omega (arith, logic_counted) in e)
      (stand_right N 0 (twin_logic watched T groups) (twin_checker watched T groups) (all_stand N)))

  -- ---- the word

  abbrev sized : ℕ
  sized = length wide.outputs + length all_groups

  front_is : front_nets N (twin_plan wide all_groups rail1 rail2) ≡ twin_word watched T groups
  front_is = front_are wide N all_groups rail1 rail2 closed_wide (begins_wide watched T groups) all_grouping

  monitored_are : twin_word watched T groups ≡ monitored (opened N) (word_plan wide all_groups rail1 rail2)
  monitored_are = sym (append-nil (front_nets N (twin_plan wide all_groups rail1 rail2)) ∙ front_is)

  word_counted : length (twin_word watched T groups) ≡ sized
  word_counted =
      omega (
        arith,
        length-append (map (own_net T) wide.outputs) (twin_check_nets wide all_groups),
        length-map wide.outputs (own_net T),
        checks_paired (widened T).inputs all_groups (length T.nodes + length T.nodes),
      )

  places_low : (place p : ℕ) → place < length made.gates → slice_index_or made.gates place (gate.Word 0) ≡ gate.Word p → p < length (twin_word watched T groups)
  places_low place p h e =
      let low = groups_read sized (omega (arith, closed_wide.some_output)) (length wide.outputs) all_groups made (omega arith)
      (All-weaker (λ place. place < length wide.outputs) (λ place. place < sized) (λ place h. omega arith) (concat_places all_groups) all_grouping.within)
      (is_group_checker wide all_groups 0 0 made checker) place p h e in
      omega (arith, low, word_counted)

  -- ---- the checker

  stand : StandsFrom (opened N) (word_plan wide all_groups rail1 rail2) (twin_top wide all_groups) made
  unfolding nets
  stand = record {
    net = slice_index nets;
    all = gates_stand (opened N) (twin_top wide all_groups) nets (twin_word watched T groups) (word_plan wide all_groups rail1 rail2) made.gates
        (ap (λ next. gate_nets (twin_word watched T groups) next made.gates)
        (let e : twin_next watched T groups ≡ node_net (opened N) (twin_top wide all_groups) = omega (arith, next_is) in e))
        (λ i p h e. (omega (arith, places_low i p h e, ap length monitored_are), ap (λ ns. slice_index ns p) monitored_are))
        (let s = nodes_stand in record { fits = s.fits; each = s.each });
    first = ap₂ (λ (gates : List CheckGate) (place : ℕ). slice_index (gate_nets (twin_word watched T groups) (twin_next watched T groups) gates) place) gates_are (rail1_place (watched_word watched T groups) made checker);
    second = ap₂ (λ (gates : List CheckGate) (place : ℕ). slice_index (gate_nets (twin_word watched T groups) (twin_next watched T groups) gates) place) gates_are (rail2_place (watched_word watched T groups) made checker);
  }

  -- each node of the checker reads nets before its own
  pub appended : IsAppended N (twin_top wide all_groups) (length N.nodes)
  unfolding nets
  appended =
      let count : length N.nodes ≡ twin_top wide all_groups + length (gate_nodes nets made.gates)
      = omega (arith, length-append (twin_logic watched T groups) (twin_checker watched T groups), logic_counted, ap length nodes_are) in
      record {
        ordered = omega arith;
        fits = omega arith;
        before = λ j pin low high has.
            gates_read N (twin_top wide all_groups) nets (twin_word watched T groups) made.gates (ap (λ next. gate_nets (twin_word watched T groups) next made.gates) next_is)
            (λ i p h e. words_low p (places_low i p h e)) checker.ordered nodes_stand j pin low (omega arith) has;
      }
    where
      words_low : (p : ℕ) → p < length (twin_word watched T groups) → slice_index (twin_word watched T groups) p < node_net N (twin_top wide all_groups)
      words_low p h =
          subst (All (λ n. n < node_net N (twin_top wide all_groups))) front_is
          (front_all wide N all_groups rail1 rail2 closed_wide (begins_wide watched T groups) all_grouping) p 0 h

  -- as a twin that shows its registers too it has the checker of the outputs and these
  pub wide_checker : HasTwinChecker (showing watched T) (wide_twin watched T groups) (watched_groups watched T groups) (twin_rail1 watched T groups) (twin_rail2 watched T groups) made
  wide_checker = record { gates = checker; stand = stand; appended = appended }
