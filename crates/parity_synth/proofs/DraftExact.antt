-- A netlist with foretold checks is the stated one, as it is composed, and self-checking with the stated plan.
use Rattle.std.proofs.Common.{◌≡◌, ℕ, ◌+◌, ◌-◌, ◌≤◌, List, [], ◌∷◌, ◌++◌, length, refl, sym, ◌∙◌, ap, ap₂, subst, arith}
use Rattle.std.proofs.lemmas.List.{take-append-drop}
use Rattle.fault_secure.specs.Circuit.{Circuit, NodeOf, LatchOf, node_net}
use Rattle.fault_secure.specs.Closed.{IsClosed}
use Rattle.fault_secure.specs.Logic.Logic.{Network}
use Rattle.tsc_net.specs.NetlistOf.{NetlistOf, netlist_of}
use Rattle.code_checkers.specs.CheckerNodes.{checker_signals, checker_nodes, rail1_net, rail2_net}
use Rattle.code_checkers.specs.GateList.{IsCheckerOf}
use Rattle.code_checkers.specs.NodesOfGates.{EndsInChecker}
use Rattle.code_checkers.specs.SelfChecking.{IsSelfChecking}
use Rattle.code_checkers.proofs.CanonicalGates.{ends_in_checker}
use Rattle.code_checkers.proofs.Realised.{rails_are_realised}
use Rattle.net_writing.proofs.SoundCircuit.{nets_counted}
use Rattle.parity_synth.proofs.NetNames.{names_counted}
use Rattle.parity_synth.specs.CheckedNet.{kept_places, output_nets, names_with, plan_of, word_of, checker_net_of, checked_plan, checked_nodes, checked_circuit, checked_netlist}
use Rattle.parity_code.proofs.ForetoldFunction.{function_below}
use Rattle.parity_synth.proofs.ForetoldJoin.{foretold_self_checking}
use Rattle.parity_synth.proofs.Drafts.{Draft, IsDraft, kept_of, composed_named, checker_came, fresh_names, fresh_few, model_is, drivers_are}
use Rattle.parity_synth.proofs.DraftCircuit.{composed_circuit, composed_plan, top_of, same_inputs, latchless, circuit_outputs, nodes_begin, nodes_counted, word_is, is_function}
use Rattle.parity_synth.proofs.DraftChecker.{well_made, stands, ends, is_plan}
use Rattle.parity_synth.proofs.DraftSound.{composed_acyclic}

-- a circuit and a netlist are their parts
circuit_parts : (i1 i2 : ℕ) (l1 l2 : List LatchOf) (n1 n2 : List NodeOf) (o1 o2 : List ℕ) → i1 ≡ i2 → l1 ≡ l2 → n1 ≡ n2 → o1 ≡ o2
    → (let C : Circuit = record { inputs = i1; latches = l1; nodes = n1; outputs = o1 } in C) ≡ (record { inputs = i2; latches = l2; nodes = n2; outputs = o2 })
circuit_parts i1 i2 l1 l2 n1 n2 o1 o2 a b c d = cc

netlist_parts : (c1 c2 : Circuit) (n1 n2 : List (List ℕ)) (m1 m2 : List ℕ) → c1 ≡ c2 → n1 ≡ n2 → m1 ≡ m2
    → (let N : NetlistOf = record { circuit = c1; names = n1; model = m1 } in N) ≡ (record { circuit = c2; names = n2; model = m2 })
netlist_parts c1 c2 n1 n2 m1 m2 a b c = cc

-- the nodes of a checker and the nets of its rails don't depend on which rails its plan has
nodes_free : (C : Circuit) (checks : List ℕ) (r1 r2 : ℕ) (word : List ℕ) (next : ℕ) → checker_nodes (plan_of C checks r1 r2) word next ≡ checker_nodes (plan_of C checks 0 0) word next
unfolding checker_signals
nodes_free C checks r1 r2 word next = refl

rail1_free : (C : Circuit) (checks : List ℕ) (r1 r2 : ℕ) (word : List ℕ) (next : ℕ) → rail1_net (plan_of C checks r1 r2) word next ≡ rail1_net (plan_of C checks 0 0) word next
unfolding checker_signals
rail1_free C checks r1 r2 word next = refl

rail2_free : (C : Circuit) (checks : List ℕ) (r1 r2 : ℕ) (word : List ℕ) (next : ℕ) → rail2_net (plan_of C checks r1 r2) word next ≡ rail2_net (plan_of C checks 0 0) word next
unfolding checker_signals
rail2_free C checks r1 r2 word next = refl

module _ (D : Draft) (h : IsDraft D) where
  -- the gates are the checker of the plan with any rails
  is_checker : IsCheckerOf (composed_plan D) D.made
  is_checker = record {
    signals = h.gates.signals;
    first = h.gates.first;
    second = h.gates.second;
    first_within = h.gates.first_within;
    second_within = h.gates.second_within;
    ordered = h.gates.ordered;
    distinct = h.gates.distinct;
  }

  -- so the circuit ends in the plan's checker
  in_checker : EndsInChecker (composed_circuit D) (composed_plan D) (top_of D)
  in_checker = ends_in_checker (composed_plan D) D.made is_checker (composed_circuit D) (top_of D) (ends D h)

  -- the net of its first node
  next_is : node_net (composed_circuit D) (top_of D) ≡ checker_net_of D.source.circuit D.logic
  next_is = omega (arith, same_inputs D h, ap length (latchless D h))

  -- the nets of the rails are the stated ones
  rail1_is : (composed_plan D).rail1 ≡ (checked_plan D.source.circuit D.logic D.checks).rail1
  rail1_is =
      sym in_checker.first ∙ ap₂ (λ (w : List ℕ) (n : ℕ). rail1_net (composed_plan D) w n) (word_is D h) next_is
      ∙ rail1_free D.source.circuit D.checks (composed_plan D).rail1 (composed_plan D).rail2 (word_of D.source.circuit D.checks) (checker_net_of D.source.circuit D.logic)

  rail2_is : (composed_plan D).rail2 ≡ (checked_plan D.source.circuit D.logic D.checks).rail2
  rail2_is =
      sym in_checker.second ∙ ap₂ (λ (w : List ℕ) (n : ℕ). rail2_net (composed_plan D) w n) (word_is D h) next_is
      ∙ rail2_free D.source.circuit D.checks (composed_plan D).rail1 (composed_plan D).rail2 (word_of D.source.circuit D.checks) (checker_net_of D.source.circuit D.logic)

  -- and so is the plan
  pub plan_exact : composed_plan D ≡ checked_plan D.source.circuit D.logic D.checks
  plan_exact = ap₂ (plan_of D.source.circuit D.checks) rail1_is rail2_is

  -- the nodes are the stated ones
  nodes_exact : (composed_circuit D).nodes ≡ checked_nodes D.source.circuit D.logic D.checks
  nodes_exact =
      sym (take-append-drop (top_of D) (composed_circuit D).nodes)
      ∙ ap₂ (λ (xs ys : List NodeOf). xs ++ ys) (nodes_begin D h)
      (in_checker.nodes ∙ ap₂ (λ (w : List ℕ) (n : ℕ). checker_nodes (composed_plan D) w n) (word_is D h) next_is
      ∙ nodes_free D.source.circuit D.checks (composed_plan D).rail1 (composed_plan D).rail2 (word_of D.source.circuit D.checks) (checker_net_of D.source.circuit D.logic))

  -- the outputs too
  outputs_exact : (composed_circuit D).outputs ≡ (checked_circuit D.source.circuit D.logic D.checks).outputs
  outputs_exact = circuit_outputs D h ∙ ap₂ (λ (a b : ℕ). output_nets D.source.circuit ++ (a ∷ (b ∷ []))) rail1_is rail2_is

  -- and so the circuit
  pub circuit_exact : composed_circuit D ≡ checked_circuit D.source.circuit D.logic D.checks
  circuit_exact =
      circuit_parts (composed_circuit D).inputs D.source.circuit.inputs (composed_circuit D).latches [] (composed_circuit D).nodes (checked_nodes D.source.circuit D.logic D.checks) (composed_circuit D).outputs
      (checked_circuit D.source.circuit D.logic D.checks).outputs (same_inputs D h) (latchless D h) nodes_exact outputs_exact

  -- it has no more nodes than own covers, logic and gates
  pub nodes_few : length (checked_nodes D.source.circuit D.logic D.checks) ≤ length (kept_of D) + length D.logic + length D.made.gates
  nodes_few =
      let few = (checker_came D h).few in
      omega (arith, few, sym (ap (λ (list : List NodeOf). length list) nodes_exact), nodes_counted D h)

  -- there is a fresh name for each node after the kept ones
  fresh_counted : fresh_names D h ≡ length (checked_nodes D.source.circuit D.logic D.checks) - length (kept_of D)
  fresh_counted =
      omega (
        arith,
        nets_counted (composed_named D),
        ap length (drivers_are D h),
        names_counted D.source h.checked (kept_of D) h.cone.rising h.cone.within (fresh_names D h) (fresh_few D h),
        same_inputs D h,
        ap length (latchless D h),
        ap (λ (list : List NodeOf). length list) nodes_exact,
      )

  -- what is composed is the checked netlist
  pub composed_exact : netlist_of (composed_named D) ≡ checked_netlist D.source D.logic D.checks
  composed_exact =
      netlist_parts (composed_circuit D) (checked_circuit D.source.circuit D.logic D.checks) (netlist_of (composed_named D)).names (checked_netlist D.source D.logic D.checks).names (composed_named D).model D.source.model circuit_exact
      (drivers_are D h ∙ ap (names_with D.source (kept_places D.source.circuit)) fresh_counted) (model_is D h)

  -- which is self-checking with its plan
  pub composed_secure : IsClosed (composed_circuit D) → IsSelfChecking (Network D.source.circuit) (composed_circuit D) (checked_plan D.source.circuit D.logic D.checks)
  composed_secure closed =
      subst (IsSelfChecking (Network D.source.circuit) (composed_circuit D)) plan_exact
      (foretold_self_checking D.source.circuit (composed_circuit D) (composed_plan D) (top_of D) h.checked.acyclic (composed_acyclic D h) closed refl (well_made D h _ _) (is_plan D h) (is_function D h)
      (rails_are_realised (composed_circuit D) (composed_plan D) (top_of D) D.made is_checker (stands D h)
      (function_below D.source.circuit (composed_circuit D) (composed_plan D) (top_of D) (is_function D h) h.checked.acyclic.rank h.checked.acyclic.ranks)))
