-- The circuit of a netlist with foretold checks ends in the checker, whose rails are two nets after the function part; its plan is of it.
use Rattle.std.proofs.Common.{◌≡◌, ℕ, ◌+◌, ◌<◌, ◌≤◌, inl, inr, List, [], ◌∷◌, ◌++◌, length, slice_index, slice_index_or, All, None, refl, sym, ◌∙◌, ap, subst, arith, length-append}
use Rattle.std.proofs.lemmas.Bool.{cases_lt}
use Rattle.std.proofs.lemmas.List.{length-map, get_or_append_left, get_or-append-add, get_or_at}
use Rattle.std.proofs.lemmas.List.Elements.{All-nil, All-cons, All-append, All-from_get_or}
use Rattle.fault_secure.specs.Circuit.{Circuit, node_net, nets}
use Rattle.fault_secure.specs.CodePlan.{CodePlan, IsWellMade, IsPlanOf, monitored}
use Rattle.tsc_net.specs.Names.{text_at}
use Rattle.tsc_net.specs.Named.{Named}
use Rattle.tsc_net.specs.Parts.{free_number}
use Rattle.parity_code.specs.FirstFit.{first_fit_groups}
use Rattle.parity_code.specs.ParityCircuit.{copy_net}
use Rattle.parity_code.specs.Predictors.{node_by}
use Rattle.code_checkers.specs.declared.gate.CheckGate.{CheckGate}
use Rattle.code_checkers.specs.declared.gate.CheckGate.TheVariants as gate
use Rattle.code_checkers.specs.Nodes.{Stands}
use Rattle.code_checkers.specs.CheckerNodes.{gate_nets}
use Rattle.code_checkers.specs.NodesOfGates.{StandsFrom, EndsInGates}
use Rattle.net_writing.specs.CheckerParts.{IsOver}
use Rattle.net_writing.proofs.CheckerCircuit.{checker_stands, circuit_ends}
use Rattle.net_writing.proofs.RailsDiffer.{rails_differ, rail1_no_word, rail2_no_word}
use Rattle.parity_synth.specs.Composed.{with_checked, own_nodes}
use Rattle.parity_synth.proofs.PlanningLemmas.{plan_well_made, first_fit_grouped}
use Rattle.parity_synth.proofs.PredictorNodes.{writes_counted}
use Rattle.parity_synth.proofs.RailNets.{nets_rise}
use Rattle.parity_synth.specs.CheckedNet.{output_nets, plan_of}
use Rattle.parity_code.proofs.ForetoldFunction.{monitored_below}
use Rattle.parity_synth.proofs.Drafts.{Draft, IsDraft, kept_of, first_parts, output_texts, word_texts, shown_parts, checker_parts, composed_named}
use Rattle.parity_synth.proofs.DraftCircuit.{number_in, composed_circuit, composed_plan, top_of, composed_apart, written, latchless, circuit_outputs, checks_numbered, word_is, monitored_are, is_function, sound_to_top}

-- a node from a place on drives the net
pub record IsNodeNet (N : Circuit) (lo net : ℕ) : Type 0 where
  pub driver : ℕ
  pub behind : lo ≤ driver
  pub is_node : driver < length N.nodes
  pub drives : net ≡ node_net N driver

-- a gate that stands and is no place of the word is a node
gate_net_is : (N : Circuit) (P : CodePlan) (lo : ℕ) (net : ℕ → ℕ) (place : ℕ) (g : CheckGate) → ((word : ℕ) → g ≡ gate.Word word → ⊥) → Stands N P lo net place g → IsNodeNet N lo (net place)
gate_net_is N P lo net place (gate.Word word) other s = absurd (other word refl)
gate_net_is N P lo net place (gate.Buf a) other s = record { driver = s.driver; behind = s.behind; is_node = s.is_node; drives = s.drives }
gate_net_is N P lo net place (gate.Not a) other s = record { driver = s.driver; behind = s.behind; is_node = s.is_node; drives = s.drives }
gate_net_is N P lo net place (gate.And a b) other s = record { driver = s.driver; behind = s.behind; is_node = s.is_node; drives = s.drives }
gate_net_is N P lo net place (gate.Or a b) other s = record { driver = s.driver; behind = s.behind; is_node = s.is_node; drives = s.drives }
gate_net_is N P lo net place (gate.Xor a b) other s = record { driver = s.driver; behind = s.behind; is_node = s.is_node; drives = s.drives }

module _ (D : Draft) (h : IsDraft D) where
  -- the plan is well D.made, whichever nets its rails are
  pub well_made : (rail1 rail2 : ℕ) → IsWellMade (plan_of D.source.circuit D.checks rail1 rail2)
  well_made rail1 rail2 =
      plan_well_made (plan_of D.source.circuit D.checks rail1 rail2) refl refl h.checked.closed.some_output h.few
      (is_function D h).foretells.paired (first_fit_grouped D.source.circuit (first_fit_groups D.source.circuit) h.fit) refl refl refl

  -- the checker is one over the word
  pub is_over : IsOver (length (word_texts D)) D.made
  is_over =
      let counted : length D.texts ≡ length D.checks = sym (length-map D.texts (number_in D)) ∙ ap length (checks_numbered D h) in
      let long : length (word_texts D) ≡ length D.source.circuit.outputs + length D.checks = omega (arith, counted, length-append (output_texts D) D.texts, length-map D.source.circuit.outputs (text_at D.source.names)) in
      record {
        words_within = λ place word there is. (let w = h.words place word there is in omega (arith, w, long));
        ordered = h.gates.ordered;
        first_within = h.gates.first_within;
        second_within = h.gates.second_within;
      }

  -- so many nodes stand before the checker
  pub before_checker : length (shown_parts D).named.nodes ≡ top_of D
  before_checker =
      let w = written D h in
      let counted = writes_counted (number_in D) (free_number D.source.names) 0 (first_parts D) D.parts D.logic w in
      omega (arith, ap (λ (N : Named). length N.nodes) w.adds.named, length-append (own_nodes D.source (kept_of D)) w.added, length-map (kept_of D) (node_by D.source.circuit (text_at D.source.names)), counted)

  -- the nodes are those with the checker, since outputs come after
  nodes_same : (composed_named D).nodes ≡ (checker_parts D).parts.named.nodes
  unfolding with_checked
  nodes_same = refl

  -- the checker's gates stand in the circuit
  pub stands : StandsFrom (composed_circuit D) (composed_plan D) (top_of D) D.made
  stands =
      subst (λ (n : ℕ). StandsFrom (composed_circuit D) (composed_plan D) n D.made) before_checker
      (checker_stands (shown_parts D) (word_texts D) D.made None is_over (composed_named D) (composed_apart D h) nodes_same (composed_plan D) (monitored_are D h) refl refl)

  -- and the circuit ends in them
  pub ends : EndsInGates (composed_circuit D) (composed_plan D) (top_of D) D.made
  ends =
      subst (λ (n : ℕ). EndsInGates (composed_circuit D) (composed_plan D) n D.made) before_checker
      (circuit_ends (shown_parts D) (word_texts D) D.made None is_over (composed_named D) (composed_apart D h) nodes_same (composed_plan D) (monitored_are D h) refl refl)

  -- the first rail is the net of a node after the function part
  pub first_rail : IsNodeNet (composed_circuit D) (top_of D) (composed_plan D).rail1
  first_rail =
      subst (IsNodeNet (composed_circuit D) (top_of D)) stands.first
      (gate_net_is (composed_circuit D) (composed_plan D) (top_of D) stands.net D.made.rail1 (slice_index_or D.made.gates D.made.rail1 (gate.Word 0)) (rail1_no_word (plan_of D.source.circuit D.checks 0 0) D.made h.gates) (stands.all D.made.rail1 h.gates.first_within))

  -- and so is the second
  pub second_rail : IsNodeNet (composed_circuit D) (top_of D) (composed_plan D).rail2
  second_rail =
      subst (IsNodeNet (composed_circuit D) (top_of D)) stands.second
      (gate_net_is (composed_circuit D) (composed_plan D) (top_of D) stands.net D.made.rail2 (slice_index_or D.made.gates D.made.rail2 (gate.Word 0)) (rail2_no_word (plan_of D.source.circuit D.checks 0 0) D.made h.gates) (stands.all D.made.rail2 h.gates.second_within))

  -- and they differ
  pub rails_apart : (composed_plan D).rail1 ≡ (composed_plan D).rail2 → ⊥
  rails_apart same =
      let word = monitored (composed_circuit D) (composed_plan D) in
      let next = node_net (composed_circuit D) (top_of D) in
      let one = rail1_no_word (plan_of D.source.circuit D.checks 0 0) D.made h.gates in
      let two = rail2_no_word (plan_of D.source.circuit D.checks 0 0) D.made h.gates in
      let first : slice_index (gate_nets (monitored (composed_circuit D) (composed_plan D)) (node_net (composed_circuit D) (top_of D)) D.made.gates) D.made.rail1 ≡ (composed_plan D).rail1 = ends.first in
      let second : slice_index (gate_nets (monitored (composed_circuit D) (composed_plan D)) (node_net (composed_circuit D) (top_of D)) D.made.gates) D.made.rail2 ≡ (composed_plan D).rail2 = ends.second in
      elim (cases_lt D.made.rail1 D.made.rail2) [
        | inl low ↦ (let up = nets_rise word next D.made.gates D.made.rail1 D.made.rail2 low h.gates.second_within one two in absurd (omega (arith, up, first, second, same)))
        | inr high ↦ elim (cases_lt D.made.rail2 D.made.rail1) [
          | inl low ↦ (let up = nets_rise word next D.made.gates D.made.rail2 D.made.rail1 low h.gates.first_within two one in absurd (omega (arith, up, first, second, same)))
          | inr neither ↦ rails_differ (plan_of D.source.circuit D.checks 0 0) D.made h.gates (well_made 0 0) (omega arith)
        ]
      ]

  -- so many outputs
  outputs_counted : length (output_nets D.source.circuit) ≡ length D.source.circuit.outputs
  outputs_counted = length-map D.source.circuit.outputs (copy_net D.source.circuit (kept_of D) 0)

  -- each net of the word stands before the checker
  below : (p : ℕ) → p < length (output_nets D.source.circuit ++ D.checks) → slice_index (output_nets D.source.circuit ++ D.checks) p < node_net (composed_circuit D) (top_of D)
  below p low =
      let is = word_is D h in
      let b = monitored_below D.source.circuit (composed_circuit D) (composed_plan D) (top_of D) (is_function D h) h.checked.acyclic.rank h.checked.acyclic.ranks p (omega (arith, low, ap length is)) in
      omega (arith, b, ap (λ (list : List ℕ). slice_index list p) is)

  -- so do the nets of the outputs
  pub output_below : (i : ℕ) → i < length D.source.circuit.outputs → slice_index (output_nets D.source.circuit) i < node_net (composed_circuit D) (top_of D)
  output_below i low =
      let here : i < length (output_nets D.source.circuit) = omega (arith, low, outputs_counted) in
      omega (arith, below i (omega (arith, here, length-append (output_nets D.source.circuit) D.checks)), get_or_append_left (output_nets D.source.circuit) D.checks 0 i here)

  -- and those of the checks
  check_below : (i : ℕ) → i < length D.checks → slice_index D.checks i < node_net (composed_circuit D) (top_of D)
  check_below i low =
      omega (arith, below (length (output_nets D.source.circuit) + i) (omega (arith, low, length-append (output_nets D.source.circuit) D.checks)), get_or-append-add (output_nets D.source.circuit) D.checks i 0)

  -- what stands before the checker is a net
  top_fits : node_net (composed_circuit D) (top_of D) ≤ nets (composed_circuit D)
  top_fits = let f = (sound_to_top D h).fits in omega (arith, f)

  -- what a node drives is a net
  rail_within : (net : ℕ) → IsNodeNet (composed_circuit D) (top_of D) net → net < nets (composed_circuit D)
  rail_within net is = let d = is.is_node in let e = is.drives in omega (arith, d, e)

  -- what is shown is a net
  pub outputs_within : All (λ net. net < nets (composed_circuit D)) (composed_circuit D).outputs
  outputs_within =
      let rail1 = (composed_plan D).rail1 in
      let rail2 = (composed_plan D).rail2 in
      subst (All (λ net. net < nets (composed_circuit D))) (sym (circuit_outputs D h))
      (All-append (λ net. net < nets (composed_circuit D)) (output_nets D.source.circuit) (rail1 ∷ (rail2 ∷ []))
      (All-from_get_or (λ net. net < nets (composed_circuit D)) (output_nets D.source.circuit) 0 (λ i low. (let b = output_below i (omega (arith, low, outputs_counted)) in omega (arith, b, top_fits))))
      (All-cons (λ net. net < nets (composed_circuit D)) rail1 (rail2 ∷ []) (rail_within rail1 first_rail)
      (All-cons (λ net. net < nets (composed_circuit D)) rail2 [] (rail_within rail2 second_rail) (All-nil (λ net. net < nets (composed_circuit D))))))

  -- the plan is of the circuit
  pub is_plan : IsPlanOf (composed_circuit D) (composed_plan D)
  is_plan =
      let rail1 = (composed_plan D).rail1 in
      let rail2 = (composed_plan D).rail2 in
      let are = circuit_outputs D h in
      record {
        outputs = omega (arith, ap length are, length-append (output_nets D.source.circuit) (rail1 ∷ (rail2 ∷ [])), outputs_counted);
        rail1 = ap (λ (list : List ℕ). slice_index list (length D.source.circuit.outputs)) are ∙ get_or_at (output_nets D.source.circuit) rail1 (rail2 ∷ []) 0 (length D.source.circuit.outputs) outputs_counted;
        rail2 = ap (λ (list : List ℕ). slice_index list (length D.source.circuit.outputs + 1)) are
            ∙ ap (λ (k : ℕ). slice_index (output_nets D.source.circuit ++ (rail1 ∷ (rail2 ∷ []))) (k + 1)) (sym outputs_counted) ∙ get_or-append-add (output_nets D.source.circuit) (rail1 ∷ (rail2 ∷ [])) 1 0;
        checks = All-from_get_or (λ net. net < nets (composed_circuit D)) D.checks 0 (λ i low. (let b = check_below i low in omega (arith, b, top_fits)));
        rails = (rail_within rail1 first_rail, rail_within rail2 second_rail);
        latches = sym (ap length (latchless D h));
      }
