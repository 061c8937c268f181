-- The circuit of a netlist with foretold checks, as it is composed, begins with the function part, and its plan's word is that of the names.
use Rattle.std.proofs.Common.{◌≡◌, ℕ, ◌+◌, ◌-◌, ◌<◌, ◌≤◌, inl, inr, List, [], ◌∷◌, ◌++◌, map, take, length, length-take-le, slice_index, slice_index_or, All, refl, sym, ◌∙◌, ap, ap₂, subst, arith, length-append}
use Rattle.std.proofs.lemmas.List.{append-nil, length-map, map-append, get_or_append_left, get_or-append-add}
use Rattle.std.proofs.lemmas.List.Elements.{All-from_get_or}
use Rattle.std.proofs.lemmas.Simd.{map-map}
use Rattle.tsc_bits.proofs.Lists.{map_agrees, front}
use Rattle.fault_secure.specs.Circuit.{Circuit, NodeOf, LatchOf, node, node_net, no_node}
use Rattle.fault_secure.specs.Segment.{SoundTo}
use Rattle.fault_secure.specs.CodePlan.{CodePlan, monitored}
use Rattle.tsc_net.specs.Names.{text_at, place_of_text, IsNumbering}
use Rattle.tsc_net.specs.NetlistOf.{drivers, circuit_of}
use Rattle.tsc_net.specs.Parts.{fresh_text, free_number}
use Rattle.parity_code.specs.Copy.{IsCopied, renamed}
use Rattle.parity_code.specs.FirstFit.{first_fit_groups}
use Rattle.parity_code.specs.ParityCircuit.{copy_net, copied_nodes, place_in, StandAt}
use Rattle.parity_code.specs.Predictors.{node_by}
use Rattle.parity_code.proofs.Grouping.{first_fit_groups_apart}
use Rattle.parity_code.proofs.ParityCircuit.{place_in-rising, copy_net-input, copy_net-node, cone_copy}
use Rattle.parity_code.proofs.PredictorCopy.{reads_copied}
use Rattle.parity_synth.specs.Composed.{own_nodes}
use Rattle.parity_synth.proofs.PredictorNodes.{over, Writes}
use Rattle.parity_synth.proofs.NetNames.{names_differ, input_placed, cover_placed, fresh_placed}
use Rattle.parity_code.specs.Foretold.{IsForetoldFunction}
use Rattle.parity_synth.specs.CheckedNet.{kept_places, output_nets, plan_of}
use Rattle.parity_code.proofs.OutputsCopied.{all_copied}
use Rattle.parity_code.proofs.ForetoldFunction.{function_sound}
use Rattle.parity_synth.proofs.Drafts.{Draft, IsDraft, AreNumbered, kept_of, first_parts, output_texts, word_texts, checker_parts, composed_named, checker_came, fresh_names, fresh_few, size_within, nodes_are, inputs_are, latches_are, outputs_are, drivers_are}

-- of nodes in three stretches the first stands from the begin on
stand_first : (N : Circuit) (xs ys zs : List NodeOf) → N.nodes ≡ (xs ++ ys) ++ zs → StandAt N 0 xs
stand_first N xs ys zs is = record {
  fits = omega (arith, ap length is, length-append (xs ++ ys) zs, length-append xs ys);
  each = λ k low.
      ap (λ (i : ℕ). slice_index_or N.nodes i no_node) (let e : 0 + k ≡ k = omega arith in e) ∙ ap (λ (list : List NodeOf). slice_index_or list k no_node) is
      ∙ get_or_append_left (xs ++ ys) zs no_node k (omega (arith, low, length-append xs ys)) ∙ get_or_append_left xs ys no_node k low;
}

-- and the second stands after it
stand_second : (N : Circuit) (xs ys zs : List NodeOf) → N.nodes ≡ (xs ++ ys) ++ zs → StandAt N (length xs) ys
stand_second N xs ys zs is = record {
  fits = omega (arith, ap length is, length-append (xs ++ ys) zs, length-append xs ys);
  each = λ k low.
      ap (λ (list : List NodeOf). slice_index_or list (length xs + k) no_node) is
      ∙ get_or_append_left (xs ++ ys) zs no_node (length xs + k) (omega (arith, low, length-append xs ys)) ∙ get_or-append-add xs ys k no_node;
}

module _ (D : Draft) where
  -- the number of a text among the drivers
  abbrev pub number_in : List ℕ → ℕ
  number_in text = place_of_text (drivers (composed_named D)) text

  -- the circuit
  abbrev pub composed_circuit : Circuit
  composed_circuit = circuit_of (composed_named D)

  -- and the plan with the numbers of the two rails
  abbrev pub composed_plan : CodePlan
  composed_plan = plan_of D.source.circuit D.checks (number_in (text_at (checker_parts D).names D.made.rail1)) (number_in (text_at (checker_parts D).names D.made.rail2))

-- where the checker begins
abbrev pub top_of : Draft → ℕ
top_of D = length (kept_places D.source.circuit) + length D.logic

module _ (D : Draft) (h : IsDraft D) where
  -- the names of the nets differ
  pub composed_apart : IsNumbering (drivers (composed_named D))
  composed_apart = subst IsNumbering (sym (drivers_are D h)) (names_differ D.source h.checked (kept_of D) h.cone.rising h.cone.within (fresh_names D h) (fresh_few D h))

  -- the number of an input's name is the input
  input_number : (i : ℕ) → i < D.source.circuit.inputs → number_in D (text_at D.source.names i) ≡ i
  input_number i low =
      ap (λ (names : List (List ℕ)). place_of_text names (text_at D.source.names i)) (drivers_are D h) ∙ input_placed D.source h.checked (kept_of D) h.cone.rising h.cone.within (fresh_names D h) (fresh_few D h) i low

  -- the numbers of covers go on after the inputs
  cover_number : (k : ℕ) → k < length (kept_of D) → number_in D (text_at D.source.names (node_net D.source.circuit (slice_index (kept_of D) k))) ≡ D.source.circuit.inputs + k
  cover_number k low =
      ap (λ (names : List (List ℕ)). place_of_text names (text_at D.source.names (node_net D.source.circuit (slice_index (kept_of D) k)))) (drivers_are D h)
      ∙ cover_placed D.source h.checked (kept_of D) h.cone.rising h.cone.within (fresh_names D h) (fresh_few D h) k low

  -- and those of fresh names after the covers
  fresh_number : (k : ℕ) → k < fresh_names D h → number_in D (fresh_text (free_number D.source.names) k) ≡ D.source.circuit.inputs + (length (kept_of D) + k)
  fresh_number k low =
      ap (λ (names : List (List ℕ)). place_of_text names (fresh_text (free_number D.source.names) k)) (drivers_are D h)
      ∙ fresh_placed D.source h.checked (kept_of D) h.cone.rising h.cone.within (fresh_names D h) (fresh_few D h) k low

  -- the number of a net of the source that is kept
  own_number : (n : ℕ) → IsCopied D.source.circuit (kept_of D) n → number_in D (text_at D.source.names n) ≡ copy_net D.source.circuit (kept_of D) 0 n
  own_number n (inl input) = input_number n input ∙ sym (copy_net-input D.source.circuit (kept_of D) 0 n input)
  own_number n (inr (k, there, e)) =
      let none : length D.source.circuit.latches ≡ 0 = h.none in
      let over_inputs : D.source.circuit.inputs ≤ node_net D.source.circuit (slice_index (kept_of D) k) = omega arith in
      let back : node_net D.source.circuit (slice_index (kept_of D) k) - D.source.circuit.inputs ≡ slice_index (kept_of D) k = omega arith in
      let copy : copy_net D.source.circuit (kept_of D) 0 (node_net D.source.circuit (slice_index (kept_of D) k)) ≡ D.source.circuit.inputs + (0 + k)
      = copy_net-node D.source.circuit (kept_of D) 0 (node_net D.source.circuit (slice_index (kept_of D) k)) over_inputs
      ∙ ap (λ (i : ℕ). D.source.circuit.inputs + (0 + place_in (kept_of D) i)) back ∙ ap (λ (i : ℕ). D.source.circuit.inputs + (0 + i)) (place_in-rising (kept_of D) h.cone.rising k there) in
      let same : number_in D (text_at D.source.names (node_net D.source.circuit (slice_index (kept_of D) k))) ≡ copy_net D.source.circuit (kept_of D) 0 (node_net D.source.circuit (slice_index (kept_of D) k))
      = omega (arith, cover_number k there, copy) in
      ap (λ (j : ℕ). number_in D (text_at D.source.names j)) e ∙ same ∙ sym (ap (copy_net D.source.circuit (kept_of D) 0) e)

  -- the numbers of the names of some nets that are kept
  own_numbers : (ns : List ℕ) → All (IsCopied D.source.circuit (kept_of D)) ns → map (number_in D) (map (text_at D.source.names) ns) ≡ map (copy_net D.source.circuit (kept_of D) 0) ns
  own_numbers ns all = map-map (number_in D) (text_at D.source.names) ns ∙ map_agrees (IsCopied D.source.circuit (kept_of D)) (λ n. number_in D (text_at D.source.names n)) (copy_net D.source.circuit (kept_of D) 0) own_number ns all

  -- the source's own covers, over the numbers of names
  own_are : map (over (number_in D)) (own_nodes D.source (kept_of D)) ≡ copied_nodes D.source.circuit (kept_of D) 0
  own_are =
      map-map (over (number_in D)) (node_by D.source.circuit (text_at D.source.names)) (kept_of D)
      ∙ map_agrees (λ place. over (number_in D) (node_by D.source.circuit (text_at D.source.names) place) ≡ renamed (copy_net D.source.circuit (kept_of D) 0) (node D.source.circuit place))
      (λ place. over (number_in D) (node_by D.source.circuit (text_at D.source.names) place)) (λ place. renamed (copy_net D.source.circuit (kept_of D) 0) (node D.source.circuit place)) (λ place same. same) (kept_of D)
      (All-from_get_or (λ place. over (number_in D) (node_by D.source.circuit (text_at D.source.names) place) ≡ renamed (copy_net D.source.circuit (kept_of D) 0) (node D.source.circuit place)) (kept_of D) 0
      (λ k there. ap (λ (reads : List ℕ). let m : NodeOf = record { reads = reads; cover = (node D.source.circuit (slice_index (kept_of D) k)).cover } in m)
      (own_numbers (node D.source.circuit (slice_index (kept_of D) k)).reads (reads_copied D.source.circuit D.source.circuit.outputs (kept_of D) h.none h.checked.closed h.cone k there))))

  -- each output of the source is kept, or an input
  outputs_kept : All (IsCopied D.source.circuit (kept_of D)) D.source.circuit.outputs
  outputs_kept = all_copied D.source.circuit (kept_of D) h.none h.checked.closed h.cone

  -- the numbers of names are these
  names_numbered : AreNumbered D.source (number_in D) (fresh_names D h)
  names_numbered = record { inputs = input_number; fresh = fresh_number }

  -- the logic is written over these numbers
  pub written : Writes (number_in D) (free_number D.source.names) 0 (first_parts D) D.parts D.logic
  written = h.written (number_in D) (fresh_names D h) (size_within D h) names_numbered

  -- the nodes of the circuit
  circuit_nodes : (composed_circuit D).nodes ≡ (copied_nodes D.source.circuit (kept_of D) 0 ++ D.logic) ++ map (over (number_in D)) (checker_came D h).added
  circuit_nodes =
      ap (map (over (number_in D))) (nodes_are D h (number_in D) written)
      ∙ map-append (over (number_in D)) (own_nodes D.source (kept_of D) ++ written.added) (checker_came D h).added
      ∙ ap (λ (list : List NodeOf). list ++ map (over (number_in D)) (checker_came D h).added)
      (map-append (over (number_in D)) (own_nodes D.source (kept_of D)) written.added ∙ ap₂ (λ (a b : List NodeOf). a ++ b) own_are written.are)

  -- there is a copy for each kept cover
  copies_counted : length (copied_nodes D.source.circuit (kept_of D) 0) ≡ length (kept_of D)
  copies_counted = length-map (kept_of D) (λ place. renamed (copy_net D.source.circuit (kept_of D) 0) (node D.source.circuit place))

  -- so many nodes has the function part
  function_counted : length (copied_nodes D.source.circuit (kept_of D) 0 ++ D.logic) ≡ top_of D
  function_counted = omega (arith, length-append (copied_nodes D.source.circuit (kept_of D) 0) D.logic, copies_counted)

  -- the kept covers stand first
  own_stand : StandAt (composed_circuit D) 0 (copied_nodes D.source.circuit (kept_of D) 0)
  own_stand =
      stand_first (composed_circuit D) (copied_nodes D.source.circuit (kept_of D) 0) D.logic (map (over (number_in D)) (checker_came D h).added) circuit_nodes

  -- and the logic after them
  logic_stands : StandAt (composed_circuit D) (length (kept_of D)) D.logic
  logic_stands =
      subst (λ (n : ℕ). StandAt (composed_circuit D) n D.logic) copies_counted
      (stand_second (composed_circuit D) (copied_nodes D.source.circuit (kept_of D) 0) D.logic (map (over (number_in D)) (checker_came D h).added) circuit_nodes)

  -- the circuit has the inputs of the source
  pub same_inputs : (composed_circuit D).inputs ≡ D.source.circuit.inputs
  same_inputs = ap length (inputs_are D h) ∙ length-take-le {A = List ℕ} D.source.circuit.inputs D.source.names (let s = h.checked.sized in omega (arith, s))

  -- it has no latches
  pub latchless : (composed_circuit D).latches ≡ []
  latchless = ap (map (λ l. let m : LatchOf = record { reads = number_in D l.reads; init = l.init } in m)) (latches_are D h)

  -- the numbers of the outputs' names are their copies' nets
  outputs_numbered : map (number_in D) (output_texts D) ≡ output_nets D.source.circuit
  outputs_numbered = own_numbers D.source.circuit.outputs outputs_kept

  -- its outputs are these, and then the two rails
  pub circuit_outputs : (composed_circuit D).outputs ≡ output_nets D.source.circuit ++ ((composed_plan D).rail1 ∷ ((composed_plan D).rail2 ∷ []))
  circuit_outputs =
      ap (map (number_in D)) (outputs_are D h)
      ∙ map-append (number_in D) (output_texts D) (text_at (checker_parts D).names D.made.rail1 ∷ (text_at (checker_parts D).names D.made.rail2 ∷ []))
      ∙ ap (λ (list : List ℕ). list ++ ((composed_plan D).rail1 ∷ ((composed_plan D).rail2 ∷ []))) outputs_numbered

  -- so the first of them are the copies of the outputs
  pub first_outputs : take (length D.source.circuit.outputs) (composed_circuit D).outputs ≡ output_nets D.source.circuit
  first_outputs =
      ap (take (length D.source.circuit.outputs)) circuit_outputs
      ∙ front (length D.source.circuit.outputs) (output_nets D.source.circuit) ((composed_plan D).rail1 ∷ ((composed_plan D).rail2 ∷ [])) (length-map D.source.circuit.outputs (copy_net D.source.circuit (kept_of D) 0))

  -- the numbers of the checks
  pub checks_numbered : map (number_in D) D.texts ≡ D.checks
  checks_numbered = h.numbered (number_in D) (fresh_names D h) (size_within D h) names_numbered

  -- the monitored nets are those of the outputs and of the checks
  pub word_is : monitored (composed_circuit D) (composed_plan D) ≡ output_nets D.source.circuit ++ D.checks
  word_is =
      ap₂ (λ (list : List ℕ) (ls : List LatchOf). list ++ map (λ l. l.reads) ls) (ap (λ (list : List ℕ). list ++ D.checks) first_outputs) latchless
      ∙ append-nil (output_nets D.source.circuit ++ D.checks)

  -- which are the numbers of the word's names
  pub monitored_are : monitored (composed_circuit D) (composed_plan D) ≡ map (number_in D) (word_texts D)
  monitored_are =
      word_is
      ∙ ap₂ (λ (a b : List ℕ). a ++ b) (sym outputs_numbered) (sym checks_numbered)
      ∙ sym (map-append (number_in D) (output_texts D) D.texts)

  -- the circuit begins with the function part
  pub nodes_begin : take (top_of D) (composed_circuit D).nodes ≡ copied_nodes D.source.circuit (kept_of D) 0 ++ D.logic
  nodes_begin =
      ap₂ (λ (n : ℕ) (list : List NodeOf). take n list) (sym function_counted) circuit_nodes
      ∙ front (length (copied_nodes D.source.circuit (kept_of D) 0 ++ D.logic)) (copied_nodes D.source.circuit (kept_of D) 0 ++ D.logic) (map (over (number_in D)) (checker_came D h).added) refl

  -- so many nodes has it
  pub nodes_counted : length (composed_circuit D).nodes ≡ top_of D + length (checker_came D h).added
  nodes_counted =
      omega (
        arith,
        ap (λ (list : List NodeOf). length list) circuit_nodes,
        length-append (copied_nodes D.source.circuit (kept_of D) 0 ++ D.logic) (map (over (number_in D)) (checker_came D h).added),
        function_counted,
        length-map (checker_came D h).added (over (number_in D)),
      )

  -- it is a function part with foretold checks up to the checker
  pub is_function : IsForetoldFunction D.source.circuit (composed_circuit D) (composed_plan D) (top_of D)
  is_function = record {
    kept = kept_places D.source.circuit;
    net = copy_net D.source.circuit (kept_places D.source.circuit) 0;
    own = cone_copy D.source.circuit (composed_circuit D) (h.none, ap length latchless) same_inputs h.checked.closed.pins D.source.circuit.outputs (kept_places D.source.circuit) 0 h.cone own_stand;
    outputs_copied = outputs_kept;
    counted = refl;
    outputs = first_outputs;
    foretells = h.foretells (composed_circuit D) same_inputs (ap length latchless) logic_stands;
    apart = first_fit_groups_apart D.source.circuit (first_fit_groups D.source.circuit) h.fit;
  }

  -- and it is sound up to there
  pub sound_to_top : SoundTo (composed_circuit D) (top_of D)
  sound_to_top = function_sound D.source.circuit (composed_circuit D) (composed_plan D) (top_of D) is_function h.checked.acyclic.rank h.checked.acyclic.ranks
