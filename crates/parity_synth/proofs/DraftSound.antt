-- A netlist with foretold checks is sound, as it is composed: nothing refuses it.
use Rattle.std.proofs.Common.{◌≡◌, ℕ, ◌+◌, ◌<◌, ◌≤◌, inl, inr, List, [], ◌∷◌, map, length, slice_index, slice_index_or, All, refl, sym, ◌∙◌, ap, subst, arith, None}
use Rattle.std.proofs.lemmas.Bool.{cases_lt}
use Rattle.std.proofs.lemmas.List.{length-map, get_or-map, get_or_append_left, get_or_default}
use Rattle.std.proofs.lemmas.List.Elements.{All-nil}
use Rattle.fault_secure.specs.Circuit.{LatchOf, NodeOf, node, node_net, pin_net, nets}
use Rattle.fault_secure.specs.CodePlan.{monitored}
use Rattle.fault_secure.specs.Segment.{SoundTo, IsAppended}
use Rattle.fault_secure.specs.Settle.{Acyclic}
use Rattle.fault_secure.proofs.SegmentLemmas.{joined_sound, appended_segment, sound_acyclic}
use Rattle.tsc_net.specs.Named.{NamedNode, no_named}
use Rattle.tsc_net.specs.Names.{text_at, IsNumbering}
use Rattle.parity_code.specs.ParityCircuit.{copy_net}
use Rattle.net_building.specs.Sound.{IsSound}
use Rattle.net_building.proofs.NamedNets.{node_of_named, place_of_node}
use Rattle.net_writing.proofs.CheckerReads.{IsFedBefore}
use Rattle.net_writing.proofs.CheckerOrder.{nodes_read}
use Rattle.net_writing.proofs.SoundCircuit.{sound_by_circuit}
use Rattle.parity_synth.specs.CheckedNet.{output_nets}
use Rattle.parity_synth.specs.Composed.{with_checked}
use Rattle.parity_code.proofs.ForetoldFunction.{monitored_below}
use Rattle.parity_synth.proofs.Drafts.{Draft, IsDraft, kept_of, output_texts, word_texts, shown_parts, checker_parts, composed_named, outputs_are}
use Rattle.parity_synth.proofs.DraftCircuit.{number_in, composed_circuit, composed_plan, top_of, composed_apart, latchless, circuit_outputs, monitored_are, is_function, sound_to_top}
use Rattle.parity_synth.proofs.DraftChecker.{IsNodeNet, is_over, before_checker, first_rail, second_rail, rails_apart, output_below, outputs_within, is_plan}

module _ (D : Draft) (h : IsDraft D) where
  -- the circuit has a node for each by names
  nodes_counted : length (composed_circuit D).nodes ≡ length (composed_named D).nodes
  nodes_counted = length-map (composed_named D).nodes _

  -- the nodes are those with the checker, since outputs come after
  nodes_same : (composed_named D).nodes ≡ (checker_parts D).parts.named.nodes
  unfolding with_checked
  nodes_same = refl

  -- what is fed before a node of the checker has a net before its own
  fed_below : (k : ℕ) (text : List ℕ) → top_of D ≤ k → k < length (composed_named D).nodes → IsFedBefore (composed_named D).nodes (length (shown_parts D).named.nodes) (word_texts D) k text
      → number_in D text < node_net (composed_circuit D) k
  fed_below k text from there (inl c) =
      let are = monitored_are D h in
      let long : length (monitored (composed_circuit D) (composed_plan D)) ≡ length (word_texts D) = ap length are ∙ length-map (word_texts D) (number_in D) in
      let at : number_in D text ≡ slice_index (monitored (composed_circuit D) (composed_plan D)) c.0
      = ap (number_in D) (sym (get_or_default (word_texts D) c.0 [] text c.1 ∙ c.2)) ∙ sym (get_or-map (number_in D) (word_texts D) c.0 [] 0 c.1) ∙ ap (λ (list : List ℕ). slice_index list c.0) (sym are) in
      let inside : c.0 < length (word_texts D) = c.1 in
      let b = monitored_below D.source.circuit (composed_circuit D) (composed_plan D) (top_of D) (is_function D h) h.checked.acyclic.rank h.checked.acyclic.ranks c.0 (omega (arith, inside, long)) in
      omega (arith, at, b)
  fed_below k text from there (inr d) = earlier d.0 d.2 d.3
    where
      earlier : (j : ℕ) → j < k → (slice_index_or (composed_named D).nodes j no_named).out ≡ text → number_in D text < node_net (composed_circuit D) k
      earlier j low is =
          let here : j < length (composed_named D).nodes = omega arith in
          let net : number_in D text ≡ node_net (composed_circuit D) j
          = ap (number_in D) (sym (get_or-map (λ (n : NamedNode). n.out) (composed_named D).nodes j no_named [] here ∙ is)) ∙ place_of_node (composed_named D) (composed_apart D h) j here in
          omega (arith, net)

  -- each node of the checker reads nets before its own
  appended : IsAppended (composed_circuit D) (top_of D) (length (composed_circuit D).nodes)
  appended = record { ordered = (sound_to_top D h).fits; fits = omega arith; before = each }
    where
      each : (j pin : ℕ) → top_of D ≤ j → j < length (composed_circuit D).nodes → pin < length (node (composed_circuit D) j).reads → pin_net (composed_circuit D) j pin < node_net (composed_circuit D) j
      each j pin from there has =
          let within : j < length (composed_named D).nodes = omega (arith, there, nodes_counted) in
          let reads : (node (composed_circuit D) j).reads ≡ map (number_in D) (slice_index_or (composed_named D).nodes j no_named).reads
          = ap (λ (m : NodeOf). m.reads) (node_of_named (composed_named D) j (slice_index_or (composed_named D).nodes j no_named) no_named within refl) in
          let here : pin < length (slice_index_or (composed_named D).nodes j no_named).reads
          = omega (arith, has, ap length reads, length-map (slice_index_or (composed_named D).nodes j no_named).reads (number_in D)) in
          let is : pin_net (composed_circuit D) j pin ≡ number_in D (text_at (slice_index_or (composed_named D).nodes j no_named).reads pin)
          = ap (λ (list : List ℕ). slice_index list pin) reads ∙ get_or-map (number_in D) (slice_index_or (composed_named D).nodes j no_named).reads pin [] 0 here in
          let fed = nodes_read (shown_parts D) (word_texts D) D.made None (is_over D h) (composed_named D) nodes_same j pin (omega (arith, from, before_checker D h)) within here in
          let low = fed_below j (text_at (slice_index_or (composed_named D).nodes j no_named).reads pin) from within fed in
          omega (arith, is, low)

  -- the circuit is sound to its end
  pub sound_to_end : SoundTo (composed_circuit D) (length (composed_circuit D).nodes)
  sound_to_end =
      joined_sound (composed_circuit D) (top_of D) (length (composed_circuit D).nodes) (sound_to_top D h)
      (appended_segment (composed_circuit D) (top_of D) (length (composed_circuit D).nodes) appended)

  -- so no ring is in it
  pub composed_acyclic : Acyclic (composed_circuit D)
  composed_acyclic = sound_acyclic (composed_circuit D) sound_to_end

  -- so many outputs
  shown_counted : length (composed_named D).outputs ≡ length D.source.circuit.outputs + 2
  shown_counted = sym (length-map (composed_named D).outputs (number_in D)) ∙ (is_plan D h).outputs

  -- the net of a text that is shown
  shown_net : (a : ℕ) → a < length (composed_named D).outputs → number_in D (text_at (composed_named D).outputs a) ≡ slice_index (composed_circuit D).outputs a
  shown_net a low = sym (get_or-map (number_in D) (composed_named D).outputs a [] 0 low)

  -- the text of an output of the source is its net's name
  shown_own : (a : ℕ) → a < length D.source.circuit.outputs → text_at (composed_named D).outputs a ≡ text_at D.source.names (slice_index D.source.circuit.outputs a)
  shown_own a low =
      ap (λ (list : List (List ℕ)). text_at list a) (outputs_are D h)
      ∙ get_or_append_left (output_texts D) (text_at (checker_parts D).names D.made.rail1 ∷ (text_at (checker_parts D).names D.made.rail2 ∷ [])) [] a (omega (arith, low, length-map D.source.circuit.outputs (text_at D.source.names)))
      ∙ get_or-map (text_at D.source.names) D.source.circuit.outputs a 0 [] low

  -- a rail is after the nets of the source's outputs
  rail_behind : (net : ℕ) → IsNodeNet (composed_circuit D) (top_of D) net → node_net (composed_circuit D) (top_of D) ≤ net
  rail_behind net is = let b = is.behind in let e = is.drives in omega (arith, b, e)

  -- the first outputs stand before the checker
  shown_low : (a : ℕ) → a < length D.source.circuit.outputs → slice_index (composed_circuit D).outputs a < node_net (composed_circuit D) (top_of D)
  shown_low a low =
      let at = ap (λ (list : List ℕ). slice_index list a) (circuit_outputs D h) ∙ get_or_append_left (output_nets D.source.circuit) ((composed_plan D).rail1 ∷ ((composed_plan D).rail2 ∷ [])) 0 a (omega (arith, low, length-map D.source.circuit.outputs (copy_net D.source.circuit (kept_of D) 0))) in
      omega (arith, at, output_below D h a low)

  -- and the last two in it
  shown_high : (b : ℕ) → length D.source.circuit.outputs ≤ b → b < length D.source.circuit.outputs + 2 → node_net (composed_circuit D) (top_of D) ≤ slice_index (composed_circuit D).outputs b
  shown_high b from within = elim (cases_lt b (length D.source.circuit.outputs + 1)) [
    | inl first ↦ (
        let at : b ≡ length D.source.circuit.outputs = omega arith in
        omega (arith, ap (slice_index (composed_circuit D).outputs) at, (is_plan D h).rail1, rail_behind (composed_plan D).rail1 (first_rail D h)))
    | inr second ↦ (
        let at : b ≡ length D.source.circuit.outputs + 1 = omega arith in
        omega (arith, ap (slice_index (composed_circuit D).outputs) at, (is_plan D h).rail2, rail_behind (composed_plan D).rail2 (second_rail D h)))
  ]

  -- what is shown at different places differs
  shown_apart : (a b : ℕ) → a < b → b < length (composed_named D).outputs → text_at (composed_named D).outputs a ≡ text_at (composed_named D).outputs b → ⊥
  shown_apart a b low there same = elim (cases_lt b (length D.source.circuit.outputs)) [
    | inl own ↦ (
        let first : slice_index D.source.circuit.outputs a < nets D.source.circuit = net_of a (omega arith) in
        let second : slice_index D.source.circuit.outputs b < nets D.source.circuit = net_of b own in
        let s = h.checked.sized in
        h.once a b low own (h.checked.numbering.distinct (slice_index D.source.circuit.outputs a) (slice_index D.source.circuit.outputs b) (omega (arith, first, s)) (omega (arith, second, s)) (sym (shown_own a (omega arith)) ∙ same ∙ shown_own b own)))
    | inr rail ↦ (
        let numbers : slice_index (composed_circuit D).outputs a ≡ slice_index (composed_circuit D).outputs b = sym (shown_net a (omega arith)) ∙ ap (number_in D) same ∙ shown_net b there in
        elim (cases_lt a (length D.source.circuit.outputs)) [
          | inl own ↦ omega (arith, numbers, shown_low a own, shown_high b rail (omega (arith, there, shown_counted)))
          | inr both ↦ (
              let at : a ≡ length D.source.circuit.outputs = omega (arith, both, low, there, shown_counted) in
              let behind : b ≡ length D.source.circuit.outputs + 1 = omega (arith, both, low, there, shown_counted) in
              rails_apart D h (sym (is_plan D h).rail1 ∙ sym (ap (slice_index (composed_circuit D).outputs) at) ∙ numbers ∙ ap (slice_index (composed_circuit D).outputs) behind ∙ (is_plan D h).rail2))
        ])
  ]
    where
      net_of : (i : ℕ) → i < length D.source.circuit.outputs → slice_index D.source.circuit.outputs i < nets D.source.circuit
      net_of i within = h.checked.closed.outputs i 0 within

  -- so nothing is shown twice
  shown_once : IsNumbering (composed_named D).outputs
  shown_once = record { distinct = both }
    where
      both : (a b : ℕ) → a < length (composed_named D).outputs → b < length (composed_named D).outputs → text_at (composed_named D).outputs a ≡ text_at (composed_named D).outputs b → a ≡ b
      both a b ha hb same = elim (cases_lt a b) [
        | inl below ↦ absurd (shown_apart a b below hb same)
        | inr above ↦ elim (cases_lt b a) [
          | inl other ↦ absurd (shown_apart b a other ha (sym same))
          | inr neither ↦ omega arith
        ]
      ]

  -- nothing refuses the netlist
  pub composed_sound : IsSound (composed_named D)
  composed_sound =
      sound_by_circuit (composed_named D) sound_to_end (composed_apart D h) shown_once (omega (arith, shown_counted)) (outputs_within D h)
      (subst (All (λ (l : LatchOf). l.reads < nets (composed_circuit D))) (sym (latchless D h)) (All-nil (λ (l : LatchOf). l.reads < nets (composed_circuit D))))
