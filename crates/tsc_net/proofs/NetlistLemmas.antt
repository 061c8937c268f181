-- Netlists by names and by numbers: the first fault, what is driven, and that a netlist states exactly its parts.
use Rattle.std.proofs.Common.{◌≡◌, ℕ, ◌+◌, ◌<◌, ◌^◌, Bool, true, false, List, [], ◌∷◌, ◌++◌, map, length, take, All, slice_index, Option, Some, None, refl, sym, ap, ◌∙◌, subst, arith, if◌then◌else◌, append_assoc, length-append}
use Rattle.std.proofs.lemmas.List.Elements.{All-nil, All-cons, All-head, All-tail, All-map, All-weaker, All-get_or}
use Rattle.std.proofs.Math.Seq.{take-append_seam, get_or-append_seam}
use Rattle.std.proofs.lemmas.List.{append-nil, length-map}
use Rattle.fault_secure.specs.Circuit.{nets, node, no_node}
use Rattle.tsc_net.specs.Named.{Named, NamedLatch, NamedNode, latch_outs, node_outs}
use Rattle.tsc_net.specs.Names.{has_text, place_of_text, text_at, IsNumbering}
use Rattle.tsc_net.specs.NetlistOf.{named_of, named_latches, named_nodes, names_of, drivers, circuit_of, netlist_of, numbered_latch, numbered_node}
use Rattle.fault_secure.specs.Closed.{IsClosed}
use Rattle.tsc_net.specs.NetFault.{repeat_after, first_repeat, first_missing, no_outputs, twice, undriven, ring_of, first_fault, fault_of, IsRefusedFor}
use Rattle.tsc_net.specs.inner.Build.{IsTwice, IsUnread, IsDriven, IsClosedNetlist, IsRing, latch_reads, node_reads}
use Rattle.tsc_net.specs.Order.{fan_ins, has_whole_order}
use Rattle.tsc_net.specs.declared.net_error.NetError.{NetError}
use Rattle.tsc_net.specs.declared.net_error.NetError.TheVariants.{Twice, Undriven, NoOutputs, Cycle, Memory}
use Rattle.tsc_net.proofs.NameLemmas.{place_within, text_at_place, numbering-with_text}
use Rattle.tsc_net.proofs.BuildLemmas.{missing-driven, missing-here, repeat-here, repeat-new}

-- the first fault of the five
module _ (a b c : Option (List ℕ)) (outputs : List (List ℕ)) (d : Option NetError) where
  pub first-twice : (t : List ℕ) → a ≡ Some t → first_fault (twice a ∷ twice b ∷ undriven c ∷ no_outputs outputs ∷ d ∷ []) ≡ Some (Twice t)
  first-twice t e = rw e refl

  pub first-shown : (t : List ℕ) → a ≡ None → b ≡ Some t → first_fault (twice a ∷ twice b ∷ undriven c ∷ no_outputs outputs ∷ d ∷ []) ≡ Some (Twice t)
  first-shown t e f = rw (e, f) refl

  pub first-undriven : (t : List ℕ) → a ≡ None → b ≡ None → c ≡ Some t → first_fault (twice a ∷ twice b ∷ undriven c ∷ no_outputs outputs ∷ d ∷ []) ≡ Some (Undriven t)
  first-undriven t e f g = rw (e, f, g) refl

  pub first-no_outputs : a ≡ None → b ≡ None → c ≡ None → outputs ≡ [] → first_fault (twice a ∷ twice b ∷ undriven c ∷ no_outputs outputs ∷ d ∷ []) ≡ Some NoOutputs
  first-no_outputs e f g h = rw (e, f, g, h) refl

  pub first-last : a ≡ None → b ≡ None → c ≡ None → no_outputs outputs ≡ None → first_fault (twice a ∷ twice b ∷ undriven c ∷ no_outputs outputs ∷ d ∷ []) ≡ d
  first-last e f g h = rw (e, f, g, h) (by d)
    where
      by : (d : Option NetError) → first_fault (d ∷ []) ≡ d
      by None = refl
      by (Some x) = refl

module _ (N : Named) where
  -- refused by what each step answers
  pub refused-twice : (e : NetError) → IsTwice (drivers N) e → IsRefusedFor N e
  refused-twice (Twice t) h = first-twice _ _ _ _ _ t h
  refused-twice (Undriven t) h = absurd h
  refused-twice NoOutputs h = absurd h
  refused-twice (Cycle ts) h = absurd h
  refused-twice (Memory x) h = tt

  pub refused-shown : (e : NetError) → first_repeat (drivers N) ≡ None → IsTwice N.outputs e → IsRefusedFor N e
  refused-shown (Twice t) once h = first-shown _ _ _ _ _ t once h
  refused-shown (Undriven t) once h = absurd h
  refused-shown NoOutputs once h = absurd h
  refused-shown (Cycle ts) once h = absurd h
  refused-shown (Memory x) once h = tt

  pub refused-unread : (e : NetError) → first_repeat (drivers N) ≡ None → first_repeat N.outputs ≡ None → IsUnread N e → IsRefusedFor N e
  refused-unread (Twice t) once shown h = absurd h
  refused-unread (Undriven t) once shown h = first-undriven _ _ _ _ _ t once shown h
  refused-unread NoOutputs once shown h = first-no_outputs _ _ _ _ _ once shown h.0 h.1
  refused-unread (Cycle ts) once shown h = absurd h
  refused-unread (Memory x) once shown h = tt

  -- the fault of a driven netlist is its ring, if it has one
  pub refused-ring : (e : NetError) → IsDriven N → IsRing (netlist_of N) e → IsRefusedFor N e
  refused-ring (Twice t) d h = absurd h
  refused-ring (Undriven t) d h = absurd h
  refused-ring NoOutputs d h = absurd h
  refused-ring (Cycle ts) d h =
      first-last _ _ _ _ _ d.once d.shown_once d.driven d.some_output
      ∙ ap (λ b. if b then None else Some (Cycle (ring_of N))) h.0
      ∙ ap (λ names. Some (Cycle names)) (sym h.1)
  refused-ring (Memory x) d h = tt

  pub no_fault : IsDriven N → has_whole_order (fan_ins (circuit_of N)) ≡ true → fault_of N ≡ None
  no_fault d whole =
      first-last _ _ _ _ _ d.once d.shown_once d.driven d.some_output
      ∙ ap (λ b. if b then None else Some (Cycle (ring_of N))) whole

-- each text of a list of which none is missing is driven
pub all_driven : (driven texts : List (List ℕ)) → first_missing driven texts ≡ None → All (λ t. has_text driven t ≡ true) texts
all_driven driven [] e = All-nil (λ t. has_text driven t ≡ true)
all_driven driven (t ∷ texts) e = by (has_text driven t) refl (all_driven driven texts)
  where
    by : (b : Bool) → has_text driven t ≡ b → (first_missing driven texts ≡ None → All (λ t. has_text driven t ≡ true) texts)
        → All (λ t. has_text driven t ≡ true) (t ∷ texts)
    by true h rest = All-cons (λ t. has_text driven t ≡ true) t texts h (rest (sym (missing-driven driven texts t h) ∙ e))
    by false h rest = let no : Some t ≡ None = sym (missing-here driven texts t h) ∙ e in cc

-- the texts at the places of texts that are driven
pub texts_at_places : (driven texts : List (List ℕ)) → All (λ t. has_text driven t ≡ true) texts → names_of driven (map (place_of_text driven) texts) ≡ texts
texts_at_places driven [] all = refl
texts_at_places driven (t ∷ texts) all =
    let here = text_at_place driven t (All-head (λ t. has_text driven t ≡ true) t texts all) in
    let rest = texts_at_places driven texts (All-tail (λ t. has_text driven t ≡ true) t texts all) in
    cc

-- latches and nodes by names, from their numbers
module _ (driven : List (List ℕ)) where
  pub named_latches-same : (latches : List NamedLatch) (front back : List (List ℕ)) (at : ℕ)
      → driven ≡ front ++ (map (λ l. l.out) latches ++ back) → length front ≡ at
      → All (λ l. has_text driven l.reads ≡ true) latches
      → named_latches driven at (map (numbered_latch driven) latches) ≡ latches
  named_latches-same [] front back at e h all = refl
  named_latches-same (l ∷ latches) front back at e h all =
      let reads = text_at_place driven l.reads (All-head (λ l. has_text driven l.reads ≡ true) l latches all) in
      let out : text_at driven at ≡ l.out =
      ap (λ k. text_at driven k) (sym h) ∙ ap (λ names. text_at names (length front)) e
      ∙ get_or-append_seam front l.out (map (λ l. l.out) latches ++ back) [] in
      let rest = named_latches-same latches (front ++ l.out ∷ []) back (at + 1)
      (e ∙ sym (append_assoc front (l.out ∷ []) (map (λ l. l.out) latches ++ back)))
      (omega (arith, length-append front (l.out ∷ []), h))
      (All-tail (λ l. has_text driven l.reads ≡ true) l latches all) in
      let later = named_latches driven (at + 1) (map (numbered_latch driven) latches) in
      let with_reads : List ℕ → List NamedLatch = λ r. record { reads = r; out = text_at driven at; init = l.init } ∷ later in
      let with_out : List ℕ → List NamedLatch = λ o. record { reads = l.reads; out = o; init = l.init } ∷ later in
      ap with_reads reads ∙ ap with_out out ∙ ap (λ ls. l ∷ ls) rest

  pub named_nodes-same : (nodes : List NamedNode) (front back : List (List ℕ)) (at : ℕ)
      → driven ≡ front ++ (map (λ n. n.out) nodes ++ back) → length front ≡ at
      → All (λ n. All (λ t. has_text driven t ≡ true) n.reads) nodes
      → named_nodes driven at (map (numbered_node driven) nodes) ≡ nodes
  named_nodes-same [] front back at e h all = refl
  named_nodes-same (n ∷ nodes) front back at e h all =
      let reads = texts_at_places driven n.reads (All-head (λ n. All (λ t. has_text driven t ≡ true) n.reads) n nodes all) in
      let out : text_at driven at ≡ n.out =
      ap (λ k. text_at driven k) (sym h) ∙ ap (λ names. text_at names (length front)) e
      ∙ get_or-append_seam front n.out (map (λ n. n.out) nodes ++ back) [] in
      let rest = named_nodes-same nodes (front ++ n.out ∷ []) back (at + 1)
      (e ∙ sym (append_assoc front (n.out ∷ []) (map (λ n. n.out) nodes ++ back)))
      (omega (arith, length-append front (n.out ∷ []), h))
      (All-tail (λ n. All (λ t. has_text driven t ≡ true) n.reads) n nodes all) in
      let later = named_nodes driven (at + 1) (map (numbered_node driven) nodes) in
      let with_reads : List (List ℕ) → List NamedNode = λ r. record { reads = r; out = text_at driven at; cover = n.cover } ∷ later in
      let with_out : List ℕ → List NamedNode = λ o. record { reads = n.reads; out = o; cover = n.cover } ∷ later in
      ap with_reads reads ∙ ap with_out out ∙ ap (λ ns. n ∷ ns) rest

-- the parts of a list of which none is missing
pub driven-front : (driven front back : List (List ℕ)) → first_missing driven (front ++ back) ≡ None → first_missing driven front ≡ None
driven-front driven [] back e = refl
driven-front driven (t ∷ front) back e = by (has_text driven t) refl (driven-front driven front back)
  where
    by : (b : Bool) → has_text driven t ≡ b → (first_missing driven (front ++ back) ≡ None → first_missing driven front ≡ None)
        → first_missing driven (t ∷ front) ≡ None
    by true h rest = missing-driven driven front t h ∙ rest (sym (missing-driven driven (front ++ back) t h) ∙ e)
    by false h rest = let no : Some t ≡ None = sym (missing-here driven (front ++ back) t h) ∙ e in cc

pub driven-back : (driven front back : List (List ℕ)) → first_missing driven (front ++ back) ≡ None → first_missing driven back ≡ None
driven-back driven [] back e = e
driven-back driven (t ∷ front) back e = by (has_text driven t) refl (driven-back driven front back)
  where
    by : (b : Bool) → has_text driven t ≡ b → (first_missing driven (front ++ back) ≡ None → first_missing driven back ≡ None)
        → first_missing driven back ≡ None
    by true h rest = rest (sym (missing-driven driven (front ++ back) t h) ∙ e)
    by false h rest = let no : Some t ≡ None = sym (missing-here driven (front ++ back) t h) ∙ e in cc

pub all_latches : (driven : List (List ℕ)) (latches : List NamedLatch) → first_missing driven (latch_reads latches) ≡ None
    → All (λ l. has_text driven l.reads ≡ true) latches
all_latches driven [] e = All-nil (λ l. has_text driven l.reads ≡ true)
all_latches driven (l ∷ latches) e =
    let all = all_driven driven (latch_reads (l ∷ latches)) e in
    All-cons (λ l. has_text driven l.reads ≡ true) l latches (All-head (λ t. has_text driven t ≡ true) l.reads (latch_reads latches) all)
    (all_latches driven latches (driven-back driven (l.reads ∷ []) (latch_reads latches) e))

pub all_nodes : (driven : List (List ℕ)) (nodes : List NamedNode) → first_missing driven (node_reads nodes) ≡ None
    → All (λ n. All (λ t. has_text driven t ≡ true) n.reads) nodes
all_nodes driven [] e = All-nil (λ n. All (λ t. has_text driven t ≡ true) n.reads)
all_nodes driven (n ∷ nodes) e =
    All-cons (λ n. All (λ t. has_text driven t ≡ true) n.reads) n nodes
    (all_driven driven n.reads (driven-front driven n.reads (node_reads nodes) e))
    (all_nodes driven nodes (driven-back driven n.reads (node_reads nodes) e))

-- all that a driven netlist reads
module _ (N : Named) (d : IsDriven N) where
  reads_front : first_missing (drivers N) (node_reads N.nodes ++ latch_reads N.latches) ≡ None
  reads_front = driven-front (drivers N) (node_reads N.nodes ++ latch_reads N.latches) N.outputs d.driven

  pub nodes_driven : All (λ n. All (λ t. has_text (drivers N) t ≡ true) n.reads) N.nodes
  nodes_driven = all_nodes (drivers N) N.nodes (driven-front (drivers N) (node_reads N.nodes) (latch_reads N.latches) reads_front)

  pub latches_driven : All (λ l. has_text (drivers N) l.reads ≡ true) N.latches
  latches_driven = all_latches (drivers N) N.latches (driven-back (drivers N) (node_reads N.nodes) (latch_reads N.latches) reads_front)

  pub outputs_driven : All (λ t. has_text (drivers N) t ≡ true) N.outputs
  outputs_driven = all_driven (drivers N) N.outputs (driven-back (drivers N) (node_reads N.nodes ++ latch_reads N.latches) N.outputs d.driven)

  -- the netlist states exactly its parts
  pub states_parts : named_of (netlist_of N) ≡ N
  states_parts =
      let names = drivers N in
      let outs = latch_outs N in
      let split : names ≡ N.inputs ++ (outs ++ node_outs N) = append_assoc N.inputs outs (node_outs N) in
      let ins : take (length N.inputs) names ≡ N.inputs =
      ap (take (length N.inputs)) split ∙ take-append_seam N.inputs (outs ++ node_outs N) in
      let outputs = texts_at_places names N.outputs outputs_driven in
      let latches = named_latches-same names N.latches N.inputs (node_outs N) (length N.inputs) split refl latches_driven in
      let nodes = named_nodes-same names N.nodes (N.inputs ++ outs) [] (length N.inputs + length (map (numbered_latch names) N.latches))
      (ap (λ l. (N.inputs ++ outs) ++ l) (sym (append-nil (node_outs N))))
      (omega (arith, length-append N.inputs outs, length-map N.latches (λ (l : NamedLatch). l.out), length-map N.latches (numbered_latch names))) nodes_driven in
      let first : List (List ℕ) → Named = λ i. record {
        model = N.model;
        inputs = i;
        outputs = names_of names (circuit_of N).outputs;
        latches = named_latches names (length N.inputs) (circuit_of N).latches;
        nodes = named_nodes names (length N.inputs + length (circuit_of N).latches) (circuit_of N).nodes;
      } in
      let second : List (List ℕ) → Named = λ o. record {
        model = N.model;
        inputs = N.inputs;
        outputs = o;
        latches = named_latches names (length N.inputs) (circuit_of N).latches;
        nodes = named_nodes names (length N.inputs + length (circuit_of N).latches) (circuit_of N).nodes;
      } in
      let third : List NamedLatch → Named = λ l. record {
        model = N.model;
        inputs = N.inputs;
        outputs = N.outputs;
        latches = l;
        nodes = named_nodes names (length N.inputs + length (circuit_of N).latches) (circuit_of N).nodes;
      } in
      let fourth : List NamedNode → Named = λ n. record { model = N.model; inputs = N.inputs; outputs = N.outputs; latches = N.latches; nodes = n } in
      ap first ins ∙ ap second outputs ∙ ap third latches ∙ ap fourth nodes

-- the places of a list of which none is missing are places of the list
pub places_within : (driven texts : List (List ℕ)) → All (λ t. has_text driven t ≡ true) texts → All (λ k. k < length driven) (map (place_of_text driven) texts)
places_within driven [] all = All-nil (λ k. k < length driven)
places_within driven (t ∷ texts) all =
    All-cons (λ k. k < length driven) (place_of_text driven t) (map (place_of_text driven) texts)
    (place_within driven t (All-head (λ t. has_text driven t ≡ true) t texts all))
    (places_within driven texts (All-tail (λ t. has_text driven t ≡ true) t texts all))

-- without a repeat different places have different texts
pub numbering-without_repeat : (seen texts : List (List ℕ)) → repeat_after seen texts ≡ None → IsNumbering seen → IsNumbering (seen ++ texts)
numbering-without_repeat seen [] e numbering = subst IsNumbering (sym (append-nil seen)) numbering
numbering-without_repeat seen (t ∷ texts) e numbering =
    by (has_text seen t) refl (λ absent next. numbering-without_repeat (seen ++ t ∷ []) texts absent next)
  where
    by : (b : Bool) → has_text seen t ≡ b
        → (repeat_after (seen ++ t ∷ []) texts ≡ None → IsNumbering (seen ++ t ∷ []) → IsNumbering ((seen ++ t ∷ []) ++ texts))
        → IsNumbering (seen ++ t ∷ texts)
    by true h rest = let no : Some t ≡ None = sym (repeat-here seen texts t h) ∙ e in cc
    by false h rest =
        let grown : IsNumbering (seen ++ t ∷ []) =
        subst (λ b. IsNumbering (if b then seen else seen ++ t ∷ [])) h (numbering-with_text seen t numbering) in
        subst IsNumbering (append_assoc seen (t ∷ []) texts) (rest (sym (repeat-new seen texts t h) ∙ e) grown)

module _ (N : Named) (d : IsDriven N) where
  numbers_nodes : All (λ n. All (λ k. k < length (drivers N)) n.reads) (map (numbered_node (drivers N)) N.nodes)
  numbers_nodes =
      All-map (λ n. All (λ k. k < length (drivers N)) n.reads) (numbered_node (drivers N)) N.nodes
      (All-weaker (λ n. All (λ t. has_text (drivers N) t ≡ true) n.reads) (λ n. All (λ k. k < length (drivers N)) (map (place_of_text (drivers N)) n.reads))
      (λ n all. places_within (drivers N) n.reads all) N.nodes (nodes_driven N d))

  pub length-drivers : length (drivers N) ≡ nets (circuit_of N)
  length-drivers =
      omega (
        arith,
        length-append (N.inputs ++ latch_outs N) (node_outs N),
        length-append N.inputs (latch_outs N),
        length-map N.latches (λ (l : NamedLatch). l.out),
        length-map N.nodes (λ (n : NamedNode). n.out),
        length-map N.latches (numbered_latch (drivers N)),
        length-map N.nodes (numbered_node (drivers N)),
      )

  numbers_latches : All (λ l. l.reads < nets (circuit_of N)) (map (numbered_latch (drivers N)) N.latches)
  numbers_latches =
      All-map (λ l. l.reads < nets (circuit_of N)) (numbered_latch (drivers N)) N.latches
      (All-weaker (λ (l : NamedLatch). has_text (drivers N) l.reads ≡ true) (λ l. place_of_text (drivers N) l.reads < nets (circuit_of N))
      (λ l there. subst (λ n. place_of_text (drivers N) l.reads < n) length-drivers (place_within (drivers N) l.reads there)) N.latches (latches_driven N d))

  numbers_outputs : All (λ net. net < nets (circuit_of N)) (map (place_of_text (drivers N)) N.outputs)
  numbers_outputs =
      subst (λ n. All (λ net. net < n) (map (place_of_text (drivers N)) N.outputs)) length-drivers (places_within (drivers N) N.outputs (outputs_driven N d))

  some_number : 0 < length (circuit_of N).outputs
  some_number = by N.outputs d.some_output
    where
      by : (outputs : List (List ℕ)) → no_outputs outputs ≡ None → 0 < length (map (place_of_text (drivers N)) outputs)
      by [] e = cc
      by (t ∷ outputs) e = omega arith

  widths : All (λ n. n.cover.width ≡ length n.reads) (map (numbered_node (drivers N)) N.nodes)
  widths =
      All-map (λ n. n.cover.width ≡ length n.reads) (numbered_node (drivers N)) N.nodes
      (All-weaker (λ (n : NamedNode). length n.reads ≡ n.cover.width) (λ n. n.cover.width ≡ length (map (place_of_text (drivers N)) n.reads))
      (λ n e. sym e ∙ sym (length-map n.reads (place_of_text (drivers N)))) N.nodes d.pins)

  pub closed_circuit : IsClosed (circuit_of N)
  closed_circuit = record {
    pins = λ j pin hj hp.
        subst (λ n. slice_index (node (circuit_of N) j).reads pin < n) length-drivers
        (All-get_or (λ k. k < length (drivers N)) (node (circuit_of N) j).reads pin 0 hp
        (All-get_or (λ n. All (λ k. k < length (drivers N)) n.reads) (circuit_of N).nodes j no_node hj numbers_nodes));
    latches = numbers_latches;
    outputs = numbers_outputs;
    some_output = some_number;
    widths = widths;
  }

  pub sound_netlist : IsClosedNetlist (netlist_of N)
  sound_netlist = record {
    closed = closed_circuit;
    sized = length-drivers;
    numbering = numbering-without_repeat [] (drivers N) d.once (record { distinct = λ a b ha hb e. absurd (omega arith) });
    few = subst (λ n. n < 2 ^ 32) length-drivers d.few;
  }
