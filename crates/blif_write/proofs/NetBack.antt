-- A checked netlist is the netlist of what it says by names, which has no fault.
use Rattle.std.proofs.Common.{◌≡◌, ℕ, suc, ◌+◌, ◌<◌, ◌≤◌, Bool, true, false, List, [], ◌∷◌, ◌++◌, length, map, take, get_or, refl, sym, ap, ap₂, ◌∙◌, subst, arith, append-nil, append_assoc, add-one, All, None, Some, if◌then◌else◌}
use Rattle.std.specs.Str.{bytes_eq}
use Rattle.std.proofs.Math.Seq.{take-suc}
use Rattle.std.proofs.lemmas.Bool.{false_from_ne_true}
use Rattle.std.proofs.lemmas.List.{get_or-map, length-map, length-take-le, take_all}
use Rattle.std.proofs.lemmas.List.Elements.{All-head, All-tail, All-from_get_or, All-map, All-weaker}
use Rattle.fault_secure.specs.Circuit.{Circuit, LatchOf, NodeOf, node, no_node}
use Rattle.tsc_net.specs.Named.{Named}
use Rattle.tsc_net.specs.Names.{has_text, place_of_text, text_at, IsNumbering}
use Rattle.tsc_net.specs.NetFault.{repeat_after, first_repeat, first_missing, joined, reads_of, cycle, fault_of, ring_of}
use Rattle.tsc_net.specs.NetlistOf.{NetlistOf, IsBuilt, names_of, named_latches, named_nodes, named_of, drivers, circuit_of, netlist_of, numbered_latch, numbered_node}
use Rattle.tsc_net.specs.Order.{fan_ins, has_whole_order}
use Rattle.tsc_net.specs.declared.net_error.NetError.TheVariants.{Cycle}
use Rattle.tsc_net.proofs.BuildLemmas.{missing-append, missing-driven, repeat-new, none_missing, some_output}
use Rattle.tsc_net.proofs.MarkLemmas.{has_text-other}
use Rattle.tsc_net.proofs.NameLemmas.{bytes_eq_same, has_text_at, place_within, text_at_place}
use Rattle.tsc_net.proofs.NetlistLemmas.{first-last}
use Rattle.tsc_bits.specs.Lists.{AreApart}
use Rattle.blif_write.proofs.WholeOrder.{whole-acyclic}

-- texts that are different have no repeat
pub no-repeat : (seen texts : List (List ℕ)) → ((b : ℕ) → b < length texts → has_text seen (text_at texts b) ≡ false)
    → ((a b : ℕ) → a < b → b < length texts → text_at texts a ≡ text_at texts b → ⊥) → repeat_after seen texts ≡ None
no-repeat seen [] new different = refl
no-repeat seen (t ∷ texts) new different =
    repeat-new seen texts t (new 0 (omega arith))
    ∙ no-repeat (seen ++ t ∷ []) texts
    (λ b h. has_text-other seen t (text_at texts b) (other b h) ∙ new (suc b) (omega arith))
    (λ a b below h. different (suc a) (suc b) (omega arith) (omega arith))
  where
    other : (b : ℕ) → b < length texts → bytes_eq (text_at texts b) t ≡ false
    other b h = false_from_ne_true (bytes_eq (text_at texts b) t) (λ e. different 0 (suc b) (omega arith) (omega arith) (sym (bytes_eq_same (text_at texts b) t e)))

-- the texts of different names, by their numbers
module _ (names : List (List ℕ)) where
  abbrev pub Below : ℕ → Type 0
  Below net = net < length names

  pub text-there : (net : ℕ) → net < length names → has_text names (text_at names net) ≡ true
  text-there net h = has_text_at names (text_at names net) net h refl

  pub texts-there : (list : List ℕ) → All Below list → All (λ t. has_text names t ≡ true) (names_of names list)
  texts-there list h = All-map (λ t. has_text names t ≡ true) (text_at names) list (All-weaker Below (λ net. has_text names (text_at names net) ≡ true) text-there list h)

  -- what the latches and the nodes drive are the names from a place on
  latch-names : (at : ℕ) (latches : List LatchOf) → at + length latches ≤ length names
      → take at names ++ map (λ l. l.out) (named_latches names at latches) ≡ take (at + length latches) names
  latch-names at [] few = append-nil (take at names) ∙ (let same : at ≡ at + 0 = omega arith in ap (λ n. take n names) same)
  latch-names at (l ∷ latches) few =
      let rest : List (List ℕ) = map (λ l. l.out) (named_latches names (at + 1) latches) in
      let many : at + 1 + length latches ≡ at + length (l ∷ latches) = omega arith in
      sym (append_assoc (take at names) (text_at names at ∷ []) rest)
      ∙ ap (λ front. front ++ rest) (sym (take-suc names at [] (omega arith)) ∙ ap (λ n. take n names) (sym (add-one at)))
      ∙ latch-names (at + 1) latches (omega arith)
      ∙ ap (λ n. take n names) many

  node-names : (at : ℕ) (nodes : List NodeOf) → at + length nodes ≤ length names
      → take at names ++ map (λ n. n.out) (named_nodes names at nodes) ≡ take (at + length nodes) names
  node-names at [] few = append-nil (take at names) ∙ (let same : at ≡ at + 0 = omega arith in ap (λ n. take n names) same)
  node-names at (n ∷ nodes) few =
      let rest : List (List ℕ) = map (λ n. n.out) (named_nodes names (at + 1) nodes) in
      let many : at + 1 + length nodes ≡ at + length (n ∷ nodes) = omega arith in
      sym (append_assoc (take at names) (text_at names at ∷ []) rest)
      ∙ ap (λ front. front ++ rest) (sym (take-suc names at [] (omega arith)) ∙ ap (λ n. take n names) (sym (add-one at)))
      ∙ node-names (at + 1) nodes (omega arith)
      ∙ ap (λ n. take n names) many

  -- what they read is there
  latches-there : (at : ℕ) (latches : List LatchOf) → All (λ l. l.reads < length names) latches
      → first_missing names (map (λ l. l.reads) (named_latches names at latches)) ≡ None
  latches-there at [] h = refl
  latches-there at (l ∷ latches) h =
      let Known : LatchOf → Type 0 = λ l. l.reads < length names in
      missing-driven names (map (λ l. l.reads) (named_latches names (at + 1) latches)) (text_at names l.reads) (text-there l.reads (All-head Known l latches h))
      ∙ latches-there (at + 1) latches (All-tail Known l latches h)

  nodes-there : (at : ℕ) (nodes : List NodeOf) → All (λ n. All Below n.reads) nodes → first_missing names (joined (map (λ n. n.reads) (named_nodes names at nodes))) ≡ None
  nodes-there at [] h = refl
  nodes-there at (n ∷ nodes) h =
      let Known : NodeOf → Type 0 = λ n. All Below n.reads in
      missing-append names (names_of names n.reads) (joined (map (λ n. n.reads) (named_nodes names (at + 1) nodes)))
      (none_missing names (names_of names n.reads) (texts-there n.reads (All-head Known n nodes h)))
      ∙ nodes-there (at + 1) nodes (All-tail Known n nodes h)

  module _ (numbering : IsNumbering names) where
    -- the place of a name is its number
    pub place-of_name : (net : ℕ) → net < length names → place_of_text names (text_at names net) ≡ net
    place-of_name net h =
        let there : has_text names (text_at names net) ≡ true = text-there net h in
        numbering.distinct (place_of_text names (text_at names net)) net (place_within names (text_at names net) there) h (text_at_place names (text_at names net) there)

    places-back : (list : List ℕ) → All Below list → map (place_of_text names) (names_of names list) ≡ list
    places-back [] h = refl
    places-back (net ∷ list) h = ap₂ (λ x xs. x ∷ xs) (place-of_name net (All-head Below net list h)) (places-back list (All-tail Below net list h))

    latches-back : (at : ℕ) (latches : List LatchOf) → All (λ l. l.reads < length names) latches → map (numbered_latch names) (named_latches names at latches) ≡ latches
    latches-back at [] h = refl
    latches-back at (l ∷ latches) h =
        let Known : LatchOf → Type 0 = λ l. l.reads < length names in
        let latch_with : ℕ → LatchOf = λ net. record { reads = net; init = l.init } in
        ap₂ (λ x xs. x ∷ xs) (ap latch_with (place-of_name l.reads (All-head Known l latches h))) (latches-back (at + 1) latches (All-tail Known l latches h))

    nodes-back : (at : ℕ) (nodes : List NodeOf) → All (λ n. All Below n.reads) nodes → map (numbered_node names) (named_nodes names at nodes) ≡ nodes
    nodes-back at [] h = refl
    nodes-back at (n ∷ nodes) h =
        let Known : NodeOf → Type 0 = λ n. All Below n.reads in
        let node_with : List ℕ → NodeOf = λ reads. record { reads = reads; cover = n.cover } in
        ap₂ (λ x xs. x ∷ xs) (ap node_with (places-back n.reads (All-head Known n nodes h))) (nodes-back (at + 1) nodes (All-tail Known n nodes h))

-- what a checked netlist reads, by the number of its names
pins-below : (net : NetlistOf) → IsBuilt net → All (λ n. All (λ i. i < length net.names) n.reads) net.circuit.nodes
pins-below net c =
    let C = net.circuit in
    let Net : ℕ → Type 0 = λ i. i < length net.names in
    All-from_get_or (λ n. All Net n.reads) C.nodes no_node (λ j h.
    All-from_get_or Net (node C j).reads 0 (λ pin inside. subst (λ most. get_or (node C j).reads pin 0 < most) (sym c.sized) (c.closed.pins j pin h inside)))

latches-below : (net : NetlistOf) → IsBuilt net → All (λ l. l.reads < length net.names) net.circuit.latches
latches-below net c = subst (λ most. All (λ l. l.reads < most) net.circuit.latches) (sym c.sized) c.closed.latches

pub outputs-below : (net : NetlistOf) → IsBuilt net → All (λ i. i < length net.names) net.circuit.outputs
outputs-below net c = subst (λ most. All (λ i. i < most) net.circuit.outputs) (sym c.sized) c.closed.outputs

-- what is driven are the names
drivers-back : (net : NetlistOf) → IsBuilt net → drivers (named_of net) ≡ net.names
drivers-back net c =
    let C = net.circuit in
    let sized = c.sized in
    let nodes : List (List ℕ) = map (λ n. n.out) (named_nodes net.names (C.inputs + length C.latches) C.nodes) in
    ap (λ front. front ++ nodes) (latch-names net.names C.inputs C.latches (omega arith))
    ∙ node-names net.names (C.inputs + length C.latches) C.nodes (omega arith)
    ∙ take_all (C.inputs + length C.latches + length C.nodes) net.names (omega arith)

abbrev with-names : List (List ℕ) → Named → Circuit
with-names names N = record {
  inputs = length N.inputs;
  latches = map (numbered_latch names) N.latches;
  nodes = map (numbered_node names) N.nodes;
  outputs = map (place_of_text names) N.outputs;
}

abbrev circuit-with : ℕ → List LatchOf → List NodeOf → List ℕ → Circuit
circuit-with inputs latches nodes outputs = record { inputs = inputs; latches = latches; nodes = nodes; outputs = outputs }

circuit-back : (net : NetlistOf) → IsBuilt net → circuit_of (named_of net) ≡ net.circuit
circuit-back net c =
    let C = net.circuit in
    let names = net.names in
    let sized = c.sized in
    let N : Named = named_of net in
    let outputs = places-back names c.numbering C.outputs (outputs-below net c) in
    ap (λ texts. with-names texts N) (drivers-back net c)
    ∙ ap₂ (λ i l. circuit-with i l (with-names names N).nodes (with-names names N).outputs) (length-take-le C.inputs names (omega arith)) (latches-back names c.numbering C.inputs C.latches (latches-below net c))
    ∙ ap₂ (circuit-with C.inputs C.latches) (nodes-back names c.numbering (C.inputs + length C.latches) C.nodes (pins-below net c)) outputs

-- the netlist of what a checked netlist says by names is the netlist
pub netlist-back : (net : NetlistOf) → IsBuilt net → netlist_of (named_of net) ≡ net
netlist-back net c = ap₂ (λ (circuit : Circuit) (names : List (List ℕ)). record { circuit = circuit; names = names; model = net.model }) (circuit-back net c) (drivers-back net c)

names-different : (names : List (List ℕ)) → IsNumbering names → first_repeat names ≡ None
names-different names numbering = no-repeat [] names (λ b h. refl) (λ a b below h same. let one : a ≡ b = numbering.distinct a b (omega arith) h same in omega arith)

shown-different : (net : NetlistOf) → IsBuilt net → AreApart net.circuit.outputs → first_repeat (names_of net.names net.circuit.outputs) ≡ None
shown-different net c different =
    let outputs = net.circuit.outputs in
    let long = length-map outputs (text_at net.names) in
    no-repeat [] (names_of net.names outputs) (λ b h. refl) (λ a b below h same.
    let within : b < length outputs = omega arith in
    let earlier : a < length outputs = omega arith in
    let one = get_or-map (text_at net.names) outputs a 0 [] earlier in
    let other = get_or-map (text_at net.names) outputs b 0 [] within in
    different a b below within
    (c.numbering.distinct (get_or outputs a 0) (get_or outputs b 0) (outputs-below net c a 0 earlier) (outputs-below net c b 0 within) (sym one ∙ same ∙ other)))

reads-there : (net : NetlistOf) → IsBuilt net → first_missing net.names (reads_of (named_of net)) ≡ None
reads-there net c =
    let C = net.circuit in
    let names = net.names in
    let nodes : List (List ℕ) = joined (map (λ n. n.reads) (named_nodes names (C.inputs + length C.latches) C.nodes)) in
    let latches : List (List ℕ) = map (λ l. l.reads) (named_latches names C.inputs C.latches) in
    missing-append names (nodes ++ latches) (names_of names C.outputs)
    (missing-append names nodes latches (nodes-there names (C.inputs + length C.latches) C.nodes (pins-below net c)) ∙ latches-there names C.inputs C.latches (latches-below net c))
    ∙ none_missing names (names_of names C.outputs) (texts-there names C.outputs (outputs-below net c))

-- a checked netlist whose outputs are different has no fault by names
pub net-sound : (net : NetlistOf) → IsBuilt net → AreApart net.circuit.outputs → fault_of (named_of net) ≡ None
net-sound net c different =
    let N : Named = named_of net in
    let some = c.closed.some_output in
    let long = length-map net.circuit.outputs (text_at net.names) in
    first-last (first_repeat (drivers N)) (first_repeat N.outputs) (first_missing (drivers N) (reads_of N)) N.outputs (cycle N)
    (ap first_repeat (drivers-back net c) ∙ names-different net.names c.numbering)
    (shown-different net c different)
    (ap (λ driven. first_missing driven (reads_of N)) (drivers-back net c) ∙ reads-there net c)
    (some_output N.outputs (omega arith))
    ∙ ap (λ (b : Bool). if b then None else Some (Cycle (ring_of N)))
    (ap (λ circuit. has_whole_order (fan_ins circuit)) (circuit-back net c) ∙ whole-acyclic net.circuit c.closed c.acyclic)
