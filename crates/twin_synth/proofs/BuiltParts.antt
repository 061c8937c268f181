-- The parts of a netlist by numbers, with one thing more.
use Rattle.std.proofs.Common.{◌≡◌, ℕ, suc, ◌+◌, ◌<◌, ◌^◌, inl, inr, Bool, true, false, if◌then◌else◌, List, [], ◌∷◌, ◌++◌, map, take, length, slice_index, slice_index_or, All, None, refl, sym, ◌∙◌, ap, ap₂, subst, arith, length-append}
use Rattle.std.proofs.lemmas.Bool.{cases_Bool}
use Rattle.std.proofs.lemmas.List.{take_all, take_more, map_more, length-take-le, get_or-take}
use Rattle.std.proofs.lemmas.List.Elements.{All-from_get_or, All-map}
use Rattle.tsc_cover.specs.Cover.{CoverTable}
use Rattle.fault_secure.specs.Circuit.{LatchOf, NodeOf, latch, node, no_latch, no_node}
use Rattle.tsc_net.specs.Named.{Named, NamedLatch, NamedNode}
use Rattle.tsc_net.specs.Names.{has_text, with_text, place_of_text, text_at, IsNumbering}
use Rattle.tsc_net.specs.NetlistOf.{NetlistOf, IsBuilt, names_of, named_latches, named_nodes, named_of}
use Rattle.tsc_net.specs.Parts.{PartsOf, no_parts, with_name, with_model, with_input, with_output, with_latch, with_node, MayBeNamed}
use Rattle.tsc_net.specs.PartsView.{IsName, text_of, texts_of}
use Rattle.tsc_net.specs.declared.ids.Name.{Name}
use Rattle.tsc_net.proofs.NameLemmas.{place_within, text_at_place}
use Rattle.net_building.specs.Names.{numbered}
use Rattle.twin_synth.specs.inner.Built.{named_to, parts_to}

-- latches by name, one more of them
latches_joined : (names : List (List ℕ)) (at : ℕ) (xs ys : List LatchOf) → named_latches names at (xs ++ ys) ≡ named_latches names at xs ++ named_latches names (at + length xs) ys
latches_joined names at [] ys = let e : at ≡ at + 0 = omega arith in ap (λ n. named_latches names n ys) e
latches_joined names at (x ∷ xs) ys =
    let e : at + 1 + length xs ≡ at + suc (length xs) = omega arith in
    let first : NamedLatch = record { reads = text_at names x.reads; out = text_at names at; init = x.init } in
    ap (λ (ls : List NamedLatch). first ∷ ls) (latches_joined names (at + 1) xs ys ∙ ap (λ n. named_latches names (at + 1) xs ++ named_latches names n ys) e)

latches_more : (names : List (List ℕ)) (at : ℕ) (latches : List LatchOf) (k : ℕ) → k < length latches
    → named_latches names at (take (k + 1) latches) ≡ named_latches names at (take k latches) ++ named_latches names (at + k) (slice_index_or latches k no_latch ∷ [])
latches_more names at latches k low =
    let sized : length (take k latches) ≡ k = length-take-le k latches (omega arith) in
    ap (named_latches names at) (take_more latches k no_latch low)
    ∙ latches_joined names at (take k latches) (slice_index_or latches k no_latch ∷ [])
    ∙ ap (λ n. named_latches names at (take k latches) ++ named_latches names (at + n) (slice_index_or latches k no_latch ∷ [])) sized

-- nodes by name, one more of them
nodes_joined : (names : List (List ℕ)) (at : ℕ) (xs ys : List NodeOf) → named_nodes names at (xs ++ ys) ≡ named_nodes names at xs ++ named_nodes names (at + length xs) ys
nodes_joined names at [] ys = let e : at ≡ at + 0 = omega arith in ap (λ n. named_nodes names n ys) e
nodes_joined names at (x ∷ xs) ys =
    let e : at + 1 + length xs ≡ at + suc (length xs) = omega arith in
    let first : NamedNode = record { reads = names_of names x.reads; out = text_at names at; cover = x.cover } in
    ap (λ (ns : List NamedNode). first ∷ ns) (nodes_joined names (at + 1) xs ys ∙ ap (λ n. named_nodes names (at + 1) xs ++ named_nodes names n ys) e)

nodes_more : (names : List (List ℕ)) (at : ℕ) (nodes : List NodeOf) (k : ℕ) → k < length nodes
    → named_nodes names at (take (k + 1) nodes) ≡ named_nodes names at (take k nodes) ++ named_nodes names (at + k) (slice_index_or nodes k no_node ∷ [])
nodes_more names at nodes k low =
    let sized : length (take k nodes) ≡ k = length-take-le k nodes (omega arith) in
    ap (named_nodes names at) (take_more nodes k no_node low)
    ∙ nodes_joined names at (take k nodes) (slice_index_or nodes k no_node ∷ [])
    ∙ ap (λ n. named_nodes names at (take k nodes) ++ named_nodes names (at + n) (slice_index_or nodes k no_node ∷ [])) sized

module _ (N : NetlistOf) where
  -- the name of a net is none of those before it
  new_name : IsNumbering N.names → (i : ℕ) → i < length N.names → has_text (take i N.names) (text_at N.names i) ≡ false
  new_name numbering i low = elim (cases_Bool (has_text (take i N.names) (text_at N.names i))) [
    | inl there ↦ (
        let place = place_of_text (take i N.names) (text_at N.names i) in
        let sized : length (take i N.names) ≡ i = length-take-le i N.names (omega arith) in
        let before : place_of_text (take i N.names) (text_at N.names i) < length (take i N.names) = place_within (take i N.names) (text_at N.names i) there in
        let same : text_at N.names place ≡ text_at N.names i = sym (get_or-take i N.names place [] (omega arith)) ∙ text_at_place (take i N.names) (text_at N.names i) there in
        let one : place_of_text (take i N.names) (text_at N.names i) ≡ i = numbering.distinct place i (omega arith) low same in
        absurd (omega arith))
    | inr absent ↦ absent
  ]

  pub name_added : IsNumbering N.names → (i : ℕ) → i < length N.names → with_name (named_to N i) (text_at N.names i) ≡ named_to N (i + 1)
  name_added numbering i low =
      ap (λ (b : Bool). let p = named_to N i in record p { names = if b then take i N.names else take i N.names ++ text_at N.names i ∷ [] }) (new_name numbering i low)
      ∙ ap (λ (names : List (List ℕ)). let p = named_to N i in record p { names = names }) (sym (take_more N.names i [] low))

  -- all names
  pub names_added : named_to N (length N.names) ≡ parts_to N 0 0 0 0
  names_added = ap (λ (names : List (List ℕ)). let p = parts_to N 0 0 0 0 in record p { names = names }) (take_all (length N.names) N.names (omega arith))

  -- one input more
  pub input_added : (i : ℕ) → i < length N.names → with_input (parts_to N i 0 0 0) (text_at N.names i) ≡ parts_to N (i + 1) 0 0 0
  input_added i low =
      ap (λ (inputs : List (List ℕ)). let p = parts_to N i 0 0 0 in let M = p.named in record p { named = record M { inputs = inputs } }) (sym (take_more N.names i [] low))

  -- one latch more
  pub latch_added : (i k : ℕ) → k < length N.circuit.latches
      → with_latch (parts_to N i k 0 0) (text_at N.names (latch N.circuit k).reads) (text_at N.names (N.circuit.inputs + k)) (latch N.circuit k).init ≡ parts_to N i (k + 1) 0 0
  latch_added i k low =
      ap (λ (latches : List NamedLatch). let p = parts_to N i k 0 0 in let M = p.named in record p { named = record M { latches = latches } })
      (sym (latches_more N.names N.circuit.inputs N.circuit.latches k low))

  -- one node more
  pub node_added : (i l k : ℕ) → k < length N.circuit.nodes
      → with_node (parts_to N i l k 0) (names_of N.names (node N.circuit k).reads) (text_at N.names (N.circuit.inputs + length N.circuit.latches + k)) (node N.circuit k).cover
      ≡ parts_to N i l (k + 1) 0
  node_added i l k low =
      ap (λ (nodes : List NamedNode). let p = parts_to N i l k 0 in let M = p.named in record p { named = record M { nodes = nodes } })
      (sym (nodes_more N.names (N.circuit.inputs + length N.circuit.latches) N.circuit.nodes k low))

  -- one output more
  pub output_added : (i l n k : ℕ) → k < length N.circuit.outputs → with_output (parts_to N i l n k) (text_at N.names (slice_index N.circuit.outputs k)) ≡ parts_to N i l n (k + 1)
  output_added i l n k low =
      ap (λ (outputs : List (List ℕ)). let p = parts_to N i l n k in let M = p.named in record p { named = record M { outputs = outputs } })
      (sym (map_more (text_at N.names) N.circuit.outputs k 0 low))

  -- all of it is the netlist by names
  abbrev named_with : List LatchOf → List NodeOf → List ℕ → Named
  named_with latches nodes outputs = record {
    model = N.model;
    inputs = take N.circuit.inputs N.names;
    outputs = names_of N.names outputs;
    latches = named_latches N.names N.circuit.inputs latches;
    nodes = named_nodes N.names (N.circuit.inputs + length N.circuit.latches) nodes;
  }

  pub parts_whole : (parts_to N N.circuit.inputs (length N.circuit.latches) (length N.circuit.nodes) (length N.circuit.outputs)).named ≡ named_of N
  parts_whole =
      ap₂ (λ (latches : List LatchOf) (nodes : List NodeOf). named_with latches nodes (take (length N.circuit.outputs) N.circuit.outputs))
      (take_all (length N.circuit.latches) N.circuit.latches (omega arith)) (take_all (length N.circuit.nodes) N.circuit.nodes (omega arith))
      ∙ ap (λ (outputs : List ℕ). named_with N.circuit.latches N.circuit.nodes outputs) (take_all (length N.circuit.outputs) N.circuit.outputs (omega arith))

-- the texts of names by number
pub texts_numbered : (names : List (List ℕ)) (nets : List ℕ) → texts_of names (map numbered nets) ≡ names_of names nets
texts_numbered names [] = refl
texts_numbered names (net ∷ nets) = ap (λ (texts : List (List ℕ)). text_at names net ∷ texts) (texts_numbered names nets)

-- nets of the netlist are names, where each has a name
pub nets_named : (names : List (List ℕ)) (nets : List ℕ) → All (λ net. net < length names) nets → All (IsName names) (map numbered nets)
nets_named names nets all = All-map (IsName names) numbered nets all

-- no fresh name is given, so that any text may be named
pub may_be_named : (N : NetlistOf) (p : PartsOf) (i : ℕ) (text : List ℕ) → p ≡ named_to N i → MayBeNamed p text
may_be_named N p i text is = subst (λ (q : PartsOf). MayBeNamed q text) (sym is) tt

-- a step: the latch at a place, added
pub latch_step : (N : NetlistOf) (p : PartsOf) (reads out : Name) (init : Bool) (i k : ℕ) → k < length N.circuit.latches → p ≡ parts_to N i k 0 0 → reads ≡ numbered (latch N.circuit k).reads
    → out ≡ numbered (N.circuit.inputs + k) → init ≡ (latch N.circuit k).init → with_latch p (text_of p.names reads) (text_of p.names out) init ≡ parts_to N i (k + 1) 0 0
latch_step N p reads out init i k low begun one two three =
    ap (λ (q : PartsOf). with_latch q (text_of q.names reads) (text_of q.names out) init) begun
    ∙ ap₂ (λ (a b : Name). with_latch (parts_to N i k 0 0) (text_of N.names a) (text_of N.names b) init) one two
    ∙ ap (with_latch (parts_to N i k 0 0) (text_at N.names (latch N.circuit k).reads) (text_at N.names (N.circuit.inputs + k))) three
    ∙ latch_added N i k low

-- the node at a place, added
pub node_step : (N : NetlistOf) (p : PartsOf) (reads : List Name) (out : Name) (cover : CoverTable) (i l k : ℕ) → k < length N.circuit.nodes → p ≡ parts_to N i l k 0
    → reads ≡ map numbered (node N.circuit k).reads → out ≡ numbered (N.circuit.inputs + length N.circuit.latches + k) → cover ≡ (node N.circuit k).cover
    → with_node p (texts_of p.names reads) (text_of p.names out) cover ≡ parts_to N i l (k + 1) 0
node_step N p reads out cover i l k low begun one two three =
    ap (λ (q : PartsOf). with_node q (texts_of q.names reads) (text_of q.names out) cover) begun
    ∙ ap₂ (λ (a : List Name) (b : Name). with_node (parts_to N i l k 0) (texts_of N.names a) (text_of N.names b) cover) one two
    ∙ ap₂ (λ (a : List (List ℕ)) (b : CoverTable). with_node (parts_to N i l k 0) a (text_at N.names (N.circuit.inputs + length N.circuit.latches + k)) b)
    (texts_numbered N.names (node N.circuit k).reads) three
    ∙ node_added N i l k low

-- the nets at the pins of a node have names
pub pins_named : (N : NetlistOf) (p : PartsOf) (reads : List Name) (i l k : ℕ) → IsBuilt N → k < length N.circuit.nodes → p ≡ parts_to N i l k 0
    → reads ≡ map numbered (node N.circuit k).reads → All (IsName p.names) reads
pins_named N p reads i l k built low begun are =
    let pins : List ℕ = (node N.circuit k).reads in
    let all : All (λ net. net < length N.names) pins = All-from_get_or (λ net. net < length N.names) pins 0 (λ pin inside. (let e = built.closed.pins k pin low inside in omega (arith, e, built.sized))) in
    subst (λ (q : PartsOf). All (IsName q.names) reads) (sym begun) (subst (All (IsName N.names)) (sym are) (nets_named N.names pins all))
