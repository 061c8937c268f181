-- What a netlist by numbers says by names is sound, where it is built and its outputs are different nets.
use Rattle.std.proofs.Common.{◌≡◌, ℕ, zero, suc, ◌+◌, ◌-◌, ◌<◌, ◌≤◌, inl, inr, true, List, [], ◌∷◌, ◌++◌, map, take, length, slice_index, slice_index_or, All, Contains, refl, sym, ◌∙◌, ap, subst, arith, length-append}
use Rattle.std.proofs.lemmas.Bool.{cases_lt}
use Rattle.std.proofs.lemmas.List.{length-map, length-take-le, get_or-map, get_or_append_left}
use Rattle.std.proofs.lemmas.List.Elements.{All-nil, All-cons, All-head, All-tail, All-get_or, Contains-get_or}
use Rattle.tsc_bits.specs.Lists.{AreApart}
use Rattle.fault_secure.specs.Circuit.{LatchOf, NodeOf, node, node_net, pin_net, nets, no_node}
use Rattle.tsc_net.specs.Named.{NamedLatch, NamedNode, latch_outs, node_outs}
use Rattle.tsc_net.specs.Names.{has_text, text_at, IsNumbering}
use Rattle.tsc_net.specs.NetlistOf.{NetlistOf, IsBuilt, names_of, named_latches, named_nodes, named_of, drivers}
use Rattle.net_building.specs.Sound.{pins_at, IsLower, IsSound}
use Rattle.net_building.proofs.NamedNets.{node_drives}
use Rattle.blif_write.proofs.NetBack.{netlist-back, outputs-below, text-there, texts-there}

latches_counted : (names : List (List ℕ)) (at : ℕ) (latches : List LatchOf) → length (named_latches names at latches) ≡ length latches
latches_counted names at [] = refl
latches_counted names at (l ∷ latches) = ap suc (latches_counted names (at + 1) latches)

nodes_counted : (names : List (List ℕ)) (at : ℕ) (nodes : List NodeOf) → length (named_nodes names at nodes) ≡ length nodes
nodes_counted names at [] = refl
nodes_counted names at (n ∷ nodes) = ap suc (nodes_counted names (at + 1) nodes)

-- the names at the pins of the node at a place
pins_are : (names : List (List ℕ)) (at : ℕ) (nodes : List NodeOf) (k : ℕ) → k < length nodes
    → slice_index_or (map (λ (n : NamedNode). n.reads) (named_nodes names at nodes)) k [] ≡ names_of names (slice_index_or nodes k no_node).reads
pins_are names at [] k low = absurd (omega arith)
pins_are names at (n ∷ nodes) zero low = refl
pins_are names at (n ∷ nodes) (suc k) low = pins_are names (at + 1) nodes k (omega arith)

-- what latches read has a name
latches_driven : (names : List (List ℕ)) (at : ℕ) (latches : List LatchOf) → All (λ l. l.reads < length names) latches
    → All (λ (l : NamedLatch). has_text names l.reads ≡ true) (named_latches names at latches)
latches_driven names at [] all = All-nil (λ (l : NamedLatch). has_text names l.reads ≡ true)
latches_driven names at (l ∷ latches) all =
    All-cons (λ (l : NamedLatch). has_text names l.reads ≡ true) _ (named_latches names (at + 1) latches)
    (text-there names l.reads (All-head (λ (l : LatchOf). l.reads < length names) l latches all))
    (latches_driven names (at + 1) latches (All-tail (λ (l : LatchOf). l.reads < length names) l latches all))

-- different nets have different names, in a list of different ones
shown_once : (names : List (List ℕ)) (shown : List ℕ) → IsNumbering names → All (λ net. net < length names) shown → AreApart shown → IsNumbering (names_of names shown)
shown_once names shown numbering all apart = record { distinct = both }
  where
    at : (a : ℕ) → a < length (names_of names shown) → text_at (names_of names shown) a ≡ text_at names (slice_index shown a)
    at a low = get_or-map (text_at names) shown a 0 [] (omega (arith, low, length-map shown (text_at names)))

    below : (a : ℕ) → a < length (names_of names shown) → slice_index shown a < length names
    below a low = All-get_or (λ net. net < length names) shown a 0 (omega (arith, low, length-map shown (text_at names))) all

    both : (a b : ℕ) → a < length (names_of names shown) → b < length (names_of names shown) → text_at (names_of names shown) a ≡ text_at (names_of names shown) b → a ≡ b
    both a b ha hb same =
        let one : slice_index shown a ≡ slice_index shown b = numbering.distinct (slice_index shown a) (slice_index shown b) (below a ha) (below b hb) (sym (at a ha) ∙ same ∙ at b hb) in
        let long : length (names_of names shown) ≡ length shown = length-map shown (text_at names) in
        elim (cases_lt a b) [
          | inl before ↦ absurd (apart a b before (omega arith) one)
          | inr after ↦ elim (cases_lt b a) [
            | inl before ↦ absurd (apart b a before (omega arith) (sym one))
            | inr neither ↦ omega arith
          ]
        ]

module _ (net : NetlistOf) (built : IsBuilt net) where
  drivers_are : drivers (named_of net) ≡ net.names
  drivers_are = ap (λ (n : NetlistOf). n.names) (netlist-back net built)

  inputs_counted : length (named_of net).inputs ≡ net.circuit.inputs
  inputs_counted = length-take-le net.circuit.inputs net.names (let s = built.sized in omega (arith, s))

  -- the inputs and latches come first among the names
  front_counted : length ((named_of net).inputs ++ latch_outs (named_of net)) ≡ net.circuit.inputs + length net.circuit.latches
  front_counted =
      omega (
        arith,
        length-append (named_of net).inputs (latch_outs (named_of net)),
        length-map (named_of net).latches (λ (l : NamedLatch). l.out),
        latches_counted net.names net.circuit.inputs net.circuit.latches,
        inputs_counted,
      )

  source : (n : ℕ) → n < net.circuit.inputs + length net.circuit.latches → Contains ((named_of net).inputs ++ latch_outs (named_of net)) (text_at net.names n)
  source n low =
      let here : n < length ((named_of net).inputs ++ latch_outs (named_of net)) = omega (arith, low, front_counted) in
      let same : text_at ((named_of net).inputs ++ latch_outs (named_of net)) n ≡ text_at net.names n
      = sym (get_or_append_left ((named_of net).inputs ++ latch_outs (named_of net)) (node_outs (named_of net)) [] n here) ∙ ap (λ (texts : List (List ℕ)). text_at texts n) drivers_are in
      subst (Contains ((named_of net).inputs ++ latch_outs (named_of net))) same (Contains-get_or ((named_of net).inputs ++ latch_outs (named_of net)) n [] here)

  -- the name that the node at a place drives
  drives : (j : ℕ) → j < length net.circuit.nodes → text_at (node_outs (named_of net)) j ≡ text_at net.names (node_net net.circuit j)
  drives j low =
      let place : length (named_of net).inputs + length (named_of net).latches + j ≡ node_net net.circuit j
      = omega (arith, inputs_counted, latches_counted net.names net.circuit.inputs net.circuit.latches) in
      sym (node_drives (named_of net) j (omega (arith, low, nodes_counted net.names (net.circuit.inputs + length net.circuit.latches) net.circuit.nodes)))
      ∙ ap (λ (texts : List (List ℕ)). text_at texts (length (named_of net).inputs + length (named_of net).latches + j)) drivers_are
      ∙ ap (text_at net.names) place

  -- what a node reads is a source, or of lower rank
  lower : (k pin : ℕ) → k < length (named_of net).nodes → pin < length (pins_at (named_of net) k)
      → IsLower (named_of net) (λ j. built.acyclic.rank (node_net net.circuit j)) k (text_at (pins_at (named_of net) k) pin)
  lower k pin there has =
      let low : k < length net.circuit.nodes = omega (arith, there, nodes_counted net.names (net.circuit.inputs + length net.circuit.latches) net.circuit.nodes) in
      let are : pins_at (named_of net) k ≡ names_of net.names (node net.circuit k).reads
      = pins_are net.names (net.circuit.inputs + length net.circuit.latches) net.circuit.nodes k low in
      let inside : pin < length (node net.circuit k).reads = omega (arith, has, ap length are, length-map (node net.circuit k).reads (text_at net.names)) in
      let text : text_at (pins_at (named_of net) k) pin ≡ text_at net.names (pin_net net.circuit k pin)
      = ap (λ (texts : List (List ℕ)). text_at texts pin) are ∙ get_or-map (text_at net.names) (node net.circuit k).reads pin 0 [] inside in
      subst (IsLower (named_of net) (λ j. built.acyclic.rank (node_net net.circuit j)) k) (sym text)
      (by (pin_net net.circuit k pin) (built.closed.pins k pin low inside) (built.acyclic.ranks.above k pin low inside))
    where
      by : (n : ℕ) → n < nets net.circuit → built.acyclic.rank n < built.acyclic.rank (node_net net.circuit k)
          → IsLower (named_of net) (λ j. built.acyclic.rank (node_net net.circuit j)) k (text_at net.names n)
      by n within rank = elim (cases_lt n (net.circuit.inputs + length net.circuit.latches)) [
        | inl front ↦ inl (source n front)
        | inr after ↦ (
            let j : ℕ = n - (net.circuit.inputs + length net.circuit.latches) in
            let is : node_net net.circuit (n - (net.circuit.inputs + length net.circuit.latches)) ≡ n = omega arith in
            let low : n - (net.circuit.inputs + length net.circuit.latches) < length net.circuit.nodes = omega arith in
            inr (
              j,
              omega (arith, low, nodes_counted net.names (net.circuit.inputs + length net.circuit.latches) net.circuit.nodes),
              subst (λ (m : ℕ). built.acyclic.rank m < built.acyclic.rank (node_net net.circuit k)) (sym is) rank,
              drives j low ∙ ap (text_at net.names) is,
            ))
      ]

  -- the netlist by names is sound
  pub numbers_sound : AreApart net.circuit.outputs → IsSound (named_of net)
  numbers_sound apart = record {
    driven_once = subst IsNumbering (sym drivers_are) built.numbering;
    shown_once = shown_once net.names net.circuit.outputs built.numbering (outputs-below net built) apart;
    some_output = (let some = built.closed.some_output in omega (arith, some, length-map net.circuit.outputs (text_at net.names)));
    outputs = subst (λ (texts : List (List ℕ)). All (λ text. has_text texts text ≡ true) (named_of net).outputs) (sym drivers_are) (texts-there net.names net.circuit.outputs (outputs-below net built));
    latches = subst (λ (texts : List (List ℕ)). All (λ (l : NamedLatch). has_text texts l.reads ≡ true) (named_of net).latches) (sym drivers_are)
        (latches_driven net.names net.circuit.inputs net.circuit.latches (subst (λ (most : ℕ). All (λ (l : LatchOf). l.reads < most) net.circuit.latches) (sym built.sized) built.closed.latches));
    rank = λ j. built.acyclic.rank (node_net net.circuit j);
    pins = lower;
  }
