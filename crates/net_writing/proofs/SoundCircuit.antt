-- A netlist by names is sound where the circuit of it is: it reads and shows nets of its own, and its nodes have ranks.
use Rattle.std.proofs.Common.{◌≡◌, ℕ, ◌+◌, ◌-◌, ◌<◌, inl, inr, true, false, List, [], ◌++◌, map, length, slice_index, slice_index_or, All, Contains, refl, sym, ◌∙◌, ap, subst, arith, length-append}
use Rattle.std.proofs.lemmas.Bool.{cases_Bool, cases_lt}
use Rattle.std.proofs.lemmas.List.{length-map, get_or-map, get_or_append_left}
use Rattle.std.proofs.lemmas.List.Elements.{All-get_or, All-from_get_or, Contains-get_or}
use Rattle.fault_secure.specs.Circuit.{NodeOf, LatchOf, node, node_net, pin_net, nets}
use Rattle.fault_secure.specs.Segment.{SoundTo}
use Rattle.tsc_net.specs.Named.{Named, NamedLatch, NamedNode, latch_outs, node_outs, no_named}
use Rattle.tsc_net.specs.Names.{text_at, has_text, place_of_text, IsNumbering}
use Rattle.tsc_net.specs.NetlistOf.{drivers, circuit_of}
use Rattle.tsc_net.proofs.NameLemmas.{place_past, text_at_place}
use Rattle.net_building.specs.Sound.{pins_at, IsLower, IsSound}
use Rattle.net_building.proofs.NamedNets.{node_of_named, node_drives, drivers_counted}

-- a text whose place is within a list stands there
pub has_by_place : (names : List (List ℕ)) (t : List ℕ) → place_of_text names t < length names → has_text names t ≡ true
has_by_place names t low = elim (cases_Bool (has_text names t)) [
  | inl there ↦ there
  | inr absent ↦ absurd (let e = place_past names t absent in omega (arith, e, low))
]

-- what is read where no latch is
no_latch : NamedLatch
no_latch = record { reads = []; out = []; init = false }

module _ (N : Named) where
  -- the circuit has a latch for each by names
  latches_counted : length (circuit_of N).latches ≡ length N.latches
  latches_counted = length-map N.latches _

  -- and a node for each
  nodes_counted : length (circuit_of N).nodes ≡ length N.nodes
  nodes_counted = length-map N.nodes _

  -- a net for each driver
  pub nets_counted : nets (circuit_of N) ≡ length (drivers N)
  nets_counted = omega (arith, latches_counted, nodes_counted, drivers_counted N)

  -- the pins of a node are the numbers of the names that it reads
  pub pins_are : (k : ℕ) → k < length N.nodes → (node (circuit_of N) k).reads ≡ map (place_of_text (drivers N)) (pins_at N k)
  pins_are k there =
      ap (λ (n : NodeOf). n.reads) (node_of_named N k (slice_index_or N.nodes k no_named) no_named there refl)
      ∙ ap (map (place_of_text (drivers N))) (sym (get_or-map (λ (n : NamedNode). n.reads) N.nodes k no_named [] there))

  -- texts whose numbers are nets are driven
  driven : (texts : List (List ℕ)) → All (λ net. net < nets (circuit_of N)) (map (place_of_text (drivers N)) texts) → All (λ text. has_text (drivers N) text ≡ true) texts
  driven texts all = All-from_get_or (λ text. has_text (drivers N) text ≡ true) texts [] each
    where
      each : (i : ℕ) → i < length texts → has_text (drivers N) (text_at texts i) ≡ true
      each i there =
          let low : slice_index (map (place_of_text (drivers N)) texts) i < nets (circuit_of N)
          = All-get_or (λ net. net < nets (circuit_of N)) (map (place_of_text (drivers N)) texts) i 0 (omega (arith, there, length-map texts (place_of_text (drivers N)))) all in
          has_by_place (drivers N) (text_at texts i) (omega (arith, low, get_or-map (place_of_text (drivers N)) texts i [] 0 there, nets_counted))

  -- what latches read is driven
  latches_driven : All (λ l. l.reads < nets (circuit_of N)) (circuit_of N).latches → All (λ l. has_text (drivers N) l.reads ≡ true) N.latches
  latches_driven all = All-from_get_or (λ (l : NamedLatch). has_text (drivers N) l.reads ≡ true) N.latches no_latch each
    where
      seen : LatchOf
      seen = record { reads = 0; init = false }

      each : (i : ℕ) → i < length N.latches → has_text (drivers N) (slice_index_or N.latches i no_latch).reads ≡ true
      each i there =
          let low : (slice_index_or (circuit_of N).latches i seen).reads < nets (circuit_of N) = All-get_or (λ (l : LatchOf). l.reads < nets (circuit_of N)) (circuit_of N).latches i seen (omega (arith, there, latches_counted)) all in
          let is : (slice_index_or (circuit_of N).latches i seen).reads ≡ place_of_text (drivers N) (slice_index_or N.latches i no_latch).reads = ap (λ (l : LatchOf). l.reads) (get_or-map _ N.latches i no_latch seen there) in
          has_by_place (drivers N) (slice_index_or N.latches i no_latch).reads (omega (arith, low, is, nets_counted))

  module _ (sound : SoundTo (circuit_of N) (length (circuit_of N).nodes)) where
    -- the net at a pin of a node
    pin_is : (k pin : ℕ) → k < length N.nodes → pin < length (pins_at N k) → pin_net (circuit_of N) k pin ≡ place_of_text (drivers N) (text_at (pins_at N k) pin)
    pin_is k pin there has = ap (λ (reads : List ℕ). slice_index reads pin) (pins_are k there) ∙ get_or-map (place_of_text (drivers N)) (pins_at N k) pin [] 0 has

    -- and the node has that pin
    has_pin : (k pin : ℕ) → k < length N.nodes → pin < length (pins_at N k) → pin < length (node (circuit_of N) k).reads
    has_pin k pin there has = omega (arith, has, ap length (pins_are k there), length-map (pins_at N k) (place_of_text (drivers N)))

    -- what a node reads is a source, or of lower rank
    lower : (k pin : ℕ) → k < length N.nodes → pin < length (pins_at N k) → IsLower N (λ j. sound.rank (node_net (circuit_of N) j)) k (text_at (pins_at N k) pin)
    lower k pin there has =
        let is : pin_net (circuit_of N) k pin ≡ place_of_text (drivers N) (text_at (pins_at N k) pin) = pin_is k pin there has in
        let at : k < length (circuit_of N).nodes = omega (arith, there, nodes_counted) in
        let low : pin_net (circuit_of N) k pin < nets (circuit_of N) = sound.before k pin at (has_pin k pin there has) in
        let within : place_of_text (drivers N) (text_at (pins_at N k) pin) < length (drivers N) = omega (arith, low, is, nets_counted) in
        let stands : text_at (drivers N) (place_of_text (drivers N) (text_at (pins_at N k) pin)) ≡ text_at (pins_at N k) pin = text_at_place (drivers N) (text_at (pins_at N k) pin) (has_by_place (drivers N) (text_at (pins_at N k) pin) within) in
        let rank : sound.rank (place_of_text (drivers N) (text_at (pins_at N k) pin)) < sound.rank (node_net (circuit_of N) k)
        = subst (λ (n : ℕ). sound.rank n < sound.rank (node_net (circuit_of N) k)) is (sound.above k pin at (has_pin k pin there has)) in
        by (text_at (pins_at N k) pin) (place_of_text (drivers N) (text_at (pins_at N k) pin)) within stands rank
      where
        by : (text : List ℕ) (net : ℕ) → net < length (drivers N) → text_at (drivers N) net ≡ text → sound.rank net < sound.rank (node_net (circuit_of N) k) → IsLower N (λ j. sound.rank (node_net (circuit_of N) j)) k text
        by text net within stands rank = elim (cases_lt net (length N.inputs + length N.latches)) [
          | inl source ↦ (
              let front : length (N.inputs ++ latch_outs N) ≡ length N.inputs + length N.latches = omega (arith, length-append N.inputs (latch_outs N), length-map N.latches (λ (l : NamedLatch). l.out)) in
              let here : net < length (N.inputs ++ latch_outs N) = omega (arith, front, source) in
              let same : text_at (N.inputs ++ latch_outs N) net ≡ text = sym (get_or_append_left (N.inputs ++ latch_outs N) (node_outs N) [] net here) ∙ stands in
              inl (subst (Contains (N.inputs ++ latch_outs N)) same (Contains-get_or (N.inputs ++ latch_outs N) net [] here)))
          | inr behind ↦ (
              let is : net ≡ length N.inputs + length N.latches + (net - (length N.inputs + length N.latches)) = omega arith in
              let here : net - (length N.inputs + length N.latches) < length N.nodes = omega (arith, within, behind, drivers_counted N) in
              let at : net ≡ node_net (circuit_of N) (net - (length N.inputs + length N.latches)) = omega (arith, is, latches_counted) in
              inr (
                net - (length N.inputs + length N.latches),
                here,
                subst (λ (n : ℕ). sound.rank n < sound.rank (node_net (circuit_of N) k)) at rank,
                sym (node_drives N (net - (length N.inputs + length N.latches)) here) ∙ ap (text_at (drivers N)) (sym is) ∙ stands,
              ))
        ]

    -- a netlist by names whose circuit is sound to its end, and shows and latches nets of its own, is sound
    pub sound_by_circuit : IsNumbering (drivers N) → IsNumbering N.outputs → 0 < length N.outputs → All (λ net. net < nets (circuit_of N)) (circuit_of N).outputs
        → All (λ l. l.reads < nets (circuit_of N)) (circuit_of N).latches → IsSound N
    sound_by_circuit once shown some outputs latches = record {
      driven_once = once;
      shown_once = shown;
      some_output = some;
      outputs = driven N.outputs outputs;
      latches = latches_driven latches;
      rank = λ k. sound.rank (node_net (circuit_of N) k);
      pins = lower;
    }
