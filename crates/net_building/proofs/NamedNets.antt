-- Netlists by names whose drivers have different names: the net of each input, latch and node, and the node at a place.
use Rattle.std.proofs.Common.{◌≡◌, ℕ, ◌+◌, ◌<◌, true, List, [], ◌++◌, map, length, slice_index_or, refl, sym, ◌∙◌, ap, arith, length-append}
use Rattle.std.proofs.lemmas.List.{length-map, get_or-map, get_or_append_left, get_or-append-add}
use Rattle.fault_secure.specs.Circuit.{node, no_node, node_net, latch_net}
use Rattle.tsc_net.specs.Named.{Named, NamedLatch, NamedNode, latch_outs, node_outs}
use Rattle.tsc_net.specs.Names.{text_at, has_text, place_of_text, IsNumbering}
use Rattle.tsc_net.specs.NetlistOf.{drivers, circuit_of}
use Rattle.tsc_net.proofs.NameLemmas.{has_text_at, place_within, text_at_place}

-- a text of different ones stands at its own place
pub place_at : (names : List (List ℕ)) (k : ℕ) → IsNumbering names → k < length names → place_of_text names (text_at names k) ≡ k
place_at names k distinct h =
    let there : has_text names (text_at names k) ≡ true = has_text_at names (text_at names k) k h refl in
    distinct.distinct (place_of_text names (text_at names k)) k (place_within names (text_at names k) there) h (text_at_place names (text_at names k) there)

module _ (N : Named) where
  front_counted : length (N.inputs ++ latch_outs N) ≡ length N.inputs + length N.latches
  front_counted = omega (arith, length-append N.inputs (latch_outs N), length-map N.latches (λ (l : NamedLatch). l.out))

  -- there is one driver per input, latch and node
  pub drivers_counted : length (drivers N) ≡ length N.inputs + length N.latches + length N.nodes
  drivers_counted = omega (arith, front_counted, length-append (N.inputs ++ latch_outs N) (node_outs N), length-map N.nodes (λ (n : NamedNode). n.out))

  -- the drivers in order: inputs, what latches give, what nodes drive
  pub input_drives : (i : ℕ) → i < length N.inputs → text_at (drivers N) i ≡ text_at N.inputs i
  input_drives i h =
      get_or_append_left (N.inputs ++ latch_outs N) (node_outs N) [] i (omega (arith, front_counted))
      ∙ get_or_append_left N.inputs (latch_outs N) [] i h

  pub latch_drives : (i : ℕ) → i < length N.latches → text_at (drivers N) (length N.inputs + i) ≡ text_at (latch_outs N) i
  latch_drives i h =
      get_or_append_left (N.inputs ++ latch_outs N) (node_outs N) [] (length N.inputs + i) (omega (arith, front_counted))
      ∙ get_or-append-add N.inputs (latch_outs N) i []

  -- after those of the inputs and latches come the names that nodes drive
  pub node_drives : (k : ℕ) → k < length N.nodes → text_at (drivers N) (length N.inputs + length N.latches + k) ≡ text_at (node_outs N) k
  node_drives k h =
      ap (λ n. text_at (drivers N) n) (let e = front_counted in omega (arith, e))
      ∙ get_or-append-add (N.inputs ++ latch_outs N) (node_outs N) k []

  latches_counted : length (circuit_of N).latches ≡ length N.latches
  latches_counted = length-map N.latches _

  module _ (distinct : IsNumbering (drivers N)) where
    -- the place of an input's name among the drivers is its net
    pub place_of_input : (i : ℕ) → i < length N.inputs → place_of_text (drivers N) (text_at N.inputs i) ≡ i
    place_of_input i h = ap (place_of_text (drivers N)) (sym (input_drives i h)) ∙ place_at (drivers N) i distinct (omega (arith, drivers_counted))

    -- the place of the name that a latch gives, among the drivers, is the latch's net
    pub place_of_latch : (i : ℕ) → i < length N.latches → place_of_text (drivers N) (text_at (latch_outs N) i) ≡ latch_net (circuit_of N) i
    place_of_latch i h = ap (place_of_text (drivers N)) (sym (latch_drives i h)) ∙ place_at (drivers N) (length N.inputs + i) distinct (omega (arith, drivers_counted))

    -- the place of the name that a node drives, among the drivers, is the node's net
    pub place_of_node : (k : ℕ) → k < length N.nodes → place_of_text (drivers N) (text_at (node_outs N) k) ≡ node_net (circuit_of N) k
    place_of_node k h =
        ap (place_of_text (drivers N)) (sym (node_drives k h))
        ∙ place_at (drivers N) (length N.inputs + length N.latches + k) distinct (omega (arith, drivers_counted))
        ∙ omega (arith, latches_counted)

-- the node at a place, over the numbers of the names that it reads
pub node_of_named : (N : Named) (k : ℕ) (n d : NamedNode) → k < length N.nodes → n ≡ slice_index_or N.nodes k d
    → node (circuit_of N) k ≡ record { reads = map (place_of_text (drivers N)) n.reads; cover = n.cover }
node_of_named N k n d h is =
    get_or-map (λ (n : NamedNode). record { reads = map (place_of_text (drivers N)) n.reads; cover = n.cover }) N.nodes k d no_node h
    ∙ ap (λ (n : NamedNode). record { reads = map (place_of_text (drivers N)) n.reads; cover = n.cover }) (sym is)
