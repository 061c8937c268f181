-- A valuation of the joint, as one of a part: its bits, its values, its state bits.
use Rattle.std.proofs.Common.{◌≡◌, ℕ, zero, suc, ◌+◌, ◌<◌, Bool, false, List, [], ◌∷◌, map, length, slice_index_or, refl, sym, ap, ap₂, ◌∙◌, inl, inr, arith}
use Rattle.std.proofs.lemmas.Bool.{cases_lt}
use Rattle.std.proofs.lemmas.List.{get_or_past, get_or-map}
use Rattle.std.proofs.lemmas.List.FromFn.{length-map-range_with_len, get_or-map-range_with_len}
use Rattle.tsc_cover.specs.Cover.{truth}
use Rattle.fault_secure.specs.Circuit.{Circuit, LatchOf, NodeOf, no_latch, latch, node, latch_net, node_net, nets, bit}
use Rattle.fault_secure.specs.StuckAt.{StuckAt, on_stem, on_pin}
use Rattle.fault_secure.specs.Settle.{Settles, read_values, node_value}
use Rattle.fault_secure.specs.Run.{init_state, latch_reads, next_state}
use Rattle.fault_secure.specs.FailingCell.{IsCell}
use Rattle.joint_laws.specs.Parts.{StandsIn, as_part, part_inputs}

-- a fault of the joint acts on the nets of the part as one of the part does
pub record ActsAs (C : Circuit) (at : ℕ → ℕ) (f g : StuckAt) : Type 0 where
  pub stem : (net : ℕ) (b : Bool) → net < nets C → on_stem f (at net) b ≡ on_stem g net b
  pub pin : (net k : ℕ) (b : Bool) → IsCell C net → on_pin f (at net) k b ≡ on_pin g net k b

-- the part's state bits stand in a row among those of the joint
abbrev pub StateOver : Circuit → ℕ → List Bool → List Bool → Type 0
StateOver C first_latch s t = (l : ℕ) → l < length C.latches → bit t l ≡ bit s (first_latch + l)

-- what pins read that moved with their nets
reads_moved : (f g : StuckAt) (v u : List Bool) (at : ℕ → ℕ) (there driver pin : ℕ) (reads : List ℕ) → ((net : ℕ) → bit u net ≡ bit v (at net))
    → ((k : ℕ) (b : Bool) → on_pin f there k b ≡ on_pin g driver k b) → read_values g u driver pin reads ≡ read_values f v there pin (map at reads)
reads_moved f g v u at there driver pin [] same alike = refl
reads_moved f g v u at there driver pin (net ∷ reads) same alike =
    ap₂ ◌∷◌ (ap (on_pin g driver pin) (same net) ∙ sym (alike pin (bit v (at net)))) (reads_moved f g v u at there driver (suc pin) reads same alike)

-- the state bit that a latch holds next
reads_bit : (N : Circuit) (f : StuckAt) (v : List Bool) (k : ℕ) (ls : List LatchOf) (l : ℕ) → l < length ls
    → bit (latch_reads N f v k ls) l ≡ on_pin f (latch_net N (k + l)) 0 (bit v (slice_index_or ls l no_latch).reads)
reads_bit N f v k [] l h = absurd (omega arith)
reads_bit N f v k (first ∷ ls) zero h = ap (λ n. on_pin f (latch_net N n) 0 (bit v first.reads)) (omega arith)
reads_bit N f v k (first ∷ ls) (suc l) h =
    reads_bit N f v (suc k) ls l (omega arith) ∙ ap (λ n. on_pin f (latch_net N n) 0 (bit v (slice_index_or ls l no_latch).reads)) (omega arith)

next_bit : (N : Circuit) (f : StuckAt) (v : List Bool) (l : ℕ) → l < length N.latches
    → bit (next_state N f v) l ≡ on_pin f (latch_net N l) 0 (bit v (latch N l).reads)
next_bit N f v l h = reads_bit N f v 0 N.latches l h ∙ ap (λ n. on_pin f (latch_net N n) 0 (bit v (latch N l).reads)) (omega arith)

init_bit : (N : Circuit) (l : ℕ) → l < length N.latches → bit (init_state N) l ≡ (latch N l).init
init_bit N l h = get_or-map (λ (z : LatchOf). z.init) N.latches l no_latch false h

module _ (J C : Circuit) (at : ℕ → ℕ) (first_latch first_node : ℕ) (m : StandsIn J C at first_latch first_node) where
  pub part_sized : (v : List Bool) → length (as_part C at v) ≡ nets C
  part_sized v = length-map-range_with_len (λ n. bit v (at n)) 0 (nets C)

  pub part_bit : (v : List Bool) → length v ≡ nets J → (net : ℕ) → bit (as_part C at v) net ≡ bit v (at net)
  part_bit v sized net = elim (cases_lt net (nets C)) [
    | inl l ↦ get_or-map-range_with_len (λ n. bit v (at n)) 0 (nets C) net net false l (omega arith)
    | inr h ↦
        let past = part_sized v in
        get_or_past (as_part C at v) net false (omega arith) ∙ sym (get_or_past v (at net) false (omega (arith, m.beyond net h)))
  ]

  input_bit : (x : List Bool) (i : ℕ) → i < C.inputs → bit (part_inputs C at x) i ≡ bit x (at i)
  input_bit x i h = get_or-map-range_with_len (λ n. bit x (at n)) 0 C.inputs i i false h (omega arith)

  node_cell : (j : ℕ) → j < length C.nodes → IsCell C (node_net C j)
  node_cell j h = record { no_input = omega arith; inside = omega arith }

  latch_cell : (l : ℕ) → l < length C.latches → IsCell C (latch_net C l)
  latch_cell l h = record { no_input = omega arith; inside = omega arith }

  module _ (f g : StuckAt) (alike : ActsAs C at f g) (v : List Bool) (sized : length v ≡ nets J) where
    -- a node of the part has the value that it has in the joint
    part_value : (j : ℕ) → j < length C.nodes → node_value C g (as_part C at v) j ≡ node_value J f v (first_node + j)
    part_value j h =
        ap (truth (node C j).cover) (reads_moved f g v (as_part C at v) at (node_net J (first_node + j)) (node_net C j) 0 (node C j).reads (part_bit v sized)
        (λ k b. ap (λ n. on_pin f n k b) (sym (m.node_nets j h)) ∙ alike.pin (node_net C j) k b (node_cell j h)))
        ∙ ap (λ (n : NodeOf). truth n.cover (read_values f v (node_net J (first_node + j)) 0 n.reads)) (sym (m.nodes j h))

    -- and so do the state bits that its latches hold next
    pub next_over : StateOver C first_latch (next_state J f v) (next_state C g (as_part C at v))
    next_over l h =
        let fits = m.latches_fit in
        next_bit C g (as_part C at v) l h
        ∙ ap (on_pin g (latch_net C l) 0) (part_bit v sized (latch C l).reads)
        ∙ sym (alike.pin (latch_net C l) 0 (bit v (at (latch C l).reads)) (latch_cell l h))
        ∙ ap (λ n. on_pin f n 0 (bit v (at (latch C l).reads))) (m.latch_nets l h)
        ∙ ap (λ (z : LatchOf). on_pin f (latch_net J (first_latch + l)) 0 (bit v z.reads)) (sym (m.latches l h))
        ∙ sym (next_bit J f v (first_latch + l) (omega arith))

    -- what settles in the joint settles in the part
    pub part_settles : (x s t : List Bool) → StateOver C first_latch s t → Settles J f (bit x) (bit s) v
        → Settles C g (bit (part_inputs C at x)) (bit t) (as_part C at v)
    part_settles x s t over h = record {
      sized = part_sized v;
      inputs = λ i k. part_bit v sized i ∙ h.inputs (at i) (m.inputs i k) ∙ alike.stem i (bit x (at i)) (omega arith) ∙ ap (on_stem g i) (sym (input_bit x i k));
      latches = λ l k.
          let fits = m.latches_fit in
          part_bit v sized (latch_net C l) ∙ ap (bit v) (m.latch_nets l k) ∙ h.latches (first_latch + l) (omega arith)
          ∙ ap (λ n. on_stem f n (bit s (first_latch + l))) (sym (m.latch_nets l k)) ∙ alike.stem (latch_net C l) (bit s (first_latch + l)) (omega arith)
          ∙ ap (on_stem g (latch_net C l)) (sym (over l k));
      nodes = λ j k.
          let fits = m.nodes_fit in
          part_bit v sized (node_net C j) ∙ ap (bit v) (m.node_nets j k) ∙ h.nodes (first_node + j) (omega arith)
          ∙ ap (λ n. on_stem f n (node_value J f v (first_node + j))) (sym (m.node_nets j k))
          ∙ alike.stem (node_net C j) (node_value J f v (first_node + j)) (omega arith)
          ∙ ap (on_stem g (node_net C j)) (sym (part_value j k));
    }

  pub init_over : StateOver C first_latch (init_state J) (init_state C)
  init_over l h =
      let fits = m.latches_fit in
      init_bit C l h ∙ ap (λ (z : LatchOf). z.init) (sym (m.latches l h)) ∙ sym (init_bit J (first_latch + l) (omega arith))
