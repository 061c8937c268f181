-- What reads as a mapping is one.
use Rattle.std.proofs.Common.{◌≡◌, ℕ, ◌-◌, ◌<◌, ◌^◌, ◌==◌, ◌||◌, Bool, true, false, List, length, map, replicate, nat_lt, refl, sym, ap, subst, ◌∙◌, inl, inr, arith}
use Rattle.std.proofs.lemmas.List.{map-id, length-map, length-replicate, get_or_past}
use Rattle.std.proofs.lemmas.Bool.{cases_lt, cond-true, cond-false, lt-ltb, le-ltb, eqb-true, or_right}
use Rattle.tsc_bits.specs.Bits.{binary, bits_of}
use Rattle.tsc_bits.proofs.Bits.{bits_of-binary, binary-lt}
use Rattle.tsc_cover.specs.Cover.{truth}
use Rattle.fault_secure.specs.Circuit.{Circuit, node, node_net, pin_net, nets, bit, gate}
use Rattle.fault_secure.specs.Closed.{IsClosed}
use Rattle.mapping_laws.specs.Mapping.{BlockSettles, IsMapped, moved_latch}
use Rattle.mapping_laws.proofs.Secure.{mapped_is_block_secure, mapped_is_cell_secure, mapped_is_fault_secure}
use Rattle.tsc_net.specs.Order.{has_place, fan_ins, IsOrder}
use Rattle.tsc_net.proofs.BuildLemmas.{map-map}
use Rattle.tsc_net.proofs.AcyclicLemmas.{acyclic_from_order}
use Rattle.tsc_net.proofs.OrderLists.{has_place-All}
use Rattle.mapping_reading.specs.ReadMapping.{first_net, is_own, members, block_pins, gate_bit, evaluated, with_bits, pin_row, IsSameGate, GivesCover, IsReadMapping, some_block}
use Rattle.mapping_reading.specs.ReadMappingLaws.{OwnMappingReads, ReadMappingIsMapping, ReadMappingIsSecure}
use Rattle.mapping_reading.proofs.Rows.{length_with_bits, bit_with_bits, map_same, pin_there}
use Rattle.mapping_reading.proofs.Orders.{gates_counted}
use Rattle.mapping_reading.proofs.Evaluations.{own_gate, Owner, owner_of, value_in_row, own_evaluation, agree_evaluated}

-- ---- the row in which the pins have the bits of a valuation

module _ (N G : Circuit) (at : ℕ → ℕ) (j : ℕ) (v : List Bool) where
  abbrev pub value_of : ℕ
  value_of = binary (map (bit v) (block_pins N at j))

  pub value_below : value_of < 2 ^ length (block_pins N at j)
  value_below = subst (λ n. value_of < 2 ^ n) (length-map (block_pins N at j) (bit v)) (binary-lt (map (bit v) (block_pins N at j)))

  row_bits : bits_of (length (block_pins N at j)) value_of ≡ map (bit v) (block_pins N at j)
  row_bits = subst (λ n. bits_of n value_of ≡ map (bit v) (block_pins N at j)) (length-map (block_pins N at j) (bit v))
      (bits_of-binary (map (bit v) (block_pins N at j)))

  pub row_sized : (value : ℕ) → length (pin_row N G at j value) ≡ nets G
  row_sized value =
      length_with_bits (block_pins N at j) (bits_of (length (block_pins N at j)) value) (replicate (nets G) false) ∙ length-replicate (nets G) false

  pub row_same : length v ≡ nets G → (net : ℕ) → has_place (block_pins N at j) net ≡ true → bit (pin_row N G at j value_of) net ≡ bit v net
  row_same sized net there = elim (cases_lt net (nets G)) [
    | inl low ↦
        ap (λ bits. bit (with_bits (block_pins N at j) bits (replicate (nets G) false)) net) row_bits
        ∙ bit_with_bits (bit v) (block_pins N at j) (replicate (nets G) false) net (omega (arith, length-replicate (nets G) false)) (inl there)
    | inr high ↦ get_or_past (pin_row N G at j value_of) net false (omega (arith, row_sized value_of)) ∙ sym (get_or_past v net false (omega arith))
  ]

module _ (N G : Circuit) (at block : ℕ → ℕ) (order : List ℕ) (whole : IsOrder (fan_ins G) order) (r : IsReadMapping N G at block order) where
  pub same_latches : length G.latches ≡ length N.latches
  same_latches = ap length r.latches ∙ length-map N.latches (moved_latch at)

  -- the gate of a node's net
  pub shown_gate : (j : ℕ) → j < length N.nodes → Owner G block j (at (node_net N j))
  shown_gate j h = owner_of G block j (at (node_net N j)) (r.driven j h)

  inside : (net : ℕ) → net < nets N → at net < nets G
  inside net h = elim (cases_lt net (first_net N)) [
    | inl low ↦ let stays = r.sources net low in omega (arith, r.inputs, same_latches)
    | inr past ↦
        let from = shown_gate (net - first_net N) (omega arith) in
        let e : node_net N (net - first_net N) ≡ net = omega arith in
        let there : at net ≡ node_net G from.gate = ap at (sym e) ∙ from.drives in
        let low = from.inside in
        omega arith
  ]

  -- a gate of a node's block stays in it
  pub block_stays : (g j : ℕ) → block g ≡ j → j < length N.nodes → some_block N block g ≡ j
  block_stays g j e h = cond-true (nat_lt (block g) (length N.nodes)) (block g) 0 (lt-ltb (block g) (length N.nodes) (omega arith)) ∙ e

  some_block_of : (g : ℕ) → g < length G.nodes → some_block N block g < length N.nodes
  some_block_of g h = elim (cases_lt (block g) (length N.nodes)) [
    | inl low ↦ let e = block_stays g (block g) refl low in omega arith
    | inr past ↦
        let e : some_block N block g ≡ 0 = cond-false (nat_lt (block g) (length N.nodes)) (block g) 0 (le-ltb (block g) (length N.nodes) past) in
        let some = r.some_node (omega arith) in
        omega arith
  ]

  -- what the gates of a block read
  pub well_read : (j : ℕ) → j < length N.nodes → (g pin : ℕ) → g < length G.nodes → block g ≡ j → pin < length (node G g).reads
      → (is_own G block j (pin_net G g pin) || has_place (block_pins N at j) (pin_net G g pin)) ≡ true
  well_read j h g pin l e k =
      subst (λ i. (is_own G block i (pin_net G g pin) || has_place (block_pins N at i) (pin_net G g pin)) ≡ true) e (r.pins g pin l (omega arith) k)

  module _ (j : ℕ) (v : List Bool) (low : j < length N.nodes) (settled : BlockSettles G (some_block N block) j v) where
    settled_gate : (g : ℕ) → g < length G.nodes → block g ≡ j → bit v (node_net G g) ≡ gate_bit G v g
    settled_gate g h e = settled.gates g h (block_stays g j e low) ∙ value_in_row G v g

    abbrev CoverValue : Bool
    CoverValue = truth (node N j).cover (map (λ net. bit v (at net)) (node N j).reads)

    -- the very gate
    computes_same : IsSameGate N G at j → bit v (at (node_net N j)) ≡ CoverValue
    computes_same same =
        let from = shown_gate j low in
        let back : at (node_net N j) - first_net G ≡ from.gate = ap (λ n. n - first_net G) from.drives ∙ omega arith in
        let is : node G from.gate ≡ gate (node N j).cover (map at (node N j).reads) = sym (ap (node G) back) ∙ same in
        ap (bit v) from.drives ∙ settled_gate from.gate from.inside from.of
        ∙ ap (λ n. truth n.cover (map (bit v) n.reads)) is
        ∙ ap (truth (node N j).cover) (map-map (bit v) at (node N j).reads)

    settled_alone : evaluated G (members block order j) v ≡ v
    settled_alone = own_evaluation G (λ g. block g == j) order v
        (λ g there mine. settled_gate g (let h = has_place-All (λ k. k < length (fan_ins G)) order g there whole.within in omega (arith, gates_counted G order whole))
        (eqb-true (block g) j mine))

    -- a block that gives the cover on the value that the pins have
    computes_given : GivesCover N G at block order j → bit v (at (node_net N j)) ≡ CoverValue
    computes_given gives =
        let value = value_of N G at j v in
        let row = pin_row N G at j value in
        let same = row_same N G at j v settled.sized in
        ap (λ u. bit u (at (node_net N j))) (sym settled_alone)
        ∙ sym (agree_evaluated G block order j whole (block_pins N at j) (well_read j low) row v (row_sized N G at j v value) settled.sized same
        (at (node_net N j)) (r.driven j low))
        ∙ gives value (value_below N G at j v)
        ∙ ap (truth (node N j).cover)
        (map_same (λ net. bit row (at net)) (λ net. bit v (at net)) (node N j).reads (λ pin h. same (at (pin_net N j pin)) (pin_there N at j pin h)))

  pub is_mapped : IsClosed G → IsMapped N G at (some_block N block)
  is_mapped closed = record {
    inputs = r.inputs;
    latches = r.latches;
    outputs = r.outputs;
    sources = r.sources;
    inside = inside;
    beyond = r.beyond;
    closed = λ h. closed;
    blocks = some_block_of;
    computes = λ j v low settled. elim (r.covers j low) [
      | inl same ↦ computes_same j v low settled same
      | inr gives ↦ computes_given j v low settled gives
    ];
  }

pub read_mapping_is_mapping : ReadMappingIsMapping
read_mapping_is_mapping N G at block order closed whole r = is_mapped N G at block order whole r closed

pub read_mapping_is_secure : ReadMappingIsSecure
read_mapping_is_secure M N G at block order P closed whole r secure =
    let mapped = is_mapped N G at block order whole r closed in
    let acyclic = acyclic_from_order G order whole in
    record {
      blocks = mapped_is_block_secure M N G at (some_block N block) P mapped acyclic secure;
      cells = mapped_is_cell_secure M N G at (some_block N block) P mapped acyclic secure;
      faults = mapped_is_fault_secure M N G at (some_block N block) P mapped acyclic secure;
    }

-- ---- a netlist reads as itself

pub own_mapping_reads : OwnMappingReads
own_mapping_reads N order = record {
  inputs = refl;
  latches = sym (map-id N.latches);
  outputs = sym (map-id N.outputs);
  sources = λ net h. refl;
  beyond = λ net h. h;
  some_node = λ h. h;
  driven = λ j h. own_gate N (λ gate. gate) j j h refl;
  pins = λ g pin h k l. or_right (is_own N (λ gate. gate) g (pin_net N g pin)) _ (pin_there N (λ net. net) g pin l);
  covers = λ j h. inl (
      let back : node_net N j - first_net N ≡ j = omega arith in
      ap (node N) back ∙ ap (gate (node N j).cover) (sym (map-id (node N j).reads))
      );
}
