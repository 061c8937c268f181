-- A netlist is mapped to itself: what is found of it, step by step.
use Rattle.std.proofs.Common.{◌≡◌, ℕ, ◌+◌, ◌-◌, ◌<◌, true, List, [], length, map, slice_index, refl, sym, ap, subst, ◌∙◌, inl, inr, arith}
use Rattle.std.specs.List.{range_with_len}
use Rattle.std.proofs.lemmas.List.{map-id, get_or-map, get_or_past}
use Rattle.std.proofs.lemmas.List.FromFn.{get_or-range_with_len, length-range_with_len}
use Rattle.std.proofs.lemmas.List.Elements.{All-from_get_or}
use Rattle.std.proofs.lemmas.Bool.{cases_lt, or_right}
use Rattle.tsc_bits.proofs.Lists.{map_agrees}
use Rattle.fault_secure.specs.Circuit.{Circuit, node, node_net, pin_net, nets, gate}
use Rattle.tsc_net.specs.Names.{text_at, place_of_text}
use Rattle.tsc_net.specs.NetlistOf.{NetlistOf, IsBuilt}
use Rattle.tsc_net.specs.Order.{has_place, fan_ins}
use Rattle.tsc_net.proofs.AcyclicLemmas.{whole_is_order}
use Rattle.blif_write.proofs.WholeOrder.{whole-acyclic}
use Rattle.mapping_reading.specs.ReadMapping.{first_net, is_own, block_pins, IsSameGate}
use Rattle.mapping_reading.specs.Pins.{at_of, AreWell}
use Rattle.mapping_reading.specs.Blocks.{AreBlocks, IsShared}
use Rattle.mapping_reading.specs.Leads.{AreOwners}
use Rattle.mapping_reading.specs.FoundBlocks.{AreFound}
use Rattle.mapping_reading.specs.NamedMapping.{moved_by_name, HasSameNames}
use Rattle.mapping_reading.proofs.FoundReadings.{found_blocks_read}
use Rattle.mapping_reading.proofs.NamesMoved.{names_move, place_of_net}
use Rattle.mapping_reading.proofs.Rows.{pin_there}
use Rattle.mapping_audit.specs.MappedAnswer.{ArePinned, IsReadSo}
use Rattle.mapped_laws.specs.MappedLaws.{NetlistsAreMappedToThemselves}

module _ (N : NetlistOf) (built : IsBuilt N) where
  abbrev C : Circuit
  C = N.circuit

  abbrev moved : List ℕ
  moved = moved_by_name N N

  abbrev at : ℕ → ℕ
  at = at_of C moved

  -- each net stays where it is
  place_stays : (net : ℕ) → net < nets C → place_of_text N.names (text_at N.names net) ≡ net
  place_stays net h = place_of_net N.names (text_at N.names net) net built.numbering (omega (arith, built.sized)) refl

  stays : (net : ℕ) → net < nets C → at net ≡ net
  stays net h = get_or-map (place_of_text N.names) N.names net [] (nets C) (omega (arith, built.sized)) ∙ place_stays net h

  own_names : HasSameNames N N
  own_names = record {
    inputs = refl;
    latches = refl;
    outputs = refl;
    nodes = λ j h. let e = place_stays (node_net C j) (omega arith) in record { past = omega arith; inside = omega arith };
  }

  -- each gate is its own block
  abbrev places : List ℕ
  places = range_with_len 0 (length C.nodes)

  own_place : (g : ℕ) → g < length C.nodes → slice_index places g ≡ g
  own_place g h = let e : slice_index places g ≡ 0 + g = get_or-range_with_len 0 (length C.nodes) g 0 h in omega arith

  own_owners : AreOwners C C at places
  own_owners = record {
    sized = length-range_with_len 0 (length C.nodes);
    few = λ g h. let e = own_place g h in omega arith;
    owns = λ g h low. ap (λ j. at (node_net C j)) (own_place g h) ∙ stays (node_net C g) (omega arith);
    free = λ g h past. absurd (let e = own_place g h in omega arith);
  }

  own_blocks : AreBlocks C places (length C.nodes) places
  own_blocks = record {
    sized = length-range_with_len 0 (length C.nodes);
    few = λ g h. let e = own_place g h in omega arith;
    owned = λ g h low. refl;
    least = λ d h k l past reads. absurd (let e = own_place d k in omega arith);
    led = λ d h past low. absurd (omega arith);
  }

  found : AreFound C C moved places places
  found = record {
    ordered = whole_is_order (fan_ins C) (whole-acyclic C built.closed built.acyclic);
    owned = own_owners;
    led = own_blocks;
  }

  unshared : (d : ℕ) → IsShared C places (length C.nodes) places d → ⊥
  unshared d shared =
      let past = shared.0 in
      let some = shared.1.1 in
      elim (cases_lt d (length C.nodes)) [
        | inl low ↦ let e = own_place d low in omega arith
        | inr high ↦ let e = get_or_past places d 0 (omega (arith, length-range_with_len 0 (length C.nodes))) in omega arith
      ]

  -- each pin is at a pin of its cover
  well : AreWell C C at (slice_index places)
  well g pin h some l =
      let IsThere : ℕ → ℕ → Type 0 = λ j net. has_place (block_pins C at j) net ≡ true in
      let there : IsThere g (pin_net C g pin) = subst (IsThere g) (stays (pin_net C g pin) (built.closed.pins g pin h l)) (pin_there C at g pin l) in
      or_right (is_own C (slice_index places) (slice_index places g) (pin_net C g pin)) _ (subst (λ j. IsThere j (pin_net C g pin)) (sym (own_place g h)) there)

  -- and each gate is the very node
  reads_stay : (j : ℕ) → j < length C.nodes → map at (node C j).reads ≡ (node C j).reads
  reads_stay j h =
      let IsNet : ℕ → Type 0 = λ net. net < nets C in
      map_agrees IsNet at (λ net. net) stays (node C j).reads (All-from_get_or IsNet (node C j).reads 0 (λ pin l. built.closed.pins j pin h l))
      ∙ map-id (node C j).reads

  very_node : (j : ℕ) → j < length C.nodes → IsSameGate C C at j
  very_node j h =
      let stay = stays (node_net C j) (omega arith) in
      let back : at (node_net C j) - first_net C ≡ j = omega arith in
      ap (node C) back ∙ ap (gate (node C j).cover) (sym (reads_stay j h))

  own_pins : ArePinned C C moved places
  own_pins = record { blocked = record { owners = places; found = found; some_node = λ h. h; unshared = unshared }; well = well }

  own_reading : IsReadSo C C moved
  own_reading = record {
    blocks = places;
    pinned = own_pins;
    narrow = λ j h wide. wide.differs (very_node j h);
    reads = found_blocks_read C C moved places places (names_move N N built built own_names) found (λ h. h) well (λ j h. inl (very_node j h));
  }

-- each built netlist is mapped to itself
pub netlists_are_mapped_to_themselves : NetlistsAreMappedToThemselves
netlists_are_mapped_to_themselves N built = (own_names N built, own_reading N built)
