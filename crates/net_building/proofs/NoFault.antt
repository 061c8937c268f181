-- Nothing refuses a sound netlist by names.
use Rattle.std.proofs.Common.{◌≡◌, ℕ, zero, suc, ◌+◌, ◌-◌, ◌<◌, ◌≤◌, inl, inr, Bool, true, false, if◌then◌else◌, nat_lt, List, [], ◌∷◌, ◌++◌, map, length, All, Contains, slice_index, slice_index_or, Some, None, refl, sym, ◌∙◌, ap, subst, arith, append_assoc, length-append}
use Rattle.std.proofs.lemmas.Bool.Decides.{nat_tests}
use Rattle.std.proofs.lemmas.List.{length-map, get_or-map, get_or_append_left, get_or-append-add, get_or_default}
use Rattle.std.proofs.lemmas.List.Elements.{All-nil, All-head, All-tail, All-append, All-map, All-from_get_or}
use Rattle.fault_secure.specs.Circuit.{NodeOf, node, no_node}
use Rattle.tsc_net.specs.Named.{Named, NamedLatch, NamedNode, latch_outs, node_outs, no_named}
use Rattle.tsc_net.specs.Names.{has_text, text_at, place_of_text, IsNumbering}
use Rattle.tsc_net.specs.NetlistOf.{drivers, circuit_of}
use Rattle.tsc_net.specs.NetFault.{fault_of, repeat_after, joined, reads_of, ring_of, IsRefusedFor}
use Rattle.tsc_net.specs.declared.net_error.NetError.{NetError}
use Rattle.tsc_net.specs.declared.net_error.NetError.TheVariants.{Twice, Undriven, NoOutputs, Cycle, Memory}
use Rattle.tsc_net.specs.Order.{fan_in, fan_ins}
use Rattle.tsc_bits.specs.Lists.{list_at}
use Rattle.tsc_net.proofs.NameLemmas.{has_text_at, place_within, text_at_place}
use Rattle.tsc_net.proofs.BuildLemmas.{repeat-new, none_missing, some_output}
use Rattle.tsc_net.proofs.NetlistLemmas.{first-last}
use Rattle.net_building.specs.Sound.{pins_at, IsLower, IsSound, IsMemory}
use Rattle.net_building.proofs.NamedNets.{place_at, place_of_node, node_of_named, node_drives, drivers_counted}
use Rattle.net_building.proofs.WholeOrder.{whole_by_rank}

-- different texts have no repeat
no_repeat : (seen texts : List (List ℕ)) → IsNumbering (seen ++ texts) → repeat_after seen texts ≡ None
no_repeat seen [] distinct = refl
no_repeat seen (t ∷ texts) distinct = by (has_text seen t) refl (no_repeat (seen ++ t ∷ []) texts (subst IsNumbering (sym (append_assoc seen (t ∷ []) texts)) distinct))
  where
    by : (b : Bool) → has_text seen t ≡ b → repeat_after (seen ++ t ∷ []) texts ≡ None → repeat_after seen (t ∷ texts) ≡ None
    by true e rest =
        let low : place_of_text seen t < length seen = place_within seen t e in
        let here : text_at (seen ++ t ∷ texts) (place_of_text seen t) ≡ t = get_or_append_left seen (t ∷ texts) [] (place_of_text seen t) low ∙ text_at_place seen t e in
        let there : text_at (seen ++ t ∷ texts) (length seen + 0) ≡ t = get_or-append-add seen (t ∷ texts) 0 [] in
        let long : length (seen ++ t ∷ texts) ≡ length seen + suc (length texts) = length-append seen (t ∷ texts) in
        let same : place_of_text seen t ≡ length seen + 0 = distinct.distinct (place_of_text seen t) (length seen + 0) (omega (arith, low, long)) (omega (arith, long)) (here ∙ sym there) in
        absurd (omega (arith, low, same))
    by false e rest = repeat-new seen texts t e ∙ rest

all_joined : (driven : List (List ℕ)) (lists : List (List (List ℕ))) → All (λ list. All (λ t. has_text driven t ≡ true) list) lists → All (λ t. has_text driven t ≡ true) (joined lists)
all_joined driven [] all = All-nil (λ t. has_text driven t ≡ true)
all_joined driven (list ∷ lists) all =
    All-append (λ t. has_text driven t ≡ true) list (joined lists)
    (All-head (λ list. All (λ t. has_text driven t ≡ true) list) list lists all)
    (all_joined driven lists (All-tail (λ list. All (λ t. has_text driven t ≡ true) list) list lists all))

-- what stands in the fan-in stands at a pin
fan_in-from : (base : ℕ) (reads : List ℕ) (k : ℕ) → Contains (fan_in base reads) k
    → (pin : ℕ) × (pin < length reads) × (base ≤ slice_index reads pin) × (slice_index reads pin - base ≡ k)
fan_in-from base [] k has = absurd (omega (arith, has.1))
fan_in-from base (net ∷ reads) k has =
    by (nat_lt net base) refl (λ has. let at = fan_in-from base reads k has in (suc at.0, omega (arith, at.1), at.2, at.3)) has
  where
    by : (b : Bool) → nat_lt net base ≡ b
        → (Contains (fan_in base reads) k → (pin : ℕ) × (pin < suc (length reads)) × (base ≤ slice_index (net ∷ reads) pin) × (slice_index (net ∷ reads) pin - base ≡ k))
        → Contains (if b then fan_in base reads else (net - base) ∷ fan_in base reads) k
        → (pin : ℕ) × (pin < suc (length reads)) × (base ≤ slice_index (net ∷ reads) pin) × (slice_index (net ∷ reads) pin - base ≡ k)
    by true e later has = later has
    by false e later (zero, h, is) = let past : base ≤ net = grind (arith, nat_tests) in (zero, omega arith, past, is)
    by false e later (suc i, h, is) = later (i, omega (arith, h), is)

module _ (N : Named) (sound : IsSound N) where
  base : ℕ
  base = length N.inputs + length (circuit_of N).latches

  latches_counted : length (circuit_of N).latches ≡ length N.latches
  latches_counted = length-map N.latches _

  -- a source's net comes before those of nodes
  source_low : (text : List ℕ) → Contains (N.inputs ++ latch_outs N) text → place_of_text (drivers N) text < base
  unfolding base
  source_low text has =
      let long : length (N.inputs ++ latch_outs N) ≡ length N.inputs + length (latch_outs N) = length-append N.inputs (latch_outs N) in
      let many : length (latch_outs N) ≡ length N.latches = length-map N.latches (λ (l : NamedLatch). l.out) in
      let here : text_at (drivers N) has.0 ≡ text =
      get_or_append_left (N.inputs ++ latch_outs N) (node_outs N) [] has.0 has.1 ∙ get_or_default (N.inputs ++ latch_outs N) has.0 [] text has.1 ∙ has.2 in
      let all : length (drivers N) ≡ length (N.inputs ++ latch_outs N) + length (node_outs N) = length-append (N.inputs ++ latch_outs N) (node_outs N) in
      let same : place_of_text (drivers N) text ≡ has.0 =
      ap (place_of_text (drivers N)) (sym here) ∙ place_at (drivers N) has.0 sound.driven_once (omega (arith, has.1, all)) in
      omega (arith, has.1, long, many, same, latches_counted)

  source_driven : (text : List ℕ) → Contains (N.inputs ++ latch_outs N) text → has_text (drivers N) text ≡ true
  source_driven text has =
      let all : length (drivers N) ≡ length (N.inputs ++ latch_outs N) + length (node_outs N) = length-append (N.inputs ++ latch_outs N) (node_outs N) in
      has_text_at (drivers N) text has.0 (omega (arith, has.1, all))
      (get_or_append_left (N.inputs ++ latch_outs N) (node_outs N) [] has.0 has.1 ∙ get_or_default (N.inputs ++ latch_outs N) has.0 [] text has.1 ∙ has.2)

  node_driven : (j : ℕ) (text : List ℕ) → j < length N.nodes → text_at (node_outs N) j ≡ text → has_text (drivers N) text ≡ true
  node_driven j text h is =
      has_text_at (drivers N) text (length N.inputs + length N.latches + j) (omega (arith, h, drivers_counted N)) (node_drives N j h ∙ is)

  lower_driven : (k : ℕ) (text : List ℕ) → IsLower N sound.rank k text → has_text (drivers N) text ≡ true
  lower_driven k text (inl has) = source_driven text has
  lower_driven k text (inr at) = node_driven at.0 text at.1 at.3

  -- what nodes read is driven
  pins_driven : All (λ n. All (λ t. has_text (drivers N) t ≡ true) n.reads) N.nodes
  pins_driven =
      All-from_get_or (λ n. All (λ t. has_text (drivers N) t ≡ true) n.reads) N.nodes no_named
      (λ k h. subst (All (λ t. has_text (drivers N) t ≡ true)) (get_or-map (λ (n : NamedNode). n.reads) N.nodes k no_named [] h)
      (All-from_get_or (λ t. has_text (drivers N) t ≡ true) (pins_at N k) [] (λ pin hp. lower_driven k (text_at (pins_at N k) pin) (sound.pins k pin h hp))))

  reads_driven : All (λ t. has_text (drivers N) t ≡ true) (reads_of N)
  reads_driven =
      let driven : List ℕ → Type 0 = λ t. has_text (drivers N) t ≡ true in
      All-append driven (joined (map (λ (n : NamedNode). n.reads) N.nodes) ++ map (λ (l : NamedLatch). l.reads) N.latches) N.outputs
      (All-append driven (joined (map (λ (n : NamedNode). n.reads) N.nodes)) (map (λ (l : NamedLatch). l.reads) N.latches)
      (all_joined (drivers N) (map (λ (n : NamedNode). n.reads) N.nodes) (All-map (λ list. All (λ t. has_text (drivers N) t ≡ true) list) (λ (n : NamedNode). n.reads) N.nodes pins_driven))
      (All-map driven (λ (l : NamedLatch). l.reads) N.latches sound.latches))
      sound.outputs

  -- what a node reads among the nodes has a lower rank
  lower : (j k : ℕ) → j < length (fan_ins (circuit_of N)) → Contains (list_at (fan_ins (circuit_of N)) j) k → (k < length (fan_ins (circuit_of N))) × (sound.rank k < sound.rank j)
  unfolding base
  lower j k h has = by (sound.pins j at.0 within pin_within)
    where
      sized : length (fan_ins (circuit_of N)) ≡ length N.nodes
      sized = length-map (circuit_of N).nodes _ ∙ length-map N.nodes _

      within : j < length N.nodes
      within = omega (arith, h, sized)

      reads_are : (node (circuit_of N) j).reads ≡ map (place_of_text (drivers N)) (pins_at N j)
      reads_are =
          ap (λ (n : NodeOf). n.reads) (node_of_named N j (slice_index_or N.nodes j no_named) no_named within refl)
          ∙ ap (map (place_of_text (drivers N))) (sym (get_or-map (λ (n : NamedNode). n.reads) N.nodes j no_named [] within))

      fans : list_at (fan_ins (circuit_of N)) j ≡ fan_in (length N.inputs + length (circuit_of N).latches) (map (place_of_text (drivers N)) (pins_at N j))
      fans =
          get_or-map (λ (n : NodeOf). fan_in (length N.inputs + length (circuit_of N).latches) n.reads) (circuit_of N).nodes j no_node []
          (let e : length (circuit_of N).nodes ≡ length N.nodes = length-map N.nodes _ in omega (arith, within, e))
          ∙ ap (fan_in (length N.inputs + length (circuit_of N).latches)) reads_are

      at : (pin : ℕ) × (pin < length (map (place_of_text (drivers N)) (pins_at N j))) × (length N.inputs + length (circuit_of N).latches ≤ slice_index (map (place_of_text (drivers N)) (pins_at N j)) pin)
          × (slice_index (map (place_of_text (drivers N)) (pins_at N j)) pin - (length N.inputs + length (circuit_of N).latches) ≡ k)
      at = fan_in-from (length N.inputs + length (circuit_of N).latches) (map (place_of_text (drivers N)) (pins_at N j)) k (subst (λ l. Contains l k) fans has)

      pin_within : at.0 < length (pins_at N j)
      pin_within = let e : length (map (place_of_text (drivers N)) (pins_at N j)) ≡ length (pins_at N j) = length-map (pins_at N j) (place_of_text (drivers N)) in omega (arith, at.1, e)

      net_is : slice_index (map (place_of_text (drivers N)) (pins_at N j)) at.0 ≡ place_of_text (drivers N) (text_at (pins_at N j) at.0)
      net_is = get_or-map (place_of_text (drivers N)) (pins_at N j) at.0 [] 0 pin_within

      by : IsLower N sound.rank j (text_at (pins_at N j) at.0) → (k < length (fan_ins (circuit_of N))) × (sound.rank k < sound.rank j)
      by (inl source) =
          let low : place_of_text (drivers N) (text_at (pins_at N j) at.0) < base = source_low (text_at (pins_at N j) at.0) source in
          absurd (omega (arith, low, at.2, net_is))
      by (inr i) =
          let net : place_of_text (drivers N) (text_at (pins_at N j) at.0) ≡ length N.inputs + length (circuit_of N).latches + i.0 =
          ap (place_of_text (drivers N)) (sym i.3) ∙ place_of_node N sound.driven_once i.0 i.1 in
          let same : k ≡ i.0 = omega (arith, net, net_is, at.3) in
          (omega (arith, same, i.1, sized), subst (λ n. sound.rank n < sound.rank j) (sym same) i.2)

  -- so the netlist has no fault
  pub no_fault : fault_of N ≡ None
  no_fault =
      first-last _ _ _ N.outputs _ (no_repeat [] (drivers N) sound.driven_once) (no_repeat [] N.outputs sound.shown_once)
      (none_missing (drivers N) (reads_of N) reads_driven) (some_output N.outputs sound.some_output)
      ∙ ap (λ b. if b then None else Some (Cycle (ring_of N))) (whole_by_rank (fan_ins (circuit_of N)) sound.rank lower)

-- what refuses it is want of memory
pub only_memory : (N : Named) (e : NetError) → IsSound N → IsRefusedFor N e → IsMemory e
only_memory N (Twice net) sound refused = let no : None ≡ Some (Twice net) = sym (no_fault N sound) ∙ refused in cc
only_memory N (Undriven net) sound refused = let no : None ≡ Some (Undriven net) = sym (no_fault N sound) ∙ refused in cc
only_memory N NoOutputs sound refused = let no : None ≡ Some NoOutputs = sym (no_fault N sound) ∙ refused in cc
only_memory N (Cycle nets) sound refused = let no : None ≡ Some (Cycle nets) = sym (no_fault N sound) ∙ refused in cc
only_memory N (Memory error) sound refused = tt
