-- Where nets go by their names, if inputs, latches and outputs have the same names and each node's is that of a gate.
use Rattle.std.proofs.Common.{◌≡◌, ℕ, zero, suc, ◌+◌, ◌-◌, ◌<◌, ◌≤◌, Bool, List, [], ◌∷◌, length, map, take, slice_index_or, refl, sym, ap, subst, ◌∙◌, inl, inr, arith}
use Rattle.std.proofs.lemmas.List.{length-map, get_or-map, get_or-take, length-take-le, get_or_default, ext_get_or}
use Rattle.std.proofs.lemmas.Bool.{cases_lt, cases_Bool}
use Rattle.fault_secure.specs.Circuit.{Circuit, LatchOf, no_latch, latch, node_net, nets}
use Rattle.fault_secure.specs.Settle.{Acyclic}
use Rattle.mapping_laws.specs.Mapping.{IsMapped, moved_latch}
use Rattle.register_laws.specs.RegisterMapping.{moved_registers}
use Rattle.register_laws.proofs.MappedRegisters.{mapped_registers_are_secure, mapped_registers_are_alarm_secure, mapped_registers_are_block_alarm_secure, register_alarm_secure_for_faults}
use Rattle.register_laws.proofs.MappedPlans.{mapped_plans_are_of_theirs}
use Rattle.tsc_net.specs.Named.{NamedLatch}
use Rattle.tsc_net.specs.NetlistOf.{NetlistOf, IsBuilt, named_latches}
use Rattle.tsc_net.specs.Names.{has_text, text_at, place_of_text, IsNumbering}
use Rattle.tsc_net.proofs.AcyclicLemmas.{acyclic_from_order}
use Rattle.tsc_net.proofs.NameLemmas.{place_within, place_past, text_at_place, has_text_at}
use Rattle.mapping_reading.specs.ReadMapping.{first_net}
use Rattle.mapping_reading.specs.Pins.{at_of}
use Rattle.mapping_reading.specs.MovedNets.{HaveMoved}
use Rattle.mapping_reading.specs.NamedMapping.{moved_by_name, HasSameNames, NamesMove, named_latch, RegistersStaySecure, NamesStaySecure}
use Rattle.mapping_reading.proofs.ReadMappings.{read_mapping_is_mapping, read_mapping_is_secure}
use Rattle.mapping_reading.specs.ReadMapping.{some_block}

-- ---- latches by names, one by one

-- there is one latch by names for each latch
pub length_named_latches : (names : List (List ℕ)) (from : ℕ) (latches : List LatchOf) → length (named_latches names from latches) ≡ length latches
length_named_latches names from [] = refl
length_named_latches names from (l ∷ latches) = ap suc (length_named_latches names (from + 1) latches)

-- the latch by names at place i is latch i, whose net is that of the first latch and i more
pub latch_named : (names : List (List ℕ)) (from : ℕ) (latches : List LatchOf) (i : ℕ) (d : NamedLatch) → i < length latches
    → slice_index_or (named_latches names from latches) i d ≡ named_latch names (from + i) (slice_index_or latches i no_latch)
latch_named names from [] i d h = absurd (omega arith)
latch_named names from (l ∷ latches) zero d h = ap (λ n. named_latch names n l) (omega arith)
latch_named names from (l ∷ latches) (suc i) d h =
    latch_named names (from + 1) latches i d (omega arith) ∙ ap (λ n. named_latch names n (slice_index_or latches i no_latch)) (omega arith)

-- ---- the place of a text

-- the text of a numbered net stands at that net
pub place_of_net : (names : List (List ℕ)) (t : List ℕ) (net : ℕ) → IsNumbering names → net < length names → text_at names net ≡ t
    → place_of_text names t ≡ net
place_of_net names t net numbering h e =
    let there = has_text_at names t net h e in
    numbering.distinct (place_of_text names t) net (place_within names t there) h (text_at_place names t there ∙ sym e)

-- a text whose place is one of the list stands there
pub text_of_place : (names : List (List ℕ)) (t : List ℕ) → place_of_text names t < length names → text_at names (place_of_text names t) ≡ t
text_of_place names t h = elim (cases_Bool (has_text names t)) [
  | inl there ↦ text_at_place names t there
  | inr absent ↦ absurd (let past = place_past names t absent in omega arith)
]

module _ (N G : NetlistOf) (first : IsBuilt N) (second : IsBuilt G) (same : HasSameNames N G) where
  abbrev C : Circuit
  C = N.circuit

  abbrev D : Circuit
  D = G.circuit

  abbrev moved : List ℕ
  moved = moved_by_name N G

  abbrev at : ℕ → ℕ
  at = at_of D moved

  moved_sized : length moved ≡ nets C
  moved_sized = length-map N.names (place_of_text G.names) ∙ first.sized

  goes : (net : ℕ) → net < nets C → at net ≡ place_of_text G.names (text_at N.names net)
  goes net h = get_or-map (place_of_text G.names) N.names net [] (nets D) (omega (arith, first.sized))

  -- to the net with its text
  goes_to : (a b : ℕ) → a < nets C → b < nets D → text_at N.names a ≡ text_at G.names b → at a ≡ b
  goes_to a b h k e = goes a h ∙ place_of_net G.names (text_at N.names a) b second.numbering (omega (arith, second.sized)) (sym e)

  -- ---- inputs

  input_names : take C.inputs N.names ≡ take D.inputs G.names
  input_names = same.inputs

  same_inputs : D.inputs ≡ C.inputs
  same_inputs =
      sym (length-take-le D.inputs G.names (omega (arith, second.sized)))
      ∙ ap length (sym input_names)
      ∙ length-take-le C.inputs N.names (omega (arith, first.sized))

  input_text : (net : ℕ) → net < C.inputs → text_at N.names net ≡ text_at G.names net
  input_text net h =
      sym (get_or-take C.inputs N.names net [] h)
      ∙ ap (λ names. text_at names net) input_names
      ∙ get_or-take D.inputs G.names net [] (omega (arith, same_inputs))

  -- ---- latches

  latch_names : named_latches N.names C.inputs C.latches ≡ named_latches G.names D.inputs D.latches
  latch_names = same.latches

  latches_counted : length D.latches ≡ length C.latches
  latches_counted =
      sym (length_named_latches G.names D.inputs D.latches) ∙ ap length (sym latch_names) ∙ length_named_latches N.names C.inputs C.latches

  abbrev no_named : NamedLatch
  no_named = named_latch [] 0 no_latch

  latch_same : (l : ℕ) → l < length C.latches → named_latch N.names (C.inputs + l) (latch C l) ≡ named_latch G.names (D.inputs + l) (latch D l)
  latch_same l h =
      sym (latch_named N.names C.inputs C.latches l no_named h)
      ∙ ap (λ latches. slice_index_or latches l no_named) latch_names
      ∙ latch_named G.names D.inputs D.latches l no_named (omega (arith, latches_counted))

  latch_moved : (l : ℕ) → l < length C.latches → latch D l ≡ moved_latch at (latch C l)
  latch_moved l h =
      let e = latch_same l h in
      let reads : at (latch C l).reads ≡ (latch D l).reads =
      goes_to (latch C l).reads (latch D l).reads (first.closed.latches l no_latch h) (second.closed.latches l no_latch (omega (arith, latches_counted)))
      (ap (λ (k : NamedLatch). k.reads) e) in
      let init : (latch C l).init ≡ (latch D l).init = ap (λ (k : NamedLatch). k.init) e in
      ap (λ (n : ℕ). record { reads = n; init = (latch D l).init }) (sym reads) ∙ ap (λ (b : Bool). record { reads = at (latch C l).reads; init = b }) (sym init)

  latches_moved : D.latches ≡ map (moved_latch at) C.latches
  latches_moved = ext_get_or no_latch D.latches (map (moved_latch at) C.latches) (latches_counted ∙ sym (length-map C.latches (moved_latch at)))
      (λ l h.
      let low : l < length C.latches = omega (arith, latches_counted) in
      latch_moved l low ∙ sym (get_or-map (moved_latch at) C.latches l no_latch no_latch low))

  -- ---- outputs

  outputs_counted : length D.outputs ≡ length C.outputs
  outputs_counted = sym (length-map D.outputs (text_at G.names)) ∙ ap length (sym same.outputs) ∙ length-map C.outputs (text_at N.names)

  output_moved : (i : ℕ) → i < length C.outputs → slice_index_or D.outputs i 0 ≡ at (slice_index_or C.outputs i 0)
  output_moved i h =
      let low : i < length D.outputs = omega (arith, outputs_counted) in
      sym (goes_to (slice_index_or C.outputs i 0) (slice_index_or D.outputs i 0) (first.closed.outputs i 0 h) (second.closed.outputs i 0 low)
      (sym (get_or-map (text_at N.names) C.outputs i 0 [] h)
      ∙ ap (λ names. slice_index_or names i []) same.outputs
      ∙ get_or-map (text_at G.names) D.outputs i 0 [] low))

  outputs_moved : D.outputs ≡ map at C.outputs
  outputs_moved = ext_get_or 0 D.outputs (map at C.outputs) (outputs_counted ∙ sym (length-map C.outputs at))
      (λ i h. let low : i < length C.outputs = omega (arith, outputs_counted) in output_moved i low ∙ sym (get_or-map at C.outputs i 0 0 low))

  -- ---- sources and nodes

  source_stays : (net : ℕ) → net < first_net C → at net ≡ net
  source_stays net h = goes_to net net (omega arith) (omega (arith, same_inputs, latches_counted)) (elim (cases_lt net C.inputs) [
    | inl input ↦ input_text net input
    | inr past ↦
        let l = net - C.inputs in
        let e : C.inputs + l ≡ net = omega arith in
        let f : D.inputs + l ≡ net = omega (arith, same_inputs) in
        ap (text_at N.names) (sym e) ∙ ap (λ (k : NamedLatch). k.out) (latch_same l (omega arith)) ∙ ap (text_at G.names) f
  ])

  node_goes : (j : ℕ) → j < length C.nodes → (first_net D ≤ at (node_net C j)) × (at (node_net C j) < nets D)
  node_goes j h =
      let gate_net = same.nodes j h in
      let e = goes (node_net C j) (omega arith) in
      (omega (arith, gate_net.past), omega (arith, gate_net.inside))

  go_apart : (j k : ℕ) → j < length C.nodes → k < length C.nodes → at (node_net C j) ≡ at (node_net C k) → j ≡ k
  go_apart j k h l e =
      let one = text_of_place G.names (text_at N.names (node_net C j)) (let p = (same.nodes j h).inside in omega (arith, second.sized)) in
      let two = text_of_place G.names (text_at N.names (node_net C k)) (let p = (same.nodes k l).inside in omega (arith, second.sized)) in
      let places = sym (goes (node_net C j) (omega arith)) ∙ e ∙ goes (node_net C k) (omega arith) in
      let texts = sym one ∙ ap (text_at G.names) places ∙ two in
      let nodes = first.numbering.distinct (node_net C j) (node_net C k) (omega (arith, first.sized)) (omega (arith, first.sized)) texts in
      omega arith

  within : (net : ℕ) → net < nets C → at net < nets D
  within net h = elim (cases_lt net (first_net C)) [
    | inl low ↦ let stays = source_stays net low in omega (arith, same_inputs, latches_counted)
    | inr past ↦
        let e : node_net C (net - first_net C) ≡ net = omega arith in
        let there = node_goes (net - first_net C) (omega arith) in
        subst (λ n. at n < nets D) e there.1
  ]

  pub have_moved : HaveMoved C D moved
  have_moved = record {
    sized = moved_sized;
    within = λ net d h. let low = within net (omega (arith, moved_sized)) in let e = get_or_default moved net d (nets D) h in omega arith;
    inputs = same_inputs;
    latches = latches_moved;
    outputs = outputs_moved;
    sources = source_stays;
    apart = record { gates = node_goes; apart = go_apart };
  }

-- nets of built netlists have moved by name, where inputs, latches and outputs have the same names, and each node's net a gate's
pub names_move : NamesMove
names_move N G first second same = have_moved N G first second same

-- G, which is N mapped cover by cover and has no ring, is as secure as N for sources with registers, with the plan moved
registers_stay_secure : (N G : Circuit) (at block : ℕ → ℕ) → IsMapped N G at block → Acyclic G → RegistersStaySecure N G at block
registers_stay_secure N G at block mapped acyclic = record {
  secure = λ S P secure. mapped_registers_are_secure S N G at block P mapped acyclic secure;
  alarm_secure = λ S P secure. mapped_registers_are_alarm_secure S N G at block P mapped acyclic secure;
  blocks = λ S P secure. mapped_registers_are_block_alarm_secure S N G at block P mapped acyclic secure;
  faults = λ S P secure.
      register_alarm_secure_for_faults S G (moved_registers at P) acyclic (mapped_registers_are_alarm_secure S N G at block P mapped acyclic secure);
  plans = λ P planned. mapped_plans_are_of_theirs N G at block P mapped planned;
}

-- a closed G with an order that reads as N mapped by names is N mapped, and secure where N is against any one failing cell, for sources with
-- registers too
pub names_stay_secure : NamesStaySecure
names_stay_secure N G block closed whole read =
    let mapped = read_mapping_is_mapping N.circuit G.circuit (at_of G.circuit (moved_by_name N G)) block _ closed whole read in
    record {
      mapped = mapped;
      secure = λ M P secure. read_mapping_is_secure M N.circuit G.circuit (at_of G.circuit (moved_by_name N G)) block _ P closed whole read secure;
      registers = registers_stay_secure N.circuit G.circuit (at_of G.circuit (moved_by_name N G)) (some_block N.circuit block) mapped
          (acyclic_from_order G.circuit _ whole);
    }
