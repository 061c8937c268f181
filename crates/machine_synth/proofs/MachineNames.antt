-- A plan over a composed netlist of a machine makes it the machine's: its names, its plan and what its latches hold first.
use Rattle.std.proofs.Common.{◌≡◌, ℕ, zero, suc, ◌+◌, ◌-◌, ◌*◌, ◌<◌, ◌≤◌, ◌⊎◌, inl, inr, true, List, [], ◌∷◌, ◌++◌, map, take, length, slice_index, slice_index_or, All, Contains, refl, sym, ◌∙◌, ap, ap₂, subst, arith, append_assoc}
use Rattle.std.specs.List.{range_with_len}
use Rattle.std.proofs.lemmas.Bool.{cases_lt}
use Rattle.std.proofs.lemmas.List.{length-map, map-append, get_or-map, get_or-append-add, get_or-take, take-append-le, take-take, take_all, ext_get_or}
use Rattle.std.proofs.lemmas.List.FromFn.{length-range_with_len, get_or-range_with_len, length-map-range_with_len, get_or-map-range_with_len}
use Rattle.std.proofs.lemmas.List.Elements.{All-get_or, All-head, All-tail, All-map, All-weaker, Contains-append_left, Contains-append_right, Contains-append_cases}
use Rattle.fault_secure.specs.Circuit.{LatchOf, nets}
use Rattle.fault_secure.specs.CodePlan.{CodePlan, IsPlanOf, monitored, next_nets}
use Rattle.tsc_net.specs.Named.{NamedLatch}
use Rattle.tsc_net.specs.Names.{text_at, has_text, place_of_text}
use Rattle.tsc_net.specs.NetlistOf.{NetlistOf, IsBuilt, names_of}
use Rattle.tsc_net.specs.Parts.{fresh_text, free_number}
use Rattle.tsc_net.proofs.NameLemmas.{place_within}
use Rattle.tsc_net.proofs.BuildLemmas.{map-map}
use Rattle.tsc_net.proofs.NetlistLemmas.{texts_at_places}
use Rattle.net_writing.specs.Rails.{EndsInRails}
use Rattle.net_writing.proofs.Ends.{ends_in_two}
use Rattle.net_writing.proofs.RailLemmas.{plan_fits}
use Rattle.net_building.proofs.NamedNets.{place_at}
use Rattle.unate_synth.specs.Composed.{HasPartsOf, IsFreshName}
use Rattle.unate_synth.specs.UnateNetlist.{IsOutputOrFresh}
use Rattle.unate_synth.proofs.Exact.{contains_map}
use Rattle.machine_synth.specs.MachineNetlist.{HasMachineInputs, HasMachineNames, first_fresh_texts, fresh_nets, latch_nets}
use Rattle.machine_synth.specs.MachineParts.{latch_at, machine_parts, fresh_at, hidden_texts}
use Rattle.fault_secure.specs.Logic.{StateTable}
use Rattle.machine_synth.proofs.MachineTexts.{parts_number, parts_next, parts_inputs, parts_model, parts_latches, latches_counted, outs_are, fresh_there}
use Rattle.tsc_bits.proofs.Lists.{all_left, all_right}

-- numbers in a row, in two parts
row_split : {A : Type 0} (f : ℕ → A) (first m n : ℕ) → map f (range_with_len first (m + n)) ≡ map f (range_with_len first m) ++ map f (range_with_len (first + m) n)
row_split f first zero n = ap₂ (λ (a b : ℕ). map f (range_with_len a b)) (omega arith) (omega arith)
row_split f first (suc m) n =
    let one : suc m + n ≡ suc (m + n) = omega arith in
    let next : first + 1 + m ≡ first + suc m = omega arith in
    ap (λ (k : ℕ). map f (range_with_len first k)) one
    ∙ ap (λ list. f first ∷ list) (row_split f (first + 1) m n ∙ ap (λ (k : ℕ). map f (range_with_len (first + 1) m) ++ map f (range_with_len k n)) next)

-- the names of the checks are nets'
pub check_named : (inputs outputs : List (List ℕ)) (n word count number : ℕ) (first second : List ℕ) (N : NetlistOf)
    → HasPartsOf (machine_parts inputs outputs n word (2 * n + count + 2)) outputs (hidden_texts inputs outputs n count) first second N
    → number ≡ free_number (inputs ++ outputs) → (k : ℕ) → k < count → has_text N.names (fresh_text number (2 * n + k)) ≡ true
check_named inputs outputs n word count number first second N c is k low =
    let word_all = all_left (λ text. has_text N.names text ≡ true) (outputs ++ hidden_texts inputs outputs n count) (first ∷ (second ∷ [])) c.named in
    let hidden = all_right (λ text. has_text N.names text ≡ true) outputs (hidden_texts inputs outputs n count) word_all in
    let checks = all_left (λ text. has_text N.names text ≡ true) (map (fresh_at inputs outputs) (range_with_len (2 * n) count)) (map (fresh_at inputs outputs) (range_with_len n n)) hidden in
    let long : length (map (fresh_at inputs outputs) (range_with_len (2 * n) count)) ≡ count = length-map-range_with_len (fresh_at inputs outputs) (2 * n) count in
    let at : slice_index_or (map (fresh_at inputs outputs) (range_with_len (2 * n) count)) k [] ≡ fresh_at inputs outputs (2 * n + k) = get_or-map-range_with_len (fresh_at inputs outputs) (2 * n) count k (2 * n + k) [] low refl in
    ap (λ (m : ℕ). has_text N.names (fresh_text m (2 * n + k))) is
    ∙ subst (λ text. has_text N.names text ≡ true) at (All-get_or (λ text. has_text N.names text ≡ true) (map (fresh_at inputs outputs) (range_with_len (2 * n) count)) k [] (omega (arith, low, long)) checks)

module _ (inputs outputs : List (List ℕ)) (n word count : ℕ) (N : NetlistOf) (P : CodePlan) (checked : IsBuilt N)
    (c : HasPartsOf (machine_parts inputs outputs n word (2 * n + count + 2)) outputs (hidden_texts inputs outputs n count) (fresh_at inputs outputs (2 * n + count)) (fresh_at inputs outputs (2 * n + count + 1)) N)
    (sized : P.outputs ≡ length outputs) (latched : P.latches ≡ n)
    (checks : P.checks ≡ map (λ (k : ℕ). place_of_text N.names (fresh_text (free_number (inputs ++ outputs)) k)) (range_with_len (2 * n) count))
    (rails : EndsInRails N.circuit.outputs P.outputs P.rail1 P.rail2) where
  counted_latches : length N.circuit.latches ≡ n
  counted_latches = ap length c.latches ∙ length-map (machine_parts inputs outputs n word (2 * n + count + 2)).named.latches _ ∙ latches_counted inputs outputs n word (2 * n + count + 2) (machine_parts inputs outputs n word (2 * n + count + 2)) refl

  inputs_counted : N.circuit.inputs ≡ length inputs
  inputs_counted = c.inputs ∙ ap length (parts_inputs inputs outputs n word (2 * n + count + 2) (machine_parts inputs outputs n word (2 * n + count + 2)) refl)

  -- the checks' nets are those of their names
  checks_are : P.checks ≡ map (place_of_text N.names) (map (fresh_at inputs outputs) (range_with_len (2 * n) count))
  checks_are = checks ∙ sym (map-map (place_of_text N.names) (fresh_at inputs outputs) (range_with_len (2 * n) count))

  -- what the latches read
  read_texts : map (λ (l : NamedLatch). l.reads) (machine_parts inputs outputs n word (2 * n + count + 2)).named.latches ≡ map (fresh_at inputs outputs) (range_with_len n n)
  read_texts =
      let q = machine_parts inputs outputs n word (2 * n + count + 2) in
      let one : length (map (λ (l : NamedLatch). l.reads) q.named.latches) ≡ n = length-map q.named.latches (λ (l : NamedLatch). l.reads) ∙ latches_counted inputs outputs n word (2 * n + count + 2) q refl in
      let other : length (map (fresh_at inputs outputs) (range_with_len n n)) ≡ n = length-map-range_with_len (fresh_at inputs outputs) n n in
      ext_get_or [] (map (λ (l : NamedLatch). l.reads) q.named.latches) (map (fresh_at inputs outputs) (range_with_len n n)) (one ∙ sym other)
      (λ k h.
      let low : k < n = omega (arith, h, one) in
      let latch : NamedLatch = latch_at q.names (length inputs + length outputs) n word k in
      get_or-map (λ (l : NamedLatch). l.reads) q.named.latches k latch [] (omega (arith, low, latches_counted inputs outputs n word (2 * n + count + 2) q refl))
      ∙ ap (λ (list : List NamedLatch). (slice_index_or list k latch).reads) (parts_latches inputs outputs n word (2 * n + count + 2) q refl)
      ∙ ap (λ (l : NamedLatch). l.reads) (get_or-map-range_with_len (latch_at q.names (length inputs + length outputs) n word) 0 n k k latch low (omega arith))
      ∙ ap (text_at q.names) (let e : length inputs + length outputs + n + k ≡ length inputs + length outputs + (n + k) = omega arith in e)
      ∙ fresh_there inputs outputs n word (2 * n + count + 2) q refl (n + k) (omega (arith, low))
      ∙ sym (get_or-map-range_with_len (fresh_at inputs outputs) n n k (n + k) [] low refl))

  next_are : next_nets N.circuit ≡ map (place_of_text N.names) (map (fresh_at inputs outputs) (range_with_len n n))
  next_are =
      ap (map (λ (l : LatchOf). l.reads)) c.latches
      ∙ map-map (λ (l : LatchOf). l.reads) (λ (l : NamedLatch). record { reads = place_of_text N.names l.reads; init = l.init }) (machine_parts inputs outputs n word (2 * n + count + 2)).named.latches
      ∙ sym (map-map (place_of_text N.names) (λ (l : NamedLatch). l.reads) (machine_parts inputs outputs n word (2 * n + count + 2)).named.latches)
      ∙ ap (map (place_of_text N.names)) read_texts

  outputs_split : N.circuit.outputs ≡ map (place_of_text N.names) outputs ++ map (place_of_text N.names) (fresh_at inputs outputs (2 * n + count) ∷ (fresh_at inputs outputs (2 * n + count + 1) ∷ []))
  outputs_split = c.outputs ∙ map-append (place_of_text N.names) outputs (fresh_at inputs outputs (2 * n + count) ∷ (fresh_at inputs outputs (2 * n + count + 1) ∷ []))

  front_counted : length (map (place_of_text N.names) outputs) ≡ P.outputs
  front_counted = length-map outputs (place_of_text N.names) ∙ sym sized

  front_is : take P.outputs N.circuit.outputs ≡ map (place_of_text N.names) outputs
  front_is =
      ap (take P.outputs) outputs_split
      ∙ take-append-le P.outputs (map (place_of_text N.names) outputs) (map (place_of_text N.names) (fresh_at inputs outputs (2 * n + count) ∷ (fresh_at inputs outputs (2 * n + count + 1) ∷ []))) (omega (arith, front_counted))
      ∙ take_all P.outputs (map (place_of_text N.names) outputs) (omega (arith, front_counted))

  -- the word's nets are those of its names
  pub watched : monitored N.circuit P ≡ map (place_of_text N.names) (outputs ++ hidden_texts inputs outputs n count)
  watched =
      ap₂ (λ (xs ys : List ℕ). xs ++ ys) (ap₂ (λ (xs ys : List ℕ). xs ++ ys) front_is checks_are) next_are
      ∙ append_assoc (map (place_of_text N.names) outputs) (map (place_of_text N.names) (map (fresh_at inputs outputs) (range_with_len (2 * n) count))) (map (place_of_text N.names) (map (fresh_at inputs outputs) (range_with_len n n)))
      ∙ ap (λ (list : List ℕ). map (place_of_text N.names) outputs ++ list) (sym (map-append (place_of_text N.names) (map (fresh_at inputs outputs) (range_with_len (2 * n) count)) (map (fresh_at inputs outputs) (range_with_len n n))))
      ∙ sym (map-append (place_of_text N.names) outputs (hidden_texts inputs outputs n count))

  rail_at : (k : ℕ) (text : List ℕ) → k < 2 → text ≡ slice_index_or (fresh_at inputs outputs (2 * n + count) ∷ (fresh_at inputs outputs (2 * n + count + 1) ∷ [])) k [] → slice_index N.circuit.outputs (P.outputs + k) ≡ place_of_text N.names text
  rail_at k text low is =
      ap (λ (list : List ℕ). slice_index list (P.outputs + k)) outputs_split
      ∙ ap (λ (m : ℕ). slice_index (map (place_of_text N.names) outputs ++ map (place_of_text N.names) (fresh_at inputs outputs (2 * n + count) ∷ (fresh_at inputs outputs (2 * n + count + 1) ∷ []))) (m + k)) (sym front_counted)
      ∙ get_or-append-add (map (place_of_text N.names) outputs) (map (place_of_text N.names) (fresh_at inputs outputs (2 * n + count) ∷ (fresh_at inputs outputs (2 * n + count + 1) ∷ []))) k 0
      ∙ get_or-map (place_of_text N.names) (fresh_at inputs outputs (2 * n + count) ∷ (fresh_at inputs outputs (2 * n + count + 1) ∷ [])) k [] 0 low
      ∙ ap (place_of_text N.names) (sym is)

  pub first_is : P.rail1 ≡ place_of_text N.names (fresh_at inputs outputs (2 * n + count))
  first_is = sym rails.first ∙ ap (slice_index N.circuit.outputs) (omega arith) ∙ rail_at 0 (fresh_at inputs outputs (2 * n + count)) (omega arith) refl

  pub second_is : P.rail2 ≡ place_of_text N.names (fresh_at inputs outputs (2 * n + count + 1))
  second_is = sym rails.second ∙ rail_at 1 (fresh_at inputs outputs (2 * n + count + 1)) (omega arith) refl

  word_named : All (λ text. has_text N.names text ≡ true) (outputs ++ hidden_texts inputs outputs n count)
  word_named = all_left (λ text. has_text N.names text ≡ true) (outputs ++ hidden_texts inputs outputs n count) (fresh_at inputs outputs (2 * n + count) ∷ (fresh_at inputs outputs (2 * n + count + 1) ∷ [])) c.named

  rails_named : All (λ text. has_text N.names text ≡ true) (fresh_at inputs outputs (2 * n + count) ∷ (fresh_at inputs outputs (2 * n + count + 1) ∷ []))
  rails_named = all_right (λ text. has_text N.names text ≡ true) (outputs ++ hidden_texts inputs outputs n count) (fresh_at inputs outputs (2 * n + count) ∷ (fresh_at inputs outputs (2 * n + count + 1) ∷ [])) c.named

  shown_named : All (λ text. has_text N.names text ≡ true) outputs
  shown_named = all_left (λ text. has_text N.names text ≡ true) outputs (hidden_texts inputs outputs n count) word_named

  hidden_named : All (λ text. has_text N.names text ≡ true) (hidden_texts inputs outputs n count)
  hidden_named = all_right (λ text. has_text N.names text ≡ true) outputs (hidden_texts inputs outputs n count) word_named

  checks_named : All (λ text. has_text N.names text ≡ true) (map (fresh_at inputs outputs) (range_with_len (2 * n) count))
  checks_named = all_left (λ text. has_text N.names text ≡ true) (map (fresh_at inputs outputs) (range_with_len (2 * n) count)) (map (fresh_at inputs outputs) (range_with_len n n)) hidden_named

  next_named : All (λ text. has_text N.names text ≡ true) (map (fresh_at inputs outputs) (range_with_len n n))
  next_named = all_right (λ text. has_text N.names text ≡ true) (map (fresh_at inputs outputs) (range_with_len (2 * n) count)) (map (fresh_at inputs outputs) (range_with_len n n)) hidden_named

  net_low : (text : List ℕ) → has_text N.names text ≡ true → place_of_text N.names text < nets N.circuit
  net_low text there = subst (λ (m : ℕ). place_of_text N.names text < m) checked.sized (place_within N.names text there)

  -- the plan is of the netlist
  pub plan_of : IsPlanOf N.circuit P
  plan_of =
      plan_fits N.circuit P N.circuit.outputs refl rails
      (subst (All (λ m. m < nets N.circuit)) (sym checks_are) (All-map (λ m. m < nets N.circuit) (place_of_text N.names) (map (fresh_at inputs outputs) (range_with_len (2 * n) count))
      (All-weaker (λ text. has_text N.names text ≡ true) (λ text. place_of_text N.names text < nets N.circuit) net_low (map (fresh_at inputs outputs) (range_with_len (2 * n) count)) checks_named)))
      (subst (λ (m : ℕ). m < nets N.circuit) (sym first_is) (net_low (fresh_at inputs outputs (2 * n + count)) (All-head (λ text. has_text N.names text ≡ true) (fresh_at inputs outputs (2 * n + count)) (fresh_at inputs outputs (2 * n + count + 1) ∷ []) rails_named)))
      (subst (λ (m : ℕ). m < nets N.circuit) (sym second_is) (net_low (fresh_at inputs outputs (2 * n + count + 1)) (All-head (λ text. has_text N.names text ≡ true) (fresh_at inputs outputs (2 * n + count + 1)) [] (All-tail (λ text. has_text N.names text ≡ true) (fresh_at inputs outputs (2 * n + count)) (fresh_at inputs outputs (2 * n + count + 1) ∷ []) rails_named))))
      (latched ∙ sym counted_latches)

  -- the sources' names are the first
  sources_are : take (length inputs + n) N.names ≡ inputs ++ map (fresh_at inputs outputs) (range_with_len 0 n)
  sources_are =
      let q = machine_parts inputs outputs n word (2 * n + count + 2) in
      let ins = parts_inputs inputs outputs n word (2 * n + count + 2) q refl in
      ap₂ (λ (a b : ℕ). take (a + b) N.names) (sym (ap length ins)) (sym (latches_counted inputs outputs n word (2 * n + count + 2) q refl)) ∙ c.sources
      ∙ ap₂ (λ (xs ys : List (List ℕ)). xs ++ ys) ins (outs_are inputs outputs n word (2 * n + count + 2) q refl (omega arith))

  source_text : (k : ℕ) → k < length inputs + n → text_at N.names k ≡ text_at (inputs ++ map (fresh_at inputs outputs) (range_with_len 0 n)) k
  source_text k low = sym (get_or-take (length inputs + n) N.names k [] low) ∙ ap (λ (list : List (List ℕ)). text_at list k) sources_are

  pub given : (M : StateTable) → length inputs ≡ M.inputs → HasMachineInputs M inputs N
  given M same = record {
    model = c.model ∙ parts_model inputs outputs n word (2 * n + count + 2) (machine_parts inputs outputs n word (2 * n + count + 2)) refl;
    count = inputs_counted ∙ same;
    names =
        ap (λ (m : ℕ). take m N.names) inputs_counted
        ∙ sym (take-take (length inputs) (length inputs + n) N.names (omega arith)) ∙ ap (take (length inputs)) sources_are
        ∙ take-append-le (length inputs) inputs (map (fresh_at inputs outputs) (range_with_len 0 n)) (omega arith) ∙ take_all (length inputs) inputs (omega arith);
  }

  -- the nets of the latches have the first fresh names
  latches_named : names_of N.names (latch_nets N.circuit) ≡ map (fresh_at inputs outputs) (range_with_len 0 n)
  latches_named =
      let one : length (names_of N.names (latch_nets N.circuit)) ≡ n = length-map (latch_nets N.circuit) (text_at N.names) ∙ length-range_with_len N.circuit.inputs (length N.circuit.latches) ∙ counted_latches in
      let other : length (map (fresh_at inputs outputs) (range_with_len 0 n)) ≡ n = length-map-range_with_len (fresh_at inputs outputs) 0 n in
      ext_get_or [] (names_of N.names (latch_nets N.circuit)) (map (fresh_at inputs outputs) (range_with_len 0 n)) (one ∙ sym other)
      (λ k h.
      let low : k < n = omega (arith, h, one) in
      get_or-map (text_at N.names) (latch_nets N.circuit) k 0 [] (omega (arith, low, length-range_with_len N.circuit.inputs (length N.circuit.latches), counted_latches))
      ∙ ap (text_at N.names) (get_or-range_with_len N.circuit.inputs (length N.circuit.latches) k 0 (omega (arith, low, counted_latches)) ∙ (let e : N.circuit.inputs + k ≡ length inputs + k = omega (arith, inputs_counted) in e))
      ∙ source_text (length inputs + k) (omega (arith, low))
      ∙ get_or-append-add inputs (map (fresh_at inputs outputs) (range_with_len 0 n)) k [])

  fresh_named_nets : names_of N.names (fresh_nets N.circuit P) ≡ first_fresh_texts (free_number (inputs ++ outputs)) (2 * n + count + 2)
  fresh_named_nets =
      map-append (text_at N.names) ((latch_nets N.circuit ++ next_nets N.circuit) ++ P.checks) (P.rail1 ∷ (P.rail2 ∷ []))
      ∙ ap₂ (λ (xs ys : List (List ℕ)). xs ++ ys)
      (map-append (text_at N.names) (latch_nets N.circuit ++ next_nets N.circuit) P.checks
      ∙ ap₂ (λ (xs ys : List (List ℕ)). xs ++ ys)
      (map-append (text_at N.names) (latch_nets N.circuit) (next_nets N.circuit)
      ∙ ap₂ (λ (xs ys : List (List ℕ)). xs ++ ys) latches_named (ap (names_of N.names) next_are ∙ texts_at_places N.names (map (fresh_at inputs outputs) (range_with_len n n)) next_named)
      ∙ sym (row_split (fresh_at inputs outputs) 0 n n ∙ ap (λ (k : ℕ). map (fresh_at inputs outputs) (range_with_len 0 n) ++ map (fresh_at inputs outputs) (range_with_len k n)) (omega arith)))
      (ap (names_of N.names) checks_are ∙ texts_at_places N.names (map (fresh_at inputs outputs) (range_with_len (2 * n) count)) checks_named)
      ∙ sym (row_split (fresh_at inputs outputs) 0 (n + n) count ∙ ap (λ (k : ℕ). map (fresh_at inputs outputs) (range_with_len 0 (n + n)) ++ map (fresh_at inputs outputs) (range_with_len k count)) (omega arith)))
      (ap₂ (λ (a b : ℕ). names_of N.names (a ∷ (b ∷ []))) first_is second_is
      ∙ texts_at_places N.names (fresh_at inputs outputs (2 * n + count) ∷ (fresh_at inputs outputs (2 * n + count + 1) ∷ [])) rails_named)
      ∙ sym (row_split (fresh_at inputs outputs) 0 (n + n + count) 2 ∙ ap₂ (λ (a b : ℕ). map (fresh_at inputs outputs) (range_with_len 0 (n + n + count)) ++ (fresh_at inputs outputs a ∷ (fresh_at inputs outputs b ∷ []))) (omega arith) (omega arith))
      ∙ ap (λ (k : ℕ). map (fresh_at inputs outputs) (range_with_len 0 k)) (omega arith)

  fresh_counted : length (fresh_nets N.circuit P) ≡ 2 * n + count + 2
  fresh_counted = sym (length-map (fresh_nets N.circuit P) (text_at N.names)) ∙ ap length fresh_named_nets ∙ length-map-range_with_len (fresh_text (free_number (inputs ++ outputs))) 0 (2 * n + count + 2)

  -- any net that is no input is an output or has a fresh name
  module _ (narrow : n ≤ 64) (few : count ≤ 64) (net : ℕ) (low : N.circuit.inputs ≤ net) (high : net < nets N.circuit) where
    fresh_here : (k first many : ℕ) → first + many ≤ 192 → k < many → slice_index_or (map (fresh_at inputs outputs) (range_with_len first many)) k (text_at N.names net) ≡ text_at N.names net → IsOutputOrFresh N (free_number (inputs ++ outputs)) net
    fresh_here k first many most within is =
        inr (first + k, omega (arith, most, within), sym (sym (get_or-map-range_with_len (fresh_at inputs outputs) first many k (first + k) (text_at N.names net) within refl) ∙ is))

    in_row : (first many : ℕ) → first + many ≤ 192 → Contains (map (fresh_at inputs outputs) (range_with_len first many)) (text_at N.names net) → IsOutputOrFresh N (free_number (inputs ++ outputs)) net
    in_row first many most has = fresh_here has.0 first many most (omega (arith, has.1, length-map-range_with_len (fresh_at inputs outputs) first many)) has.2

    place_is : place_of_text N.names (text_at N.names net) ≡ net
    place_is = place_at N.names net checked.numbering (subst (λ (m : ℕ). net < m) (sym checked.sized) high)

    is_shown : Contains (outputs ++ (fresh_at inputs outputs (2 * n + count) ∷ (fresh_at inputs outputs (2 * n + count + 1) ∷ []))) (text_at N.names net) → IsOutputOrFresh N (free_number (inputs ++ outputs)) net
    is_shown has =
        inl (subst (λ (list : List ℕ). Contains list net) (sym c.outputs)
        (subst (Contains (map (place_of_text N.names) (outputs ++ (fresh_at inputs outputs (2 * n + count) ∷ (fresh_at inputs outputs (2 * n + count + 1) ∷ []))))) place_is
        (contains_map (place_of_text N.names) (outputs ++ (fresh_at inputs outputs (2 * n + count) ∷ (fresh_at inputs outputs (2 * n + count + 1) ∷ []))) (text_at N.names net) has)))

    in_hidden : Contains (map (fresh_at inputs outputs) (range_with_len (2 * n) count)) (text_at N.names net) ⊎ Contains (map (fresh_at inputs outputs) (range_with_len n n)) (text_at N.names net) → IsOutputOrFresh N (free_number (inputs ++ outputs)) net
    in_hidden (inl has) = in_row (2 * n) count (omega (arith, narrow, few)) has
    in_hidden (inr has) = in_row n n (omega (arith, narrow)) has

    in_word : Contains outputs (text_at N.names net) ⊎ Contains (hidden_texts inputs outputs n count) (text_at N.names net) → IsOutputOrFresh N (free_number (inputs ++ outputs)) net
    in_word (inl has) = is_shown (Contains-append_left outputs (fresh_at inputs outputs (2 * n + count) ∷ (fresh_at inputs outputs (2 * n + count + 1) ∷ [])) (text_at N.names net) has)
    in_word (inr has) = in_hidden (Contains-append_cases (map (fresh_at inputs outputs) (range_with_len (2 * n) count)) (map (fresh_at inputs outputs) (range_with_len n n)) (text_at N.names net) has)

    in_all : Contains (outputs ++ hidden_texts inputs outputs n count) (text_at N.names net) ⊎ Contains (fresh_at inputs outputs (2 * n + count) ∷ (fresh_at inputs outputs (2 * n + count + 1) ∷ [])) (text_at N.names net) → IsOutputOrFresh N (free_number (inputs ++ outputs)) net
    in_all (inl has) = in_word (Contains-append_cases outputs (hidden_texts inputs outputs n count) (text_at N.names net) has)
    in_all (inr has) = is_shown (Contains-append_right outputs (fresh_at inputs outputs (2 * n + count) ∷ (fresh_at inputs outputs (2 * n + count + 1) ∷ [])) (text_at N.names net) has)

    of_node : Contains ((outputs ++ hidden_texts inputs outputs n count) ++ (fresh_at inputs outputs (2 * n + count) ∷ (fresh_at inputs outputs (2 * n + count + 1) ∷ []))) (text_at N.names net) ⊎ IsFreshName (machine_parts inputs outputs n word (2 * n + count + 2)) (text_at N.names net)
        → IsOutputOrFresh N (free_number (inputs ++ outputs)) net
    of_node (inr fresh) =
        let next : ℕ = 2 * n + count + 2 in
        inr (fresh.0, omega (arith, fresh.1, parts_next inputs outputs n word next (machine_parts inputs outputs n word next) refl, narrow, few), fresh.2 ∙ ap (λ (number : ℕ). fresh_text number fresh.0) (parts_number inputs outputs n word (2 * n + count + 2) (machine_parts inputs outputs n word (2 * n + count + 2)) refl))
    of_node (inl has) = in_all (Contains-append_cases (outputs ++ hidden_texts inputs outputs n count) (fresh_at inputs outputs (2 * n + count) ∷ (fresh_at inputs outputs (2 * n + count + 1) ∷ [])) (text_at N.names net) has)

    by_place : (net < N.circuit.inputs + length N.circuit.latches) ⊎ (N.circuit.inputs + length N.circuit.latches ≤ net) → IsOutputOrFresh N (free_number (inputs ++ outputs)) net
    by_place (inl latch) =
        let at : net ≡ length inputs + (net - length inputs) = omega (arith, low, inputs_counted) in
        let within : net - length inputs < n = omega (arith, low, latch, inputs_counted, counted_latches) in
        inr (
          net - length inputs,
          omega (arith, within, narrow),
          ap (text_at N.names) at ∙ source_text (length inputs + (net - length inputs)) (omega (arith, within))
              ∙ get_or-append-add inputs (map (fresh_at inputs outputs) (range_with_len 0 n)) (net - length inputs) []
              ∙ get_or-map-range_with_len (fresh_at inputs outputs) 0 n (net - length inputs) (net - length inputs) [] within (omega arith),
        )
    by_place (inr node) = of_node (c.inner net node high)

    inner_name : IsOutputOrFresh N (free_number (inputs ++ outputs)) net
    inner_name = by_place (cases_lt net (N.circuit.inputs + length N.circuit.latches))

  pub machine_names : n ≤ 64 → count ≤ 64 → HasMachineNames outputs (free_number (inputs ++ outputs)) N P
  machine_names narrow few = record {
    outputs = ap (names_of N.names) front_is ∙ texts_at_places N.names outputs shown_named;
    rails = ends_in_two N.circuit.outputs P.outputs P.rail1 P.rail2 rails.sized rails.first rails.second;
    fresh = fresh_named_nets ∙ ap (first_fresh_texts (free_number (inputs ++ outputs))) (sym fresh_counted);
    inner = λ net low high. inner_name narrow few net low high;
  }
