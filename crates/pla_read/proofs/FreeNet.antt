-- The network that tells where outputs are free: nothing refuses it, and what it answers.
use Rattle.std.proofs.Common.{◌≡◌, ℕ, zero, suc, ◌+◌, ◌-◌, ◌<◌, ◌≤◌, ◌&&◌, Bool, true, false, not, inl, inr, if◌then◌else◌, nat_lt, List, [], ◌∷◌, ◌++◌, map, length, get_or, slice_index_or, All, Contains, refl, sym, ap, ap₂, ◌∙◌, subst, arith, append_assoc, length-append}
use Rattle.std.specs.List.{range_with_len}
use Rattle.std.proofs.lemmas.Bool.{cases_lt, lt-ltb, le-ltb, ltb-false}
use Rattle.std.proofs.lemmas.List.{append-nil, get_or-append-add, get_or-map, get_or_append_left, length-map, map-append}
use Rattle.std.proofs.lemmas.List.Elements.{All-nil, All-from_get_or, Contains-get_or}
use Rattle.std.proofs.lemmas.List.FromFn.{fill_by_all, get_or-map-range_with_len, length-map-range_with_len}
use Rattle.tsc_cover.specs.Cover.{Literal, some_row_matches, truth}
use Rattle.fault_secure.specs.Circuit.{bit, node_net}
use Rattle.fault_secure.specs.Settle.{Acyclic, Settles}
use Rattle.fault_secure.specs.StuckAt.{NoFault}
use Rattle.tsc_net.specs.Named.{Named, NamedLatch, NamedNode, no_named, node_outs}
use Rattle.tsc_net.specs.Names.{has_text, place_of_text, text_at, IsNumbering}
use Rattle.tsc_net.specs.NetlistOf.{circuit_of, drivers}
use Rattle.tsc_net.proofs.NameLemmas.{has_text_at}
use Rattle.net_building.specs.Sound.{pins_at, IsLower, IsSound}
use Rattle.net_building.proofs.NamedNets.{node_drives, place_of_node}
use Rattle.pla_read.specs.RowText.{TableRow}
use Rattle.pla_read.specs.TableText.{is_free, is_left, is_one, AreWide, TableOf}
use Rattle.pla_read.specs.Networks.{AnswersAs}
use Rattle.pla_read.specs.Covers.{chosen_at, marked_at}
use Rattle.pla_read.specs.FreeParts.{and_not_cover, free_named, gate_node, gate_nodes, rows_node, rows_nodes}
use Rattle.pla_read.specs.declared.rows.Mark.TheVariants as mark
use Rattle.pla_read.specs.declared.table.Chosen.{Chosen}
use Rattle.pla_read.specs.declared.table.Chosen.TheVariants.{Free, OnesBesideFree}
use Rattle.pla_read.proofs.Answered.{answers_as, input_bit, input_bits_many, node_bit, some_marked}
use Rattle.pla_read.proofs.Segments.{back_distinct, front_distinct}

abbrev out_of : NamedNode → List ℕ
out_of n = n.out

-- the texts of the nodes of a list, by their places
outs_are : (names : List (List ℕ)) (f : ℕ → NamedNode) (count : ℕ) → length names ≡ count → ((k : ℕ) → (f k).out ≡ text_at names k)
    → map out_of (map f (range_with_len 0 count)) ≡ names
outs_are names f count many is =
    let sized : length (map f (range_with_len 0 count)) ≡ count = length-map-range_with_len f 0 count in
    fill_by_all (text_at names) (map out_of (map f (range_with_len 0 count))) count [] (length-map (map f (range_with_len 0 count)) out_of ∙ sized)
    (λ k h. get_or-map out_of (map f (range_with_len 0 count)) k no_named [] (omega (arith, h, sized))
    ∙ ap out_of (get_or-map-range_with_len f 0 count k k no_named h (omega arith)) ∙ is k)
    ∙ sym (fill_by_all (text_at names) names count [] many (λ k h. refl))

-- the truth of the gate
gate_truth : (a b : Bool) → truth and_not_cover (a ∷ (b ∷ [])) ≡ (a && not b)
gate_truth true true = refl
gate_truth true false = refl
gate_truth false true = refl
gate_truth false false = refl

-- where no row leaves the output free it isn't, whatever rows make it 1
no_rows : (rows : List (List Literal)) (bits : List Bool) → nat_lt 0 (length rows) ≡ false → some_row_matches rows bits ≡ false
no_rows [] bits e = refl
no_rows (row ∷ rows) bits e = let past = ltb-false 0 (length (row ∷ rows)) e in absurd (omega arith)

beside : (left one : Bool) (rows ones : List (List Literal)) (bits : List Bool) → some_row_matches rows bits ≡ left → some_row_matches ones bits ≡ one
    → (some_row_matches rows bits && not (some_row_matches (if nat_lt 0 (length rows) then ones else []) bits)) ≡ (left && not one)
beside left one rows ones bits a b = by (nat_lt 0 (length rows)) refl
  where
    by : (c : Bool) → nat_lt 0 (length rows) ≡ c
        → (some_row_matches rows bits && not (some_row_matches (if c then ones else []) bits)) ≡ (left && not one)
    by true e = ap₂ (λ p q. p && not q) a b
    by false e =
        let none : some_row_matches rows bits ≡ false = no_rows rows bits e in
        ap (λ p. p && not (some_row_matches [] bits)) none ∙ sym (ap (λ p. p && not one) (sym a ∙ none))

module _ (inputs outputs lefts barred : List (List ℕ)) (table : TableOf) (outputs_many : length outputs ≡ table.outputs) (lefts_many : length lefts ≡ table.outputs)
    (barred_many : length barred ≡ table.outputs) (distinct : IsNumbering (((inputs ++ outputs) ++ lefts) ++ barred)) where
  abbrev N : Named
  N = free_named inputs outputs lefts barred table

  abbrev n : ℕ
  n = table.outputs

  abbrev gates : List NamedNode
  gates = gate_nodes outputs lefts barred n

  abbrev frees : List NamedNode
  frees = rows_nodes inputs lefts Free table n

  abbrev ones : List NamedNode
  ones = rows_nodes inputs barred OnesBesideFree table n

  gates_many : length gates ≡ n
  gates_many = length-map-range_with_len (gate_node outputs lefts barred) 0 n

  frees_many : length frees ≡ n
  frees_many = length-map-range_with_len (rows_node inputs lefts Free table) 0 n

  ones_many : length ones ≡ n
  ones_many = length-map-range_with_len (rows_node inputs barred OnesBesideFree table) 0 n

  front_many : length (gates ++ frees) ≡ n + n
  front_many = omega (arith, length-append gates frees, gates_many, frees_many)

  -- the network has three nodes per output
  pub nodes_many : length N.nodes ≡ n + n + n
  nodes_many = omega (arith, length-append (gates ++ frees) ones, front_many, ones_many)

  -- the nodes at their places
  gate_at : (k : ℕ) → k < n → slice_index_or N.nodes k no_named ≡ gate_node outputs lefts barred k
  gate_at k h =
      get_or_append_left (gates ++ frees) ones no_named k (omega (arith, h, front_many))
      ∙ get_or_append_left gates frees no_named k (omega (arith, h, gates_many))
      ∙ get_or-map-range_with_len (gate_node outputs lefts barred) 0 n k k no_named h (omega arith)

  free_at : (k : ℕ) → k < n → slice_index_or N.nodes (n + k) no_named ≡ rows_node inputs lefts Free table k
  free_at k h =
      get_or_append_left (gates ++ frees) ones no_named (n + k) (omega (arith, h, front_many))
      ∙ ap (λ p. slice_index_or (gates ++ frees) p no_named) (let e : n + k ≡ length gates + k = omega (arith, gates_many) in e)
      ∙ get_or-append-add gates frees k no_named
      ∙ get_or-map-range_with_len (rows_node inputs lefts Free table) 0 n k k no_named h (omega arith)

  one_at : (k : ℕ) → k < n → slice_index_or N.nodes (n + n + k) no_named ≡ rows_node inputs barred OnesBesideFree table k
  one_at k h =
      ap (λ p. slice_index_or N.nodes p no_named) (let e : n + n + k ≡ length (gates ++ frees) + k = omega (arith, front_many) in e)
      ∙ get_or-append-add (gates ++ frees) ones k no_named
      ∙ get_or-map-range_with_len (rows_node inputs barred OnesBesideFree table) 0 n k k no_named h (omega arith)

  -- what is driven are the names
  outs : node_outs N ≡ (outputs ++ lefts) ++ barred
  outs =
      map-append out_of (gates ++ frees) ones
      ∙ ap₂ (λ a b. a ++ b)
      (map-append out_of gates frees
      ∙ ap₂ (λ a b. a ++ b) (outs_are outputs (gate_node outputs lefts barred) n outputs_many (λ k. refl)) (outs_are lefts (rows_node inputs lefts Free table) n lefts_many (λ k. refl)))
      (outs_are barred (rows_node inputs barred OnesBesideFree table) n barred_many (λ k. refl))

  driven : drivers N ≡ ((inputs ++ outputs) ++ lefts) ++ barred
  driven =
      ap₂ (λ a b. a ++ b) (append-nil inputs) outs
      ∙ sym (append_assoc inputs (outputs ++ lefts) barred)
      ∙ ap (λ a. a ++ barred) (sym (append_assoc inputs outputs lefts))

  driven_once : IsNumbering (drivers N)
  driven_once = subst IsNumbering (sym driven) distinct

  node_out : (j : ℕ) (node : NamedNode) → j < length N.nodes → slice_index_or N.nodes j no_named ≡ node → text_at (node_outs N) j ≡ node.out
  node_out j node h is = get_or-map out_of N.nodes j no_named [] h ∙ ap out_of is

  outputs_driven : All (λ t. has_text (drivers N) t ≡ true) outputs
  outputs_driven =
      All-from_get_or (λ t. has_text (drivers N) t ≡ true) outputs []
      (λ k h.
      let below : k < n = omega (arith, h, outputs_many) in
      let inside : k < length N.nodes = omega (arith, below, nodes_many) in
      has_text_at (drivers N) (text_at outputs k) (length inputs + 0 + k)
      (let e : length (drivers N) ≡ length inputs + length (node_outs N) = length-append (inputs ++ []) (node_outs N) ∙ ap (λ l. length l + length (node_outs N)) (append-nil inputs) in
      let m : length (node_outs N) ≡ length N.nodes = length-map N.nodes out_of in omega (arith, e, m, inside))
      (node_drives N k inside ∙ node_out k (gate_node outputs lefts barred k) inside (gate_at k below)))

  rank : ℕ → ℕ
  rank k = if nat_lt k n then 1 else 0

  rank_gate : (k : ℕ) → k < n → rank k ≡ 1
  unfolding rank
  rank_gate k h = ap (λ b. if b then 1 else 0) (lt-ltb k n h)

  rank_rows : (k : ℕ) → n ≤ k → rank k ≡ 0
  unfolding rank
  rank_rows k h = ap (λ b. if b then 1 else 0) (le-ltb k n h)

  pins_of : (k : ℕ) (node : NamedNode) → k < length N.nodes → slice_index_or N.nodes k no_named ≡ node → pins_at N k ≡ node.reads
  pins_of k node h is = get_or-map (λ (n : NamedNode). n.reads) N.nodes k no_named [] h ∙ ap (λ (n : NamedNode). n.reads) is

  -- a node over all inputs reads what has no rank
  reads_inputs : (k pin : ℕ) → pins_at N k ≡ inputs → pin < length (pins_at N k) → IsLower N rank k (text_at (pins_at N k) pin)
  reads_inputs k pin is hp =
      inl (subst (λ list. Contains list (text_at (pins_at N k) pin)) (is ∙ sym (append-nil inputs)) (Contains-get_or (pins_at N k) pin [] hp))

  reads_rows : (k : ℕ) (text : List ℕ) (j : ℕ) → k < n → n ≤ j → j < length N.nodes → text_at (node_outs N) j ≡ text → IsLower N rank k text
  reads_rows k text j h past inside is =
      let low : rank j < rank k = (let a = rank_rows j past in let b = rank_gate k h in omega arith) in
      inr (j, inside, low, is)

  pin_lower : (k pin : ℕ) → k < length N.nodes → pin < length (pins_at N k) → IsLower N rank k (text_at (pins_at N k) pin)
  pin_lower k pin h hp = elim (cases_lt k n) [
    | inl gate ↦
        let two : pins_at N k ≡ text_at lefts k ∷ text_at barred k ∷ [] = pins_of k (gate_node outputs lefts barred k) h (gate_at k gate) in
        let first : IsLower N rank k (text_at lefts k) =
        reads_rows k (text_at lefts k) (n + k) gate (omega arith) (omega (arith, gate, nodes_many))
        (node_out (n + k) (rows_node inputs lefts Free table k) (omega (arith, gate, nodes_many)) (free_at k gate)) in
        let second : IsLower N rank k (text_at barred k) =
        reads_rows k (text_at barred k) (n + n + k) gate (omega arith) (omega (arith, gate, nodes_many))
        (node_out (n + n + k) (rows_node inputs barred OnesBesideFree table k) (omega (arith, gate, nodes_many)) (one_at k gate)) in
        of_two k pin (pins_at N k) (text_at lefts k) (text_at barred k) two hp first second
    | inr past ↦ elim (cases_lt k (n + n)) [
      | inl free ↦
          let e : n + (k - n) ≡ k = omega arith in
          let below : k - n < n = omega arith in
          reads_inputs k pin (pins_of k (rows_node inputs lefts Free table (k - n)) h (ap (λ p. slice_index_or N.nodes p no_named) (sym e) ∙ free_at (k - n) below)) hp
      | inr one ↦
          let e : n + n + (k - (n + n)) ≡ k = omega arith in
          let below : k - (n + n) < n = omega (arith, h, nodes_many) in
          reads_inputs k pin (pins_of k (rows_node inputs barred OnesBesideFree table (k - (n + n))) h (ap (λ p. slice_index_or N.nodes p no_named) (sym e) ∙ one_at (k - (n + n)) below)) hp
    ]
  ]
    where
      of_two : (k pin : ℕ) (pins : List (List ℕ)) (a b : List ℕ) → pins ≡ a ∷ b ∷ [] → pin < length pins → IsLower N rank k a → IsLower N rank k b
          → IsLower N rank k (text_at pins pin)
      of_two k pin pins a b is hp first second =
          subst (λ list. pin < length list → IsLower N rank k (text_at list pin)) (sym is) (at pin) hp
        where
          at : (pin : ℕ) → pin < length (a ∷ b ∷ []) → IsLower N rank k (text_at (a ∷ b ∷ []) pin)
          at zero hp = first
          at (suc zero) hp = second
          at (suc (suc pin)) hp = absurd (omega arith)

  -- the network is sound, where there is an output
  pub free_sound : 1 ≤ n → IsSound N
  free_sound some = record {
    driven_once = driven_once;
    shown_once = back_distinct inputs outputs (front_distinct (inputs ++ outputs) lefts (front_distinct ((inputs ++ outputs) ++ lefts) barred distinct));
    some_output = omega (arith, some, outputs_many);
    outputs = outputs_driven;
    latches = All-nil (λ (l : NamedLatch). has_text (drivers N) l.reads ≡ true);
    rank = rank;
    pins = pin_lower;
  }

  -- ---- what it answers

  net_of : (j : ℕ) (node : NamedNode) → j < length N.nodes → slice_index_or N.nodes j no_named ≡ node → place_of_text (drivers N) node.out ≡ node_net (circuit_of N) j
  net_of j node h is = ap (place_of_text (drivers N)) (sym (node_out j node h is)) ∙ place_of_node N driven_once j h

  module _ (inputs_many : length inputs ≡ table.inputs) (wide : AreWide table) (x v : List Bool) (settles : Settles (circuit_of N) NoFault (bit x) (λ _. false) v) where
    abbrev bits : List Bool
    bits = map (bit v) (map (place_of_text (drivers N)) inputs)

    wide_bits : All (λ (row : TableRow). length row.input ≡ length bits) table.rows
    wide_bits = subst (λ n. All (λ (row : TableRow). length row.input ≡ n) table.rows) (sym (input_bits_many N driven_once x v settles ∙ inputs_many)) wide

    rows_bit : (j k : ℕ) (names : List (List ℕ)) (chosen : Chosen) → j < length N.nodes → slice_index_or N.nodes j no_named ≡ rows_node inputs names chosen table k
        → bit v (place_of_text (drivers N) (text_at names k)) ≡ some_row_matches (chosen_at chosen table.rows k) bits
    rows_bit j k names chosen h is =
        ap (bit v) (net_of j (rows_node inputs names chosen table k) h is)
        ∙ node_bit N driven_once x v settles j (rows_node inputs names chosen table k) no_named h (sym is)

    free_bit : (k : ℕ) → k < n → bit v (node_net (circuit_of N) k) ≡ is_free table x k
    free_bit k h =
        let inside : k < length N.nodes = omega (arith, h, nodes_many) in
        node_bit N driven_once x v settles k (gate_node outputs lefts barred k) no_named inside (sym (gate_at k h))
        ∙ gate_truth (bit v (place_of_text (drivers N) (text_at lefts k))) (bit v (place_of_text (drivers N) (text_at barred k)))
        ∙ ap₂ (λ a b. a && not b)
        (rows_bit (n + k) k lefts Free (omega (arith, h, nodes_many)) (free_at k h))
        (rows_bit (n + n + k) k barred OnesBesideFree (omega (arith, h, nodes_many)) (one_at k h))
        ∙ beside (is_left table x k) (is_one table x k) (marked_at mark.Free table.rows k) (marked_at mark.One table.rows k) bits
        (some_marked mark.Free k bits x (input_bit N driven_once x v settles) table.rows wide_bits)
        (some_marked mark.One k bits x (input_bit N driven_once x v settles) table.rows wide_bits)

  output_net : (k : ℕ) → k < n → get_or (circuit_of N).outputs k 0 ≡ node_net (circuit_of N) k
  output_net k h =
      get_or-map (place_of_text (drivers N)) outputs k [] 0 (omega (arith, h, outputs_many))
      ∙ net_of k (gate_node outputs lefts barred k) (omega (arith, h, nodes_many)) (gate_at k h)

  -- where each row has one literal per input, and the circuit is acyclic, the network answers which outputs are free
  pub free_answers : length inputs ≡ table.inputs → AreWide table → Acyclic (circuit_of N) → AnswersAs (is_free table) (circuit_of N)
  free_answers inputs_many wide acyclic =
      answers_as (circuit_of N) (is_free table) acyclic
      (λ x v settles k h.
      let below : k < n = (let e = length-map outputs (place_of_text (drivers N)) in omega (arith, h, e, outputs_many)) in
      ap (bit v) (output_net k below) ∙ free_bit inputs_many wide x v settles k below)
