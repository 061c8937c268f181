-- The names of a machine's parts: those of inputs and outputs, and the fresh ones in order; and its latches by names.
use Rattle.std.proofs.Common.{◌≡◌, ℕ, zero, suc, ◌+◌, ◌-◌, ◌<◌, ◌≤◌, List, [], ◌∷◌, ◌++◌, map, take, drop, length, slice_index_or, Option, refl, sym, ◌∙◌, ap, ap₂, arith, append_assoc, append-nil, length-append, length-drop, length-take-le}
use Rattle.std.specs.Fn.{iterate}
use Rattle.std.specs.List.{range_with_len}
use Rattle.std.proofs.lemmas.List.{length-map, get_or-map, get_or_append_left, get_or-append-add, get_or-take, get_or-drop, take-append-le, take_all, ext_get_or}
use Rattle.std.proofs.lemmas.List.FromFn.{length-map-range_with_len, get_or-map-range_with_len}
use Rattle.tsc_net.specs.Named.{Named, NamedLatch, NamedNode, latch_outs}
use Rattle.tsc_net.specs.Names.{text_at, IsNumbering}
use Rattle.tsc_net.specs.Parts.{PartsOf, FreshNames, with_fresh, fresh_of, free_number}
use Rattle.tsc_net.specs.PartsView.{text_of, texts_of}
use Rattle.tsc_net.specs.declared.ids.Name.{Name}
use Rattle.gate_net.specs.Gates.{GateNetwork}
use Rattle.net_building.specs.Names.{numbered}
use Rattle.net_building.proofs.FreshSteps.{fresh_sized}
use Rattle.unate_synth.specs.Roots.{HasSourcesOnly}
use Rattle.unate_synth.proofs.FreshParts.{fresh_names_behind, fresh_named}
use Rattle.machine_synth.specs.MachineParts.{latch_at, shown_parts, machine_parts, fresh_at}

module _ (inputs outputs : List (List ℕ)) where
  -- so many fresh names after those of inputs and outputs
  named_parts : (fresh : ℕ) → (iterate with_fresh fresh (shown_parts inputs outputs)).names ≡ (inputs ++ outputs) ++ map (fresh_at inputs outputs) (range_with_len 0 fresh)
  named_parts zero = sym (append-nil (inputs ++ outputs))
  named_parts (suc fresh) =
      let rest = fresh_names_behind (free_number (inputs ++ outputs)) fresh 1 (with_fresh (shown_parts inputs outputs)) refl in
      rest.0 ∙ append_assoc (inputs ++ outputs) (fresh_at inputs outputs 0 ∷ []) (map (fresh_at inputs outputs) (range_with_len 1 fresh))

  number_is : (fresh : ℕ) → (fresh_of (iterate with_fresh fresh (shown_parts inputs outputs)) (iterate with_fresh fresh (shown_parts inputs outputs)).fresh).number ≡ free_number (inputs ++ outputs)
  number_is zero = refl
  number_is (suc fresh) =
      let rest = fresh_names_behind (free_number (inputs ++ outputs)) fresh 1 (with_fresh (shown_parts inputs outputs)) refl in
      ap (λ (f : Option FreshNames). (fresh_of (iterate with_fresh (suc fresh) (shown_parts inputs outputs)) f).number) rest.1

  next_is : (fresh : ℕ) → (fresh_of (iterate with_fresh fresh (shown_parts inputs outputs)) (iterate with_fresh fresh (shown_parts inputs outputs)).fresh).next ≡ fresh
  next_is zero = refl
  next_is (suc fresh) =
      let rest = fresh_names_behind (free_number (inputs ++ outputs)) fresh 1 (with_fresh (shown_parts inputs outputs)) refl in
      ap (λ (f : Option FreshNames). (fresh_of (iterate with_fresh (suc fresh) (shown_parts inputs outputs)) f).next) rest.1 ∙ omega arith

  module _ (count word fresh : ℕ) (p : PartsOf) (is : p ≡ machine_parts inputs outputs count word fresh) where
    pub parts_names : p.names ≡ (inputs ++ outputs) ++ map (fresh_at inputs outputs) (range_with_len 0 fresh)
    parts_names = ap (λ (q : PartsOf). q.names) is ∙ named_parts fresh

    -- a fresh name over the parts has the number of those over inputs and outputs
    pub parts_number : (fresh_of p p.fresh).number ≡ free_number (inputs ++ outputs)
    parts_number = ap (λ (q : PartsOf). (fresh_of q q.fresh).number) is ∙ number_is fresh

    -- and the count that comes next
    pub parts_next : (fresh_of p p.fresh).next ≡ fresh
    parts_next = ap (λ (q : PartsOf). (fresh_of q q.fresh).next) is ∙ next_is fresh

    pub names_counted : length p.names ≡ length inputs + length outputs + fresh
    names_counted =
        omega (arith, ap length parts_names, length-append (inputs ++ outputs) (map (fresh_at inputs outputs) (range_with_len 0 fresh)), length-append inputs outputs, length-map-range_with_len (fresh_at inputs outputs) 0 fresh)

    pub parts_inputs : p.named.inputs ≡ inputs
    parts_inputs = ap (λ (q : PartsOf). q.named.inputs) is ∙ ap (λ (N : Named). N.inputs) (fresh_named fresh (shown_parts inputs outputs))

    pub parts_model : p.named.model ≡ (shown_parts inputs outputs).named.model
    parts_model = ap (λ (q : PartsOf). q.named.model) is ∙ ap (λ (N : Named). N.model) (fresh_named fresh (shown_parts inputs outputs))

    nodeless : p.named.nodes ≡ []
    nodeless = ap (λ (q : PartsOf). q.named.nodes) is ∙ ap (λ (N : Named). N.nodes) (fresh_named fresh (shown_parts inputs outputs))

    nothing_shown : p.named.outputs ≡ []
    nothing_shown = ap (λ (q : PartsOf). q.named.outputs) is ∙ ap (λ (N : Named). N.outputs) (fresh_named fresh (shown_parts inputs outputs))

    -- the latches in order
    pub parts_latches : p.named.latches ≡ map (latch_at p.names (length inputs + length outputs) count word) (range_with_len 0 count)
    parts_latches =
        ap (λ (q : PartsOf). q.named.latches) is
        ∙ ap (λ (N : Named). N.latches ++ map (latch_at (iterate with_fresh fresh (shown_parts inputs outputs)).names (length inputs + length outputs) count word) (range_with_len 0 count)) (fresh_named fresh (shown_parts inputs outputs))
        ∙ ap (λ (q : PartsOf). map (latch_at q.names (length inputs + length outputs) count word) (range_with_len 0 count)) (sym is)

    pub latches_counted : length p.named.latches ≡ count
    latches_counted = ap length parts_latches ∙ length-map-range_with_len (latch_at p.names (length inputs + length outputs) count word) 0 count

    -- the text of the name with a number after inputs and outputs
    pub fresh_there : (k : ℕ) → k < fresh → text_at p.names (length inputs + length outputs + k) ≡ fresh_at inputs outputs k
    fresh_there k low =
        ap₂ text_at parts_names (let e : length inputs + length outputs + k ≡ length (inputs ++ outputs) + k = omega (arith, length-append inputs outputs) in e)
        ∙ get_or-append-add (inputs ++ outputs) (map (fresh_at inputs outputs) (range_with_len 0 fresh)) k []
        ∙ get_or-map-range_with_len (fresh_at inputs outputs) 0 fresh k k [] low (omega arith)

    -- names in a row among them
    pub row_texts : (names : List Name) (first from many : ℕ) → names ≡ map numbered (range_with_len first many) → first ≡ length inputs + length outputs + from → from + many ≤ fresh
        → texts_of p.names names ≡ map (fresh_at inputs outputs) (range_with_len from many)
    row_texts names first from many are at few =
        let sized : length names ≡ many = fresh_sized names first many are in
        let one : length (texts_of p.names names) ≡ many = length-map names (text_of p.names) ∙ sized in
        let other : length (map (fresh_at inputs outputs) (range_with_len from many)) ≡ many = length-map-range_with_len (fresh_at inputs outputs) from many in
        ext_get_or [] (texts_of p.names names) (map (fresh_at inputs outputs) (range_with_len from many)) (one ∙ sym other)
        (λ k h.
        let low : k < many = omega (arith, h, one) in
        get_or-map (text_of p.names) names k (numbered 0) [] (omega (arith, low, sized))
        ∙ ap (λ (list : List Name). text_of p.names (slice_index_or list k (numbered 0))) are
        ∙ ap (text_of p.names) (get_or-map-range_with_len numbered first many k (first + k) (numbered 0) low refl)
        ∙ ap (text_at p.names) (let e : first + k ≡ length inputs + length outputs + (from + k) = omega (arith, at) in e)
        ∙ fresh_there (from + k) (omega (arith, low, few))
        ∙ sym (get_or-map-range_with_len (fresh_at inputs outputs) from many k (from + k) [] low refl))

    -- the names of outputs
    pub output_texts : (names : List Name) → names ≡ map numbered (range_with_len (length inputs) (length outputs)) → texts_of p.names names ≡ outputs
    output_texts names are =
        let sized : length names ≡ length outputs = fresh_sized names (length inputs) (length outputs) are in
        let one : length (texts_of p.names names) ≡ length outputs = length-map names (text_of p.names) ∙ sized in
        ext_get_or [] (texts_of p.names names) outputs one
        (λ k h.
        let low : k < length outputs = omega (arith, h, one) in
        get_or-map (text_of p.names) names k (numbered 0) [] (omega (arith, low, sized))
        ∙ ap (λ (list : List Name). text_of p.names (slice_index_or list k (numbered 0))) are
        ∙ ap (text_of p.names) (get_or-map-range_with_len numbered (length inputs) (length outputs) k (length inputs + k) (numbered 0) low refl)
        ∙ ap (λ (list : List (List ℕ)). text_at list (length inputs + k)) parts_names
        ∙ get_or_append_left (inputs ++ outputs) (map (fresh_at inputs outputs) (range_with_len 0 fresh)) [] (length inputs + k) (omega (arith, low, length-append inputs outputs))
        ∙ get_or-append-add inputs outputs k [])

    -- what the latches give are the first fresh names
    pub outs_are : count ≤ fresh → latch_outs p.named ≡ map (fresh_at inputs outputs) (range_with_len 0 count)
    outs_are few =
        let one : length (latch_outs p.named) ≡ count = length-map p.named.latches (λ (l : NamedLatch). l.out) ∙ latches_counted in
        let other : length (map (fresh_at inputs outputs) (range_with_len 0 count)) ≡ count = length-map-range_with_len (fresh_at inputs outputs) 0 count in
        ext_get_or [] (latch_outs p.named) (map (fresh_at inputs outputs) (range_with_len 0 count)) (one ∙ sym other)
        (λ k h.
        let low : k < count = omega (arith, h, one) in
        let latch : NamedLatch = latch_at p.names (length inputs + length outputs) count word k in
        get_or-map (λ (l : NamedLatch). l.out) p.named.latches k latch [] (omega (arith, low, latches_counted))
        ∙ ap (λ (list : List NamedLatch). (slice_index_or list k latch).out) parts_latches
        ∙ ap (λ (l : NamedLatch). l.out) (get_or-map-range_with_len (latch_at p.names (length inputs + length outputs) count word) 0 count k k latch low (omega arith))
        ∙ fresh_there k (omega (arith, low, few))
        ∙ sym (get_or-map-range_with_len (fresh_at inputs outputs) 0 count k k [] low (omega arith)))

    -- the inputs' names and those of what latches give among the parts' names
    pub inputs_front : take (length inputs) p.names ≡ inputs
    inputs_front =
        ap (take (length inputs)) (parts_names ∙ append_assoc inputs outputs (map (fresh_at inputs outputs) (range_with_len 0 fresh)))
        ∙ take-append-le (length inputs) inputs (outputs ++ map (fresh_at inputs outputs) (range_with_len 0 fresh)) (omega arith) ∙ take_all (length inputs) inputs (omega arith)

    pub outs_middle : count ≤ fresh → take count (drop (length inputs + length outputs) p.names) ≡ map (fresh_at inputs outputs) (range_with_len 0 count)
    outs_middle few =
        let left : length (drop (length inputs + length outputs) p.names) ≡ length p.names - (length inputs + length outputs) = length-drop {A = List ℕ} (length inputs + length outputs) p.names in
        let one : length (take count (drop (length inputs + length outputs) p.names)) ≡ count =
        length-take-le {A = List ℕ} count (drop (length inputs + length outputs) p.names) (omega (arith, left, names_counted, few)) in
        let other : length (map (fresh_at inputs outputs) (range_with_len 0 count)) ≡ count = length-map-range_with_len (fresh_at inputs outputs) 0 count in
        ext_get_or [] (take count (drop (length inputs + length outputs) p.names)) (map (fresh_at inputs outputs) (range_with_len 0 count)) (one ∙ sym other)
        (λ k h.
        let low : k < count = omega (arith, h, one) in
        get_or-take count (drop (length inputs + length outputs) p.names) k [] low ∙ get_or-drop (length inputs + length outputs) p.names k []
        ∙ fresh_there k (omega (arith, low, few))
        ∙ sym (get_or-map-range_with_len (fresh_at inputs outputs) 0 count k k [] low (omega arith)))

    -- nothing is driven but inputs and what the latches give
    pub begun : count ≤ fresh → IsNumbering p.names → (G : GateNetwork) → length inputs ≡ G.inputs → count ≡ G.states
        → HasSourcesOnly (record { inputs = length inputs; first = length inputs + length outputs; latches = count }) p G
    begun few distinct G known states = record {
      inputs = ap length parts_inputs ∙ known;
      latches = latches_counted ∙ states;
      inputs_named = known;
      latches_named = states;
      behind = λ some. omega arith;
      nodeless = nodeless;
      nothing_shown = nothing_shown;
      driven =
          ap₂ (λ (xs ys : List (List ℕ)). xs ++ ys) (ap₂ (λ (xs ys : List (List ℕ)). xs ++ ys) (parts_inputs ∙ sym inputs_front) (outs_are few ∙ sym (outs_middle few))) (ap (λ ns. map (λ (n : NamedNode). n.out) ns) nodeless)
          ∙ append-nil (take (length inputs) p.names ++ take count (drop (length inputs + length outputs) p.names));
      distinct = distinct;
    }
