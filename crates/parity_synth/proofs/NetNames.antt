-- The names of a parity netlist: each stands at the place of its net, and no two are the same.
use Rattle.std.proofs.Common.{◌≡◌, ℕ, zero, suc, ◌+◌, ◌-◌, ◌^◌, ◌<◌, inl, inr, false, List, [], ◌∷◌, ◌++◌, take, length, slice_index, Some, sym, ◌∙◌, ap, subst, arith, append_assoc, length-append, length-take-le, get_or-take, true≢false}
use Rattle.std.proofs.lemmas.Bool.{cases_lt}
use Rattle.std.proofs.lemmas.List.{append-nil, length-map, get_or-map, get_or_append_left, get_or-append-add}
use Rattle.std.proofs.lemmas.List.FromFn.{length-map-range_with_len, get_or-map-range_with_len, map-range_with_len_more}
use Rattle.fault_secure.specs.Circuit.{node_net}
use Rattle.tsc_net.specs.Names.{text_at, has_text, place_of_text, IsNumbering}
use Rattle.tsc_net.specs.NetlistOf.{NetlistOf, IsBuilt}
use Rattle.tsc_net.specs.Parts.{fresh_text, free_number}
use Rattle.tsc_net.specs.PartsView.{IsFreshUnused}
use Rattle.tsc_net.specs.declared.fresh.FreshPart.{FreshPart}
use Rattle.tsc_net.proofs.FreshNumbers.{free-isnt-taken, unused-first, unused-next, next-is-new}
use Rattle.tsc_net.proofs.NameLemmas.{has_text_at}
use Rattle.net_building.proofs.NamedNets.{place_at}
use Rattle.parity_code.specs.PredictorSteps.{Rise}
use Rattle.parity_synth.specs.CheckedNet.{cover_names, fresh_texts, names_with}
use Rattle.parity_synth.proofs.FreshOrder.{fresh_from}

-- the fresh names with a number, so many of which were given
fresh_part : ℕ → ℕ → FreshPart
fresh_part number next = record { number = number; next = next }

module _ (S : NetlistOf) (checked : IsBuilt S) where
  -- after the names of the source and some fresh ones, the later fresh ones are unused
  unused : (n : ℕ) → n < 2 ^ 32 → IsFreshUnused (S.names ++ fresh_from (free_number S.names) 0 n) (Some (fresh_part (free_number S.names) n))
  unfolding fresh_part
  unused zero low =
      let few : length S.names < 2 ^ 32 = (let s = checked.sized in let f = checked.few in omega (arith, s, f)) in
      subst (λ (list : List (List ℕ)). IsFreshUnused list (Some (fresh_part (free_number S.names) 0))) (sym (append-nil S.names))
      (unused-first S.names (fresh_part (free_number S.names) 0) (free-isnt-taken S.names few))
  unused (suc n) low =
      let more : S.names ++ fresh_from (free_number S.names) 0 (n + 1) ≡ (S.names ++ fresh_from (free_number S.names) 0 n) ++ fresh_text (free_number S.names) n ∷ []
      = ap (λ (list : List (List ℕ)). S.names ++ list) (map-range_with_len_more (fresh_text (free_number S.names)) 0 n n (omega arith))
      ∙ sym (append_assoc S.names (fresh_from (free_number S.names) 0 n) (fresh_text (free_number S.names) n ∷ [])) in
      let e : n + 1 ≡ suc n = omega arith in
      subst (λ (m : ℕ). IsFreshUnused (S.names ++ fresh_from (free_number S.names) 0 m) (Some (fresh_part (free_number S.names) m))) e
      (subst (λ (list : List (List ℕ)). IsFreshUnused list (Some (fresh_part (free_number S.names) (n + 1)))) (sym more)
      (unused-next (S.names ++ fresh_from (free_number S.names) 0 n) (fresh_part (free_number S.names) n) (omega arith) (unused n (omega arith))))

  -- a fresh name is none of the source, and none of the fresh ones before it
  is_new : (n : ℕ) → n < 2 ^ 32 → has_text (S.names ++ fresh_from (free_number S.names) 0 n) (fresh_text (free_number S.names) n) ≡ false
  unfolding fresh_part
  is_new n low = next-is-new (S.names ++ fresh_from (free_number S.names) 0 n) (fresh_part (free_number S.names) n) low (unused n low)

  -- no name of the source is a fresh one
  no_name : (n m : ℕ) → n < 2 ^ 32 → m < length S.names → text_at S.names m ≡ fresh_text (free_number S.names) n → ⊥
  no_name n m low there same =
      let front : text_at (S.names ++ fresh_from (free_number S.names) 0 n) m ≡ text_at S.names m = get_or_append_left S.names (fresh_from (free_number S.names) 0 n) [] m there in
      true≢false (sym (has_text_at (S.names ++ fresh_from (free_number S.names) 0 n) (fresh_text (free_number S.names) n) m (omega (arith, length-append S.names (fresh_from (free_number S.names) 0 n))) (front ∙ same)) ∙ is_new n low)

  -- no fresh name is one with a lower count
  fresh_apart : (k n : ℕ) → n < 2 ^ 32 → k < n → fresh_text (free_number S.names) k ≡ fresh_text (free_number S.names) n → ⊥
  fresh_apart k n low before same =
      let back : text_at (S.names ++ fresh_from (free_number S.names) 0 n) (length S.names + k) ≡ fresh_text (free_number S.names) k
      = get_or-append-add S.names (fresh_from (free_number S.names) 0 n) k [] ∙ get_or-map-range_with_len (fresh_text (free_number S.names)) 0 n k k [] before (omega arith) in
      true≢false (sym (has_text_at (S.names ++ fresh_from (free_number S.names) 0 n) (fresh_text (free_number S.names) n) (length S.names + k)
      (omega (arith, length-append S.names (fresh_from (free_number S.names) 0 n), length-map-range_with_len (fresh_text (free_number S.names)) 0 n)) (back ∙ same)) ∙ is_new n low)

  module _ (kept : List ℕ) (rise : Rise kept) (within : (k : ℕ) → k < length kept → slice_index kept k < length S.circuit.nodes) (count : ℕ) (few : count < 2 ^ 32) where
    -- so many names of inputs
    input_count : length (take S.circuit.inputs S.names) ≡ S.circuit.inputs
    input_count = length-take-le {A = List ℕ} S.circuit.inputs S.names (let s = checked.sized in omega (arith, s))

    -- so many names of covers
    cover_count : length (cover_names S kept) ≡ length kept
    cover_count = length-map kept (λ place. text_at S.names (node_net S.circuit place))

    -- so many of both
    front_count : length (take S.circuit.inputs S.names ++ cover_names S kept) ≡ S.circuit.inputs + length kept
    front_count = omega (arith, length-append (take S.circuit.inputs S.names) (cover_names S kept), input_count, cover_count)

    -- so many fresh names
    fresh_count : length (fresh_texts (free_number S.names) count) ≡ count
    fresh_count = length-map-range_with_len (fresh_text (free_number S.names)) 0 count

    -- so many names
    pub names_counted : length (names_with S kept count) ≡ S.circuit.inputs + length kept + count
    names_counted = omega (arith, length-append (take S.circuit.inputs S.names ++ cover_names S kept) (fresh_texts (free_number S.names) count), front_count, fresh_count)

    -- the names at the places of the inputs are theirs in the source
    at_input : (i : ℕ) → i < S.circuit.inputs → text_at (names_with S kept count) i ≡ text_at S.names i
    at_input i low =
        get_or_append_left (take S.circuit.inputs S.names ++ cover_names S kept) (fresh_texts (free_number S.names) count) [] i (omega (arith, front_count))
        ∙ get_or_append_left (take S.circuit.inputs S.names) (cover_names S kept) [] i (omega (arith, input_count))
        ∙ get_or-take S.circuit.inputs S.names i [] low

    -- those at the places of the covers
    at_cover : (k : ℕ) → k < length kept → text_at (names_with S kept count) (S.circuit.inputs + k) ≡ text_at S.names (node_net S.circuit (slice_index kept k))
    at_cover k low =
        get_or_append_left (take S.circuit.inputs S.names ++ cover_names S kept) (fresh_texts (free_number S.names) count) [] (S.circuit.inputs + k) (omega (arith, front_count))
        ∙ ap (λ (n : ℕ). text_at (take S.circuit.inputs S.names ++ cover_names S kept) (n + k)) (sym input_count)
        ∙ get_or-append-add (take S.circuit.inputs S.names) (cover_names S kept) k []
        ∙ get_or-map (λ place. text_at S.names (node_net S.circuit place)) kept k 0 [] low

    -- and those at the places of the fresh ones
    at_fresh : (k : ℕ) → k < count → text_at (names_with S kept count) (S.circuit.inputs + length kept + k) ≡ fresh_text (free_number S.names) k
    at_fresh k low =
        ap (λ (n : ℕ). text_at (names_with S kept count) (n + k)) (sym front_count)
        ∙ get_or-append-add (take S.circuit.inputs S.names ++ cover_names S kept) (fresh_texts (free_number S.names) count) k []
        ∙ get_or-map-range_with_len (fresh_text (free_number S.names)) 0 count k k [] low (omega arith)

    -- the net of a kept cover is one of the source
    cover_net : (k : ℕ) → k < length kept → node_net S.circuit (slice_index kept k) < length S.names
    cover_net k low = let w = within k low in let s = checked.sized in omega (arith, w, s)

    -- and so is an input
    input_net : (i : ℕ) → i < S.circuit.inputs → i < length S.names
    input_net i low = let s = checked.sized in omega (arith, s)

    -- a name before a cover's is another
    cover_apart : (a k : ℕ) → a < S.circuit.inputs + k → k < length kept → text_at (names_with S kept count) a ≡ text_at (names_with S kept count) (S.circuit.inputs + k) → ⊥
    cover_apart a k before low same = elim (cases_lt a S.circuit.inputs) [
      | inl input ↦ (
          let e : a ≡ node_net S.circuit (slice_index kept k) = checked.numbering.distinct a (node_net S.circuit (slice_index kept k)) (input_net a input) (cover_net k low) (sym (at_input a input) ∙ same ∙ at_cover k low) in
          omega arith)
      | inr cover ↦ (
          let is : a ≡ S.circuit.inputs + (a - S.circuit.inputs) = omega arith in
          let here : a - S.circuit.inputs < length kept = omega arith in
          let e : node_net S.circuit (slice_index kept (a - S.circuit.inputs)) ≡ node_net S.circuit (slice_index kept k)
          = checked.numbering.distinct (node_net S.circuit (slice_index kept (a - S.circuit.inputs))) (node_net S.circuit (slice_index kept k)) (cover_net (a - S.circuit.inputs) here) (cover_net k low)
          (sym (at_cover (a - S.circuit.inputs) here) ∙ ap (text_at (names_with S kept count)) (sym is) ∙ same ∙ at_cover k low) in
          let r : slice_index kept (a - S.circuit.inputs) < slice_index kept k = rise (a - S.circuit.inputs) k (omega arith) low in
          omega arith)
    ]

    -- a name before a fresh one is another
    last_apart : (a k : ℕ) → a < S.circuit.inputs + length kept + k → k < count → text_at (names_with S kept count) a ≡ text_at (names_with S kept count) (S.circuit.inputs + length kept + k) → ⊥
    last_apart a k before low same = elim (cases_lt a S.circuit.inputs) [
      | inl input ↦ no_name k a (omega arith) (input_net a input) (sym (at_input a input) ∙ same ∙ at_fresh k low)
      | inr other ↦ elim (cases_lt a (S.circuit.inputs + length kept)) [
        | inl cover ↦ (
            let is : a ≡ S.circuit.inputs + (a - S.circuit.inputs) = omega arith in
            let here : a - S.circuit.inputs < length kept = omega arith in
            no_name k (node_net S.circuit (slice_index kept (a - S.circuit.inputs))) (omega arith) (cover_net (a - S.circuit.inputs) here)
            (sym (at_cover (a - S.circuit.inputs) here) ∙ ap (text_at (names_with S kept count)) (sym is) ∙ same ∙ at_fresh k low))
        | inr fresh ↦ (
            let is : a ≡ S.circuit.inputs + length kept + (a - (S.circuit.inputs + length kept)) = omega arith in
            let here : a - (S.circuit.inputs + length kept) < k = omega arith in
            fresh_apart (a - (S.circuit.inputs + length kept)) k (omega arith) here
            (sym (at_fresh (a - (S.circuit.inputs + length kept)) (omega arith)) ∙ ap (text_at (names_with S kept count)) (sym is) ∙ same ∙ at_fresh k low))
      ]
    ]

    -- a name before any other is another
    names_apart : (a b : ℕ) → a < b → b < length (names_with S kept count) → text_at (names_with S kept count) a ≡ text_at (names_with S kept count) b → ⊥
    names_apart a b before low same = elim (cases_lt b (S.circuit.inputs + length kept)) [
      | inl front ↦ elim (cases_lt b S.circuit.inputs) [
        | inl input ↦ (
            let e : a ≡ b = checked.numbering.distinct a b (input_net a (omega arith)) (input_net b input) (sym (at_input a (omega arith)) ∙ same ∙ at_input b input) in
            omega arith)
        | inr cover ↦ (
            let is : b ≡ S.circuit.inputs + (b - S.circuit.inputs) = omega arith in
            cover_apart a (b - S.circuit.inputs) (omega arith) (omega arith) (same ∙ ap (text_at (names_with S kept count)) is))
      ]
      | inr fresh ↦ (
          let is : b ≡ S.circuit.inputs + length kept + (b - (S.circuit.inputs + length kept)) = omega arith in
          last_apart a (b - (S.circuit.inputs + length kept)) (omega arith) (omega (arith, names_counted, fresh)) (same ∙ ap (text_at (names_with S kept count)) is))
    ]

    -- no two names are the same
    pub names_differ : IsNumbering (names_with S kept count)
    names_differ = record { distinct = both }
      where
        both : (a b : ℕ) → a < length (names_with S kept count) → b < length (names_with S kept count) → text_at (names_with S kept count) a ≡ text_at (names_with S kept count) b → a ≡ b
        both a b ha hb same = elim (cases_lt a b) [
          | inl below ↦ absurd (names_apart a b below hb same)
          | inr above ↦ elim (cases_lt b a) [
            | inl other ↦ absurd (names_apart b a other ha (sym same))
            | inr neither ↦ omega arith
          ]
        ]

    -- the name of an input stands at the place of its net
    pub input_placed : (i : ℕ) → i < S.circuit.inputs → place_of_text (names_with S kept count) (text_at S.names i) ≡ i
    input_placed i low = ap (place_of_text (names_with S kept count)) (sym (at_input i low)) ∙ place_at (names_with S kept count) i names_differ (omega (arith, names_counted))

    -- that of a kept cover
    pub cover_placed : (k : ℕ) → k < length kept → place_of_text (names_with S kept count) (text_at S.names (node_net S.circuit (slice_index kept k))) ≡ S.circuit.inputs + k
    cover_placed k low =
        ap (place_of_text (names_with S kept count)) (sym (at_cover k low)) ∙ place_at (names_with S kept count) (S.circuit.inputs + k) names_differ (omega (arith, names_counted))

    -- and each fresh one
    pub fresh_placed : (k : ℕ) → k < count → place_of_text (names_with S kept count) (fresh_text (free_number S.names) k) ≡ S.circuit.inputs + (length kept + k)
    fresh_placed k low =
        ap (place_of_text (names_with S kept count)) (sym (at_fresh k low))
        ∙ place_at (names_with S kept count) (S.circuit.inputs + length kept + k) names_differ (omega (arith, names_counted)) ∙ omega arith
