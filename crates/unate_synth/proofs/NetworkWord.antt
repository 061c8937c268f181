-- The word of a network's netlist: the names of its outputs, and the first fresh ones for the checks and the rails.
use Rattle.std.proofs.Common.{◌≡◌, ℕ, zero, suc, ◌+◌, ◌-◌, ◌<◌, ◌≤◌, ◌⊎◌, inl, inr, List, [], ◌∷◌, ◌++◌, map, take, length, slice_index, slice_index_or, All, refl, sym, ◌∙◌, ap, subst, arith, append_assoc, length-append}
use Rattle.std.specs.List.{AllZip, range_with_len}
use Rattle.std.proofs.lemmas.Bool.{cases_lt}
use Rattle.std.proofs.lemmas.List.{length-map, get_or-map, get_or_append_left, get_or-append-add, get_or-take, take-append-drop, drop_more, drop_all, length-take-le}
use Rattle.std.proofs.lemmas.List.FromFn.{get_or-map-range_with_len}
use Rattle.std.proofs.lemmas.List.Elements.{All-append, All-get_or}
use Rattle.fault_secure.specs.Circuit.{nets}
use Rattle.tsc_net.specs.NetlistOf.{NetlistOf, IsBuilt}
use Rattle.tsc_net.specs.Parts.{PartsOf}
use Rattle.tsc_net.specs.PartsView.{IsName}
use Rattle.tsc_net.specs.declared.ids.Name.{Name}
use Rattle.gate_net.specs.Gates.{GateNetwork, AreLines, meaning}
use Rattle.gate_net.specs.NetLines.{MeanInputs}
use Rattle.gate_net.specs.Signal.Signal.{Input}
use Rattle.gate_net.specs.declared.line.Line.{Line}
use Rattle.net_writing.specs.Begun.{AreOwnNames}
use Rattle.net_building.specs.Names.{numbered}
use Rattle.net_writing.specs.Names.{name_at}
use Rattle.tsc_bits.specs.Lists.{AreApart}
use Rattle.net_building.proofs.FreshSteps.{fresh_sized, fresh_are_names}
use Rattle.net_writing.proofs.OwnNames.{own_named, outputs_named}
use Rattle.unate_synth.specs.Composed.{IsNamedWord, with_rails}
use Rattle.unate_synth.specs.Roots.{IsSourceNumber}

-- a list of two items more than so many ends in them
pub ends_in_last : {A : Type 0} (xs : List A) (count : ℕ) (d : A) → length xs ≡ count + 2 → take count xs ++ (slice_index_or xs count d ∷ (slice_index_or xs (count + 1) d ∷ [])) ≡ xs
ends_in_last xs count d sized =
    ap (λ ys. take count xs ++ ys)
    (ap (λ ys. slice_index_or xs count d ∷ ys) (ap (λ ys. slice_index_or xs (count + 1) d ∷ ys) (sym (drop_all (count + 1 + 1) xs (omega arith))) ∙ sym (drop_more xs (count + 1) d (omega arith)))
    ∙ sym (drop_more xs count d (omega arith)))
    ∙ take-append-drop count xs

-- what two lists have in common at a place
pub zip_at : {A B : Type 0} (R : A → B → Type 0) (xs : List A) (ys : List B) (k : ℕ) (d : A) (e : B) → AllZip R xs ys → k < length xs → R (slice_index_or xs k d) (slice_index_or ys k e)
zip_at R [] ys k d e zip low = absurd (omega arith)
zip_at R (x ∷ xs) [] k d e zip low = absurd zip
zip_at R (x ∷ xs) (y ∷ ys) zero d e zip low = zip.0
zip_at R (x ∷ xs) (y ∷ ys) (suc k) d e zip low = zip_at R xs ys k d e zip.1 (omega arith)

module _ (S : NetlistOf) (p : PartsOf) (G : GateNetwork) (lines : List Line) (names outputs fresh : List Name) (count : ℕ) (checked : IsBuilt S) (once : AreApart S.circuit.outputs)
    (own : AreOwnNames (nets S.circuit) names) (outputs_are : outputs ≡ map (name_at names) S.circuit.outputs) (fresh_are : fresh ≡ map numbered (range_with_len (nets S.circuit) (count + 2)))
    (long : length p.names ≡ nets S.circuit + (count + 2)) where
  outputs_counted : length outputs ≡ length S.circuit.outputs
  outputs_counted = ap length outputs_are ∙ length-map S.circuit.outputs (name_at names)

  fresh_counted : length fresh ≡ count + 2
  fresh_counted = fresh_sized fresh (nets S.circuit) (count + 2) fresh_are

  -- an output's name has the number of its net
  output_number : (k : ℕ) → k < length outputs → (name_at (outputs ++ fresh) k).number ≡ slice_index S.circuit.outputs k
  output_number k low =
      let within : k < length S.circuit.outputs = omega (arith, low, outputs_counted) in
      ap (λ (name : Name). name.number)
      (get_or_append_left outputs fresh (numbered 0) k low ∙ ap (λ (list : List Name). name_at list k) outputs_are ∙ get_or-map (name_at names) S.circuit.outputs k 0 (numbered 0) within)
      ∙ own.own (slice_index S.circuit.outputs k) (net_low k within)
    where
      net_low : (k : ℕ) → k < length S.circuit.outputs → slice_index S.circuit.outputs k < nets S.circuit
      net_low k within = All-get_or (λ net. net < nets S.circuit) S.circuit.outputs k 0 within checked.closed.outputs

  output_low : (k : ℕ) → k < length outputs → (name_at (outputs ++ fresh) k).number < nets S.circuit
  output_low k low =
      let within : k < length S.circuit.outputs = omega (arith, low, outputs_counted) in
      let net : slice_index S.circuit.outputs k < nets S.circuit = All-get_or (λ net. net < nets S.circuit) S.circuit.outputs k 0 within checked.closed.outputs in
      omega (arith, net, output_number k low)

  -- fresh names have the next numbers
  fresh_number_at : (k : ℕ) → k < count + 2 → (slice_index_or fresh k (numbered 0)).number ≡ nets S.circuit + k
  fresh_number_at k low =
      ap (λ (list : List Name). (slice_index_or list k (numbered 0)).number) fresh_are
      ∙ ap (λ (name : Name). name.number) (get_or-map-range_with_len numbered (nets S.circuit) (count + 2) k (nets S.circuit + k) (numbered 0) low refl)

  fresh_number_behind : (a : ℕ) → length outputs ≤ a → a < length outputs + (count + 2) → (name_at (outputs ++ fresh) a).number ≡ nets S.circuit + (a - length outputs)
  fresh_number_behind a past low =
      ap (λ (n : ℕ). (name_at (outputs ++ fresh) n).number) (let e : a ≡ length outputs + (a - length outputs) = omega (arith, past) in e)
      ∙ ap (λ (name : Name). name.number) (get_or-append-add outputs fresh (a - length outputs) (numbered 0))
      ∙ fresh_number_at (a - length outputs) (omega (arith, past, low))

  total : length (outputs ++ fresh) ≡ length outputs + (count + 2)
  total = omega (arith, length-append outputs fresh, fresh_counted)

  -- no name stands twice
  apart_by : (a b : ℕ) → a < length (outputs ++ fresh) → b < length (outputs ++ fresh) → (name_at (outputs ++ fresh) a).number ≡ (name_at (outputs ++ fresh) b).number
      → (a < length outputs) ⊎ (length outputs ≤ a) → (b < length outputs) ⊎ (length outputs ≤ b) → a ≡ b
  apart_by a b one two same (inl la) (inl lb) = by (cases_lt a b)
    where
      shown : slice_index S.circuit.outputs a ≡ slice_index S.circuit.outputs b
      shown = sym (output_number a la) ∙ same ∙ output_number b lb

      by : (a < b) ⊎ (b ≤ a) → a ≡ b
      by (inl less) = absurd (once a b less (omega (arith, lb, outputs_counted)) shown)
      by (inr more) = by_more (cases_lt b a)
        where
          by_more : (b < a) ⊎ (a ≤ b) → a ≡ b
          by_more (inl less) = absurd (once b a less (omega (arith, la, outputs_counted)) (sym shown))
          by_more (inr least) = omega (arith, more, least)
  apart_by a b one two same (inl la) (inr pb) = absurd (omega (arith, output_low a la, fresh_number_behind b pb (omega (arith, two, total)), same))
  apart_by a b one two same (inr pa) (inl lb) = absurd (omega (arith, output_low b lb, fresh_number_behind a pa (omega (arith, one, total)), same))
  apart_by a b one two same (inr pa) (inr pb) =
      omega (arith, pa, pb, fresh_number_behind a pa (omega (arith, one, total)), fresh_number_behind b pb (omega (arith, two, total)), same)

  module _ (inputs_same : G.inputs ≡ S.circuit.inputs) (within : AreLines G lines) (means : MeanInputs S.circuit G S.circuit.outputs (take (length S.circuit.outputs) lines))
      (counted : length lines ≡ length S.circuit.outputs + count) (inputs : ℕ) (inputs_are : inputs ≡ S.circuit.inputs) where
    all_are : with_rails (outputs ++ take count fresh) (record { first = slice_index_or fresh count (record { number = 0 }); second = slice_index_or fresh (count + 1) (record { number = 0 }) }) ≡ outputs ++ fresh
    all_are =
        append_assoc outputs (take count fresh) (slice_index_or fresh count (record { number = 0 }) ∷ (slice_index_or fresh (count + 1) (record { number = 0 }) ∷ []))
        ∙ ap (λ (list : List Name). outputs ++ list) (ends_in_last fresh count (record { number = 0 }) fresh_counted)

    few : inputs ≤ nets S.circuit
    few = omega (arith, inputs_are)

    low_source : (n : ℕ) → IsSourceNumber (record { inputs = inputs; first = 0; latches = 0 }) n → n < inputs
    low_source n (inl low) = low
    low_source n (inr both) = absurd (omega (arith, both.1))

    taken : length (take count fresh) ≡ count
    taken = length-take-le {A = Name} count fresh (omega (arith, fresh_counted))

    input_line : (place : ℕ) (d : Line) → place < length (outputs ++ take count fresh) → (name_at (outputs ++ take count fresh) place).number < inputs
        → meaning G (slice_index_or lines place d) ≡ Input (name_at (outputs ++ take count fresh) place).number
    input_line place d low small = by (cases_lt place (length outputs))
      where
        number_is : place < length outputs → (name_at (outputs ++ take count fresh) place).number ≡ slice_index S.circuit.outputs place
        number_is shown =
            ap (λ (name : Name). name.number) (get_or_append_left outputs (take count fresh) (numbered 0) place shown ∙ sym (get_or_append_left outputs fresh (numbered 0) place shown)) ∙ output_number place shown

        by : (place < length outputs) ⊎ (length outputs ≤ place) → meaning G (slice_index_or lines place d) ≡ Input (name_at (outputs ++ take count fresh) place).number
        by (inl shown) =
            let there : place < length S.circuit.outputs = omega (arith, shown, outputs_counted) in
            let zipped = zip_at (λ net line. net < S.circuit.inputs → meaning G line ≡ Input net) S.circuit.outputs (take (length S.circuit.outputs) lines) place 0 d means there in
            ap (meaning G) (sym (get_or-take (length S.circuit.outputs) lines place d there))
            ∙ zipped (omega (arith, small, inputs_are, number_is shown)) ∙ ap Input (sym (number_is shown))
        by (inr past) =
            let at : place ≡ length outputs + (place - length outputs) = omega (arith, past) in
            let behind : place - length outputs < count = omega (arith, past, low, length-append outputs (take count fresh), taken) in
            let number : (name_at (outputs ++ take count fresh) place).number ≡ nets S.circuit + (place - length outputs) =
            ap (λ (n : ℕ). (name_at (outputs ++ take count fresh) n).number) at
            ∙ ap (λ (name : Name). name.number) (get_or-append-add outputs (take count fresh) (place - length outputs) (numbered 0) ∙ get_or-take count fresh (place - length outputs) (numbered 0) behind)
            ∙ fresh_number_at (place - length outputs) (omega (arith, behind)) in
            absurd (omega (arith, small, number, few))

    pub network_word : IsNamedWord (record { inputs = inputs; first = 0; latches = 0 }) p G lines (outputs ++ take count fresh)
        (record { first = slice_index_or fresh count (record { number = 0 }); second = slice_index_or fresh (count + 1) (record { number = 0 }) })
    network_word = record {
      sized = omega (arith, counted, outputs_counted, taken, length-append outputs (take count fresh));
      within = within;
      names = subst (All (IsName p.names)) (sym all_are)
          (All-append (IsName p.names) outputs fresh
          (subst (All (IsName p.names)) (sym outputs_are) (outputs_named S.circuit names p.names checked.closed own.sized (own_named (nets S.circuit) names p.names own (omega (arith, long)))))
          (fresh_are_names p.names fresh (nets S.circuit) (count + 2) fresh_are long));
      once = λ a b one two same.
          let number : (k : ℕ) → (name_at (with_rails (outputs ++ take count fresh) (record { first = slice_index_or fresh count (record { number = 0 }); second = slice_index_or fresh (count + 1) (record { number = 0 }) })) k).number ≡ (name_at (outputs ++ fresh) k).number =
          λ k. ap (λ (list : List Name). (name_at list k).number) all_are in
          apart_by a b (subst (λ (list : List Name). a < length list) all_are one) (subst (λ (list : List Name). b < length list) all_are two) (sym (number a) ∙ same ∙ number b)
          (cases_lt a (length outputs)) (cases_lt b (length outputs));
      apart = λ k d low. low_source (slice_index_or (outputs ++ take count fresh) k d).number;
      first_apart = λ source. let low = low_source _ source in omega (arith, low, fresh_number_at count (omega arith), few);
      second_apart = λ source. let low = low_source _ source in omega (arith, low, fresh_number_at (count + 1) (omega arith), few);
      inputs = input_line;
    }
