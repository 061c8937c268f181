-- Each place of a machine's word has a node of its own.
use Rattle.std.proofs.Common.{◌≡◌, ℕ, ◌+◌, ◌*◌, ◌<◌, ◌≤◌, ◌⊎◌, inl, inr, true, false, ◌||◌, List, [], ◌∷◌, ◌++◌, map, take, drop, length, slice_index, All, Contains, refl, sym, ◌∙◌, ap, ap₂, subst, arith, true≢false}
use Rattle.std.specs.Str.{bytes_eq}
use Rattle.std.specs.List.{range_with_len}
use Rattle.std.proofs.lemmas.List.{length-map, map-append, get_or-map, get_or_default}
use Rattle.std.proofs.lemmas.List.Elements.{All-from_get_or, All-get_or}
use Rattle.std.proofs.lemmas.List.Folds.{list_any-append}
use Rattle.fault_secure.specs.CodePlan.{CodePlan, monitored}
use Rattle.tsc_net.specs.Named.{latch_outs}
use Rattle.tsc_net.specs.Names.{text_at, has_text, place_of_text, IsNumbering}
use Rattle.tsc_net.specs.NetlistOf.{NetlistOf}
use Rattle.tsc_net.specs.Parts.{PartsOf}
use Rattle.tsc_net.specs.PartsView.{text_of, texts_of}
use Rattle.tsc_net.specs.declared.ids.Name.{Name}
use Rattle.tsc_net.proofs.NameLemmas.{has_text_at, text_at_place}
use Rattle.net_building.specs.Names.{numbered}
use Rattle.unate_synth.specs.Composed.{HasPartsOf}
use Rattle.unate_synth.specs.Roots.{IsSourceNumber}
use Rattle.unate_synth.proofs.RootLemmas.{stretch_apart}
use Rattle.machine_synth.specs.MachineNetlist.{HasOwnNodes}
use Rattle.machine_synth.specs.MachineParts.{machine_parts, hidden_texts}
use Rattle.machine_synth.proofs.MachineTexts.{row_texts, output_texts, parts_inputs, outs_are, inputs_front, outs_middle}
use Rattle.machine_synth.proofs.MachineWord.{IsNumberedWord, check_names, read_names, numbers_of, word_apart, word_distinct, word_low, number_at_place}
use Rattle.tsc_bits.proofs.Lists.{all_left}

-- the word's texts, over names that have the numbers of its places
module _ (inputs outputs : List (List ℕ)) (n word count : ℕ) (p : PartsOf) (is : p ≡ machine_parts inputs outputs n word (2 * n + count + 2)) (shown behind : List Name)
    (are : IsNumberedWord inputs outputs n count shown behind) where
  pub behind_texts : texts_of p.names behind ≡ hidden_texts inputs outputs n count
  behind_texts =
      ap (texts_of p.names) are.joined ∙ map-append (text_of p.names) (check_names inputs outputs n count) (read_names inputs outputs n)
      ∙ ap₂ (λ (xs ys : List (List ℕ)). xs ++ ys)
      (row_texts inputs outputs n word (2 * n + count + 2) p is (check_names inputs outputs n count) (length inputs + length outputs + n + n) (2 * n) count refl (omega arith) (omega arith))
      (row_texts inputs outputs n word (2 * n + count + 2) p is (read_names inputs outputs n) (length inputs + length outputs + n) n n refl refl (omega arith))

  pub word_texts : texts_of p.names (shown ++ behind) ≡ outputs ++ hidden_texts inputs outputs n count
  word_texts =
      map-append (text_of p.names) shown behind
      ∙ ap₂ (λ (xs ys : List (List ℕ)). xs ++ ys) (output_texts inputs outputs n word (2 * n + count + 2) p is shown are.shown_are) behind_texts

module _ (inputs outputs : List (List ℕ)) (n word count : ℕ) (N : NetlistOf) (P : CodePlan) (distinct : IsNumbering (machine_parts inputs outputs n word (2 * n + count + 2)).names)
    (first second : List ℕ) (c : HasPartsOf (machine_parts inputs outputs n word (2 * n + count + 2)) outputs (hidden_texts inputs outputs n count) first second N)
    (watched : monitored N.circuit P ≡ map (place_of_text N.names) (outputs ++ hidden_texts inputs outputs n count)) where
  p : PartsOf
  p = machine_parts inputs outputs n word (2 * n + count + 2)

  shown : List Name
  shown = map numbered (range_with_len (length inputs) (length outputs))

  behind : List Name
  behind = check_names inputs outputs n count ++ read_names inputs outputs n

  names : List Name
  names = shown ++ behind

  are : IsNumberedWord inputs outputs n count shown behind
  unfolding shown behind
  are = record { shown_are = refl; joined = refl }

  texts : List (List ℕ)
  texts = outputs ++ hidden_texts inputs outputs n count

  texts_are : texts_of p.names names ≡ texts
  unfolding p shown behind names texts
  texts_are = word_texts inputs outputs n word count (machine_parts inputs outputs n word (2 * n + count + 2)) refl _ _ are

  counted : length names ≡ length texts
  counted = sym (length-map names (text_of p.names)) ∙ ap length texts_are

  text_is : (k : ℕ) → k < length texts → text_at texts k ≡ text_at p.names (slice_index (numbers_of names) k)
  text_is k low =
      ap (λ (list : List (List ℕ)). text_at list k) (sym texts_are)
      ∙ get_or-map (text_of p.names) names k (numbered 0) [] (omega (arith, low, counted))
      ∙ ap (text_at p.names) (number_at_place names k (omega (arith, low, counted)))

  number_low : (k : ℕ) → k < length texts → slice_index (numbers_of names) k < length p.names
  unfolding p shown behind names
  number_low k low =
      All-get_or (λ m. m < length (machine_parts inputs outputs n word (2 * n + count + 2)).names) (numbers_of names) k 0 (omega (arith, low, counted, length-map names (λ (name : Name). name.number)))
      (word_low inputs outputs n word count (machine_parts inputs outputs n word (2 * n + count + 2)) refl _ _ are)

  apart_at : (k : ℕ) → k < length texts → IsSourceNumber (record { inputs = length inputs; first = length inputs + length outputs; latches = n }) (slice_index (numbers_of names) k) → ⊥
  unfolding shown behind names
  apart_at k low =
      All-get_or (λ m. IsSourceNumber (record { inputs = length inputs; first = length inputs + length outputs; latches = n }) m → ⊥) (numbers_of names) k 0 (omega (arith, low, counted, length-map names (λ (name : Name). name.number)))
      (word_apart inputs outputs n word count _ _ are)

  -- no text of the word is a source's
  no_source : (k : ℕ) → k < length texts → Contains ((machine_parts inputs outputs n word (2 * n + count + 2)).named.inputs ++ latch_outs (machine_parts inputs outputs n word (2 * n + count + 2)).named) (text_at texts k) → ⊥
  unfolding p
  no_source k low has =
      let q = machine_parts inputs outputs n word (2 * n + count + 2) in
      let m = slice_index (numbers_of names) k in
      let no_input : has_text (take (length inputs) q.names) (text_at q.names m) ≡ false
      = stretch_apart q.names 0 (length inputs) m distinct (number_low k low) (λ h. apart_at k low (inl (let b = h.1 in omega arith))) in
      let no_latch : has_text (take n (drop (length inputs + length outputs) q.names)) (text_at q.names m) ≡ false
      = stretch_apart q.names (length inputs + length outputs) n m distinct (number_low k low) (λ h. apart_at k low (inr h)) in
      let sources : q.named.inputs ++ latch_outs q.named ≡ take (length inputs) q.names ++ take n (drop (length inputs + length outputs) q.names)
      = ap₂ (λ (xs ys : List (List ℕ)). xs ++ ys) (parts_inputs inputs outputs n word (2 * n + count + 2) q refl ∙ sym (inputs_front inputs outputs n word (2 * n + count + 2) q refl))
      (outs_are inputs outputs n word (2 * n + count + 2) q refl (omega arith) ∙ sym (outs_middle inputs outputs n word (2 * n + count + 2) q refl (omega arith))) in
      let there : has_text (q.named.inputs ++ latch_outs q.named) (text_at texts k) ≡ true
      = has_text_at (q.named.inputs ++ latch_outs q.named) (text_at texts k) has.0 has.1 (get_or_default (q.named.inputs ++ latch_outs q.named) has.0 [] (text_at texts k) has.1 ∙ has.2) in
      let not_ : has_text (q.named.inputs ++ latch_outs q.named) (text_at texts k) ≡ false
      = ap₂ has_text sources (text_is k low)
      ∙ list_any-append (bytes_eq (text_at q.names m)) (take (length inputs) q.names) (take n (drop (length inputs + length outputs) q.names))
      ∙ ap₂ (λ a b. a || b) no_input no_latch in
      true≢false (sym there ∙ not_)

  all_named : All (λ text. has_text N.names text ≡ true) texts
  unfolding texts
  all_named = all_left (λ text. has_text N.names text ≡ true) (outputs ++ hidden_texts inputs outputs n count) (first ∷ (second ∷ [])) c.named

  net_at : (k : ℕ) → k < length texts → slice_index (monitored N.circuit P) k ≡ place_of_text N.names (text_at texts k)
  unfolding texts
  net_at k low = ap (λ (list : List ℕ). slice_index list k) watched ∙ get_or-map (place_of_text N.names) (outputs ++ hidden_texts inputs outputs n count) k [] 0 low

  watched_counted : length (monitored N.circuit P) ≡ length texts
  unfolding texts
  watched_counted = ap length watched ∙ length-map (outputs ++ hidden_texts inputs outputs n count) (place_of_text N.names)

  driven_at : (k : ℕ) → k < length texts → N.circuit.inputs + length N.circuit.latches ≤ place_of_text N.names (text_at texts k)
  unfolding texts
  driven_at k low = by (All-get_or (λ text. Contains ((machine_parts inputs outputs n word (2 * n + count + 2)).named.inputs ++ latch_outs (machine_parts inputs outputs n word (2 * n + count + 2)).named) text ⊎ (N.circuit.inputs + length N.circuit.latches ≤ place_of_text N.names text)) (outputs ++ hidden_texts inputs outputs n count) k [] low c.word)
    where
      by : Contains ((machine_parts inputs outputs n word (2 * n + count + 2)).named.inputs ++ latch_outs (machine_parts inputs outputs n word (2 * n + count + 2)).named) (text_at (outputs ++ hidden_texts inputs outputs n count) k) ⊎ (N.circuit.inputs + length N.circuit.latches ≤ place_of_text N.names (text_at (outputs ++ hidden_texts inputs outputs n count) k))
          → N.circuit.inputs + length N.circuit.latches ≤ place_of_text N.names (text_at (outputs ++ hidden_texts inputs outputs n count) k)
      by (inl has) = absurd (no_source k low has)
      by (inr high) = high

  same_place : (a b : ℕ) → a < length texts → b < length texts → place_of_text N.names (text_at texts a) ≡ place_of_text N.names (text_at texts b) → a ≡ b
  unfolding p shown behind names
  same_place a b low lower same =
      let one = text_at_place N.names (text_at texts a) (All-get_or (λ text. has_text N.names text ≡ true) texts a [] low all_named) in
      let other = text_at_place N.names (text_at texts b) (All-get_or (λ text. has_text N.names text ≡ true) texts b [] lower all_named) in
      let text_same : text_at texts a ≡ text_at texts b = sym one ∙ ap (text_at N.names) same ∙ other in
      let number_same = number_equal a b low lower (sym (text_is a low) ∙ text_same ∙ text_is b lower) in
      word_distinct inputs outputs n word count _ _ are a b (omega (arith, low, counted, length-map names (λ (name : Name). name.number))) (omega (arith, lower, counted, length-map names (λ (name : Name). name.number))) number_same
    where
      number_equal : (a b : ℕ) → a < length texts → b < length texts → text_at p.names (slice_index (numbers_of names) a) ≡ text_at p.names (slice_index (numbers_of names) b) → slice_index (numbers_of names) a ≡ slice_index (numbers_of names) b
      number_equal a b low lower same = distinct.distinct (slice_index (numbers_of names) a) (slice_index (numbers_of names) b) (number_low a low) (number_low b lower) same

  pub own_nodes : HasOwnNodes N.circuit P
  own_nodes = record {
    driven = All-from_get_or (λ net. N.circuit.inputs + length N.circuit.latches ≤ net) (monitored N.circuit P) 0
        (λ k low. let h : k < length texts = omega (arith, low, watched_counted) in subst (λ net. N.circuit.inputs + length N.circuit.latches ≤ net) (sym (net_at k h)) (driven_at k h));
    apart = λ a b less low same.
        let lower : b < length texts = omega (arith, low, watched_counted) in
        let h : a < length texts = omega (arith, less, lower) in
        let equal : a ≡ b = same_place a b h lower (sym (net_at a h) ∙ same ∙ net_at b lower) in
        omega (arith, less, equal);
  }
