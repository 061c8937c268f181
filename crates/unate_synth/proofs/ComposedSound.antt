-- The netlist by names of parts to which a word's gates and a checker were written: what it drives, and that it is sound.
use Rattle.std.proofs.Common.{◌≡◌, ℕ, ◌<◌, ◌≤◌, inl, inr, true, List, [], ◌∷◌, ◌++◌, map, length, slice_index_or, All, Contains, Some, sym, ◌∙◌, ap, subst, arith, length-append}
use Rattle.std.proofs.lemmas.Bool.{cases_lt}
use Rattle.std.proofs.lemmas.List.{length-map, map-append, get_or-map, get_or_append_left}
use Rattle.std.proofs.lemmas.List.Elements.{All-append, All-cons, All-nil, All-weaker, All-from_get_or, Contains-append_left, Contains-append_right, Contains-get_or}
use Rattle.tsc_net.specs.Named.{Named, NamedNode, NamedLatch, latch_outs, no_named}
use Rattle.tsc_net.specs.Names.{text_at, has_text, IsNumbering}
use Rattle.tsc_net.specs.NetlistOf.{drivers}
use Rattle.tsc_net.specs.Parts.{PartsOf}
use Rattle.tsc_net.specs.PartsView.{text_of, texts_of}
use Rattle.tsc_net.specs.declared.ids.Name.{Name}
use Rattle.gate_net.specs.declared.line.Line.{Line}
use Rattle.gate_net.specs.Gates.{GateNetwork}
use Rattle.gate_net.specs.Written.{named_at, IsGiven}
use Rattle.gate_net.proofs.Texts.{has_contained, contained_has}
use Rattle.code_checkers.specs.GateList.{GateList}
use Rattle.net_writing.specs.CheckerParts.{with_checker, IsOver, IsCheckerOver}
use Rattle.net_building.specs.Sound.{pins_at, IsLower, IsSound}
use Rattle.net_writing.specs.declared.checker_writing.RailNames.{RailNames}
use Rattle.net_writing.proofs.CheckerShape.{checker_came}
use Rattle.net_writing.proofs.CheckerReads.{IsFedBefore}
use Rattle.net_writing.proofs.CheckerDriven.{same_drivers, checker_drives, rails_driven}
use Rattle.net_writing.proofs.CheckerOrder.{drivers_more, nodes_read}
use Rattle.unate_synth.specs.declared.roots.SourceNames.{SourceNames}
use Rattle.unate_synth.specs.Composed.{with_rails, IsNamedWord, LatchesRead}
use Rattle.unate_synth.specs.Composing.{AddsWord}
use Rattle.unate_synth.specs.Roots.{HasSourcesOnly}
use Rattle.unate_synth.proofs.Numberings.{numbering_ends}
use Rattle.unate_synth.proofs.WordTexts.{fronts, rail_list, texts_once}
use Rattle.unate_synth.proofs.WordDriven.{IsLow, first_same, second_same, word_same, rails_stay, fronts_stay, texts_low, low_driven, rails_free, driven_named, driven_once}

module _ (sources : SourceNames) (p q : PartsOf) (G : GateNetwork) (lines : List Line) (shown hidden : List Name) (rails : RailNames)
    (begun : HasSourcesOnly sources p G) (named : IsNamedWord sources p G lines (shown ++ hidden) rails) (h : AddsWord sources p q G lines (shown ++ hidden))
    (made : GateList) (over : IsCheckerOver (length (shown ++ hidden)) made) where
  -- the parts with the checker
  abbrev pub with_all : PartsOf
  with_all = (with_checker q (texts_of q.names (shown ++ hidden)) made (Some rails)).parts

  -- the checker is over them
  pub over_texts : IsOver (length (texts_of q.names (shown ++ hidden))) made
  over_texts = subst (λ (n : ℕ). IsOver n made) (sym (length-map (shown ++ hidden) (text_of q.names))) over.over

  -- what is shown, and after it the rails
  pub shown_texts : texts_of p.names (with_rails shown rails) ≡ texts_of p.names shown ++ (text_of p.names rails.first ∷ (text_of p.names rails.second ∷ []))
  shown_texts = map-append (text_of p.names) shown (rail_list rails)

  -- the word is what is shown and what is not
  pub both_texts : texts_of p.names (shown ++ hidden) ≡ texts_of p.names shown ++ texts_of p.names hidden
  both_texts = map-append (text_of p.names) shown hidden

  -- nothing is shown twice
  shown_once : IsNumbering (texts_of p.names (with_rails shown rails))
  shown_once =
      subst IsNumbering (sym shown_texts)
      (numbering_ends (texts_of p.names shown) (texts_of p.names hidden) (texts_of p.names (rail_list rails))
      (subst IsNumbering (map-append (text_of p.names) (shown ++ hidden) (rail_list rails) ∙ ap (λ (ts : List (List ℕ)). ts ++ texts_of p.names (rail_list rails)) both_texts)
      (texts_once sources p G lines (shown ++ hidden) rails begun named)))

  module _ (N : Named) (inputs : N.inputs ≡ with_all.named.inputs) (latches : N.latches ≡ with_all.named.latches) (nodes : N.nodes ≡ with_all.named.nodes) (once : IsNumbering (drivers p.named)) (numbering : IsNumbering with_all.names) where
    -- the nodes of the checker stand after the word's
    pub nodes_split : N.nodes ≡ q.named.nodes ++ (checker_came q (texts_of q.names (shown ++ hidden)) made (Some rails)).added
    nodes_split = nodes ∙ ap (λ (M : Named). M.nodes) (checker_came q (texts_of q.names (shown ++ hidden)) made (Some rails)).named

    -- the inputs are those of the word's parts
    pub inputs_are : N.inputs ≡ q.named.inputs
    inputs_are = inputs ∙ ap (λ (M : Named). M.inputs) (checker_came q (texts_of q.names (shown ++ hidden)) made (Some rails)).named

    -- so are the latches
    pub latches_are : N.latches ≡ q.named.latches
    latches_are = latches ∙ ap (λ (M : Named). M.latches) (checker_came q (texts_of q.names (shown ++ hidden)) made (Some rails)).named

    -- what was driven before the checker, and then what the checker drives
    drivers_split : drivers N ≡ drivers q.named ++ map (λ (n : NamedNode). n.out) (checker_came q (texts_of q.names (shown ++ hidden)) made (Some rails)).added
    drivers_split =
        same_drivers N with_all.named inputs latches nodes ∙ ap drivers (checker_came q (texts_of q.names (shown ++ hidden)) made (Some rails)).named
        ∙ drivers_more q.named (checker_came q (texts_of q.names (shown ++ hidden)) made (Some rails)).added

    -- no name is driven twice
    pub all_once : IsNumbering (drivers N)
    all_once =
        (checker_drives q (texts_of q.names (shown ++ hidden)) made (Some rails) (rails_stay sources p G lines (shown ++ hidden) rails begun named q h)
        (rails_free sources p G lines (shown ++ hidden) rails begun named q h) (driven_once sources p G lines (shown ++ hidden) rails begun named q h once)
        (driven_named sources p G lines (shown ++ hidden) rails begun named q h) numbering N inputs latches nodes).0

    -- what was driven is so still
    driven_stays : (t : List ℕ) → has_text (drivers q.named) t ≡ true → has_text (drivers N) t ≡ true
    driven_stays t e =
        let more = map (λ (n : NamedNode). n.out) (checker_came q (texts_of q.names (shown ++ hidden)) made (Some rails)).added in
        ap (λ (ts : List (List ℕ)). has_text ts t) drivers_split ∙ has_contained (drivers q.named ++ more) t (Contains-append_left (drivers q.named) more t (contained_has (drivers q.named) t e))

    -- a text of the word is driven
    pub word_stays : (t : List ℕ) → Contains (texts_of p.names (shown ++ hidden)) t → has_text (drivers N) t ≡ true
    word_stays t c =
        driven_stays t (low_driven sources p G lines (shown ++ hidden) rails begun named q h t (texts_low sources p G lines (shown ++ hidden) rails begun named q h t c))

    -- so are the rails
    pub rails_stay_driven : All (λ t. has_text (drivers N) t ≡ true) (text_of p.names rails.first ∷ (text_of p.names rails.second ∷ []))
    rails_stay_driven =
        let driven : List ℕ → Type 0 = λ (t : List ℕ). has_text (drivers N) t ≡ true in
        let both = rails_driven q (texts_of q.names (shown ++ hidden)) made over.plan over.is_checker rails over.well_made over_texts N nodes in
        let first : has_text (drivers N) (text_of p.names rails.first) ≡ true = ap (has_text (drivers N)) (sym (first_same sources p G lines (shown ++ hidden) rails begun named q h)) ∙ both.0 in
        let second : has_text (drivers N) (text_of p.names rails.second) ≡ true = ap (has_text (drivers N)) (sym (second_same sources p G lines (shown ++ hidden) rails begun named q h)) ∙ both.1 in
        All-cons driven (text_of p.names rails.first) (text_of p.names rails.second ∷ []) first (All-cons driven (text_of p.names rails.second) [] second (All-nil driven))

    -- and the whole word
    pub all_driven : All (λ t. has_text (drivers N) t ≡ true) (texts_of p.names (shown ++ hidden))
    all_driven = All-from_get_or (λ t. has_text (drivers N) t ≡ true) (texts_of p.names (shown ++ hidden)) []
        (λ k lt. word_stays (text_at (texts_of p.names (shown ++ hidden)) k) (Contains-get_or (texts_of p.names (shown ++ hidden)) k [] lt))

    -- what is shown is driven
    shown_driven : All (λ t. has_text (drivers N) t ≡ true) (texts_of p.names (with_rails shown rails))
    shown_driven =
        let driven : List ℕ → Type 0 = λ (t : List ℕ). has_text (drivers N) t ≡ true in
        let first : All (λ t. has_text (drivers N) t ≡ true) (texts_of p.names shown)
        = All-from_get_or (λ t. has_text (drivers N) t ≡ true) (texts_of p.names shown) [] (λ k lt. (
        let t = text_at (texts_of p.names shown) k in
        word_stays t (subst (λ (ts : List (List ℕ)). Contains ts t) (sym both_texts) (Contains-append_left (texts_of p.names shown) (texts_of p.names hidden) t (Contains-get_or (texts_of p.names shown) k [] lt))))) in
        subst (All driven) (sym shown_texts) (All-append driven (texts_of p.names shown) (text_of p.names rails.first ∷ (text_of p.names rails.second ∷ [])) first rails_stay_driven)

    -- a node of the word's is at its place
    pub node_early : (k : ℕ) → k < length q.named.nodes → named_at N k ≡ named_at q.named k
    node_early k lt =
        ap (λ (ns : List NamedNode). slice_index_or ns k no_named) nodes_split
        ∙ get_or_append_left q.named.nodes (checker_came q (texts_of q.names (shown ++ hidden)) made (Some rails)).added no_named k lt

    -- there are at least as many nodes
    pub nodes_longer : length q.named.nodes ≤ length N.nodes
    nodes_longer = omega (arith, ap length nodes_split, length-append q.named.nodes (checker_came q (texts_of q.names (shown ++ hidden)) made (Some rails)).added)

    -- a source is one of the netlist's
    front_lower : (k : ℕ) (t : List ℕ) → Contains (fronts p) t → IsLower N (λ j. j) k t
    front_lower k t c =
        let same : fronts p ≡ N.inputs ++ latch_outs N
        = sym (fronts_stay sources p G lines (shown ++ hidden) rails begun named q h)
        ∙ sym (ap (λ (ins : List (List ℕ)). ins ++ latch_outs q.named) inputs_are) ∙ sym (ap (λ (ls : List NamedLatch). N.inputs ++ map (λ (l : NamedLatch). l.out) ls) latches_are) in
        inl (subst (λ (ts : List (List ℕ)). Contains ts t) same c)

    -- an earlier node drives its name
    node_lower : (k j : ℕ) (t : List ℕ) → j < length N.nodes → j < k → (named_at N j).out ≡ t → IsLower N (λ i. i) k t
    node_lower k j t low before e = inr (j, low, before, get_or-map (λ (n : NamedNode). n.out) N.nodes j no_named [] low ∙ e)

    -- a text of the word is lower than each node of the checker
    low_lower : (k : ℕ) (t : List ℕ) → length q.named.nodes ≤ k → IsLow p q t → IsLower N (λ j. j) k t
    low_lower k t from (inl c) = front_lower k t c
    low_lower k t from (inr (j, low, e)) = node_lower k j t (omega (arith, nodes_longer)) (omega arith) (ap (λ (n : NamedNode). n.out) (node_early j low) ∙ e)

    -- what a node of the word's may read is lower
    given_lower : (k : ℕ) (t : List ℕ) → k ≤ length q.named.nodes → IsGiven q.named (length p.named.nodes) k t → IsLower N (λ j. j) k t
    given_lower k t le (inl c) =
        front_lower k t
        (subst (λ (ts : List (List ℕ)). Contains ts t) (fronts_stay sources p G lines (shown ++ hidden) rails begun named q h) (Contains-append_left q.named.inputs (latch_outs q.named) t c))
    given_lower k t le (inr (inl c)) =
        front_lower k t
        (subst (λ (ts : List (List ℕ)). Contains ts t) (fronts_stay sources p G lines (shown ++ hidden) rails begun named q h) (Contains-append_right q.named.inputs (latch_outs q.named) t c))
    given_lower k t le (inr (inr (j, behind, before, e))) =
        let low : j < length q.named.nodes = omega arith in
        node_lower k j t (omega (arith, nodes_longer)) before (ap (λ (n : NamedNode). n.out) (node_early j low) ∙ e)

    -- and so is what a node of the checker reads
    fed_lower : (k : ℕ) (t : List ℕ) → length q.named.nodes ≤ k → k < length N.nodes → IsFedBefore N.nodes (length q.named.nodes) (texts_of q.names (shown ++ hidden)) k t → IsLower N (λ j. j) k t
    fed_lower k t from within (inl c) =
        low_lower k t from
        (texts_low sources p G lines (shown ++ hidden) rails begun named q h t (subst (λ (ts : List (List ℕ)). Contains ts t) (word_same sources p G lines (shown ++ hidden) rails begun named q h) c))
    fed_lower k t from within (inr (j, behind, before, e)) = node_lower k j t (omega arith) before e

    -- each node reads what is lower
    pins_lower : (k pin : ℕ) → k < length N.nodes → pin < length (named_at N k).reads → IsLower N (λ j. j) k (text_at (named_at N k).reads pin)
    pins_lower k pin within there = elim (cases_lt k (length q.named.nodes)) [
      | inl early ↦ (
          let same : named_at N k ≡ named_at q.named k = node_early k early in
          let there_too : pin < length (named_at q.named k).reads = subst (λ (n : NamedNode). pin < length n.reads) same there in
          subst (λ (n : NamedNode). IsLower N (λ j. j) k (text_at n.reads pin)) (sym same)
          (given_lower k (text_at (named_at q.named k).reads pin) (omega arith) (h.before k pin (omega (arith, ap length begun.nodeless)) early there_too)))
      | inr late ↦ fed_lower k (text_at (named_at N k).reads pin) (omega arith) within (nodes_read q (texts_of q.names (shown ++ hidden)) made (Some rails) over_texts N nodes k pin (omega arith) within there)
    ]

    -- the netlist is sound
    pub composed_sound : 0 < length shown → LatchesRead p (texts_of p.names (shown ++ hidden)) → N.outputs ≡ texts_of p.names (with_rails shown rails) → IsSound N
    composed_sound some read outputs = record {
      driven_once = all_once;
      shown_once = subst IsNumbering (sym outputs) shown_once;
      some_output = omega (arith, ap length outputs, length-map (with_rails shown rails) (text_of p.names), length-append shown (rail_list rails));
      outputs = subst (All (λ t. has_text (drivers N) t ≡ true)) (sym outputs) shown_driven;
      latches = subst (All (λ (l : NamedLatch). has_text (drivers N) l.reads ≡ true)) (sym (latches_are ∙ h.extends.latches))
          (All-weaker (λ (l : NamedLatch). Contains (texts_of p.names (shown ++ hidden)) l.reads) (λ (l : NamedLatch). has_text (drivers N) l.reads ≡ true) (λ l c. word_stays l.reads c) p.named.latches read);
      rank = λ k. k;
      pins = λ k pin within there. (
          let same : pins_at N k ≡ (named_at N k).reads = get_or-map (λ (n : NamedNode). n.reads) N.nodes k no_named [] within in
          subst (λ (reads : List (List ℕ)). IsLower N (λ j. j) k (text_at reads pin)) (sym same)
          (pins_lower k pin within (subst (λ (reads : List (List ℕ)). pin < length reads) same there)));
    }
