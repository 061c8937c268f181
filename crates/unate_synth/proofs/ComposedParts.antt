-- What a composed netlist has of its parts: their model and sources, what is shown, and names that are the word's, the rails' or
-- fresh.
use Rattle.std.proofs.Common.{◌≡◌, ℕ, ◌+◌, ◌-◌, ◌^◌, ◌<◌, ◌≤◌, ◌⊎◌, inl, inr, true, List, [], ◌∷◌, ◌++◌, map, take, length, slice_index_or, All, Contains, Some, sym, ◌∙◌, ap, ap₂, subst, arith, length-append}
use Rattle.std.proofs.Math.Seq.{take-append_seam}
use Rattle.std.proofs.lemmas.Bool.{cases_lt}
use Rattle.std.proofs.lemmas.List.{length-map, get_or-map, get_or_append_left}
use Rattle.std.proofs.lemmas.List.Elements.{All-append, All-get_or, All-from_get_or, All-contains, All-weaker, Contains-append_left, Contains-append_right, Contains-get_or}
use Rattle.fault_secure.specs.Circuit.{nets, no_node}
use Rattle.tsc_net.specs.Named.{Named, NamedNode, NamedLatch, latch_outs, node_outs, no_named}
use Rattle.tsc_net.specs.Names.{text_at, has_text, place_of_text, IsNumbering}
use Rattle.tsc_net.specs.NetlistOf.{drivers, circuit_of, netlist_of}
use Rattle.tsc_net.specs.Parts.{PartsOf}
use Rattle.tsc_net.specs.PartsView.{text_of, texts_of}
use Rattle.tsc_net.specs.declared.ids.Name.{Name}
use Rattle.tsc_net.proofs.NameLemmas.{place_within, text_at_place}
use Rattle.gate_net.specs.declared.line.Line.{Line}
use Rattle.gate_net.specs.Gates.{GateNetwork}
use Rattle.gate_net.specs.Written.{named_at, Extends}
use Rattle.gate_net.specs.Added.{added_nodes, HasGateCover, DrivesListed, IsFresh}
use Rattle.gate_net.proofs.GateCovers.{cover_rows, cover_on, cover_wide}
use Rattle.gate_net.proofs.Texts.{lacks}
use Rattle.gate_net.proofs.Written.{extends_twice}
use Rattle.code_checkers.specs.GateList.{GateList}
use Rattle.net_writing.specs.CheckerParts.{with_checker, IsCheckerOver}
use Rattle.net_writing.specs.declared.checker_writing.RailNames.{RailNames}
use Rattle.net_writing.proofs.CheckerShape.{adds_checker}
use Rattle.net_writing.proofs.CheckerOrder.{driven_at}
use Rattle.net_writing.proofs.CheckerOuts.{HasCome, IsRailText, checker_outs}
use Rattle.unate_synth.specs.declared.roots.SourceNames.{SourceNames}
use Rattle.unate_synth.specs.Composed.{with_rails, IsNamedWord, IsFreshName, HasPartsOf}
use Rattle.unate_synth.specs.Composing.{AddsWord}
use Rattle.unate_synth.specs.Roots.{HasSourcesOnly}
use Rattle.unate_synth.specs.UnateNetlist.{IsNarrow}
use Rattle.unate_synth.proofs.CheckerNodes.{checker_covers, checker_names}
use Rattle.unate_synth.proofs.FreshCame.{came_fresh}
use Rattle.unate_synth.proofs.WordTexts.{fronts}
use Rattle.unate_synth.proofs.WordDriven.{first_same, second_same, all_came, out_cases}
use Rattle.unate_synth.proofs.ComposedSound.{with_all, shown_texts, both_texts, inputs_are, latches_are, all_driven, rails_stay_driven, node_early}

-- parts with a checker extend those without
pub checker_extends : (q : PartsOf) (word : List (List ℕ)) (made : GateList) (rails : RailNames) → Extends q (with_checker q word made (Some rails)).parts
checker_extends q word made rails =
    let a = adds_checker q word made (Some rails) in
    record {
      added = a.added;
      more = a.more;
      nodes = a.nodes;
      names = a.names;
      fresh = record { count = a.count; names = a.fresh; next = a.next };
      pins = a.pins;
      model = a.model;
      inputs = a.inputs;
      outputs = a.outputs;
      latches = a.latches;
    }

-- a driven text stands in a part at the front, or at a place after it
pub front_or_behind : (front rest : List (List ℕ)) (t : List ℕ) → has_text (front ++ rest) t ≡ true → Contains front t ⊎ (length front ≤ place_of_text (front ++ rest) t)
front_or_behind front rest t e = elim (cases_lt (place_of_text (front ++ rest) t) (length front)) [
  | inl low ↦ inl (subst (Contains front) (sym (get_or_append_left front rest [] (place_of_text (front ++ rest) t) low) ∙ text_at_place (front ++ rest) t e) (Contains-get_or front (place_of_text (front ++ rest) t) [] low))
  | inr behind ↦ inr (omega arith)
]

module _ (sources : SourceNames) (p q : PartsOf) (G : GateNetwork) (lines : List Line) (shown hidden : List Name) (rails : RailNames)
    (begun : HasSourcesOnly sources p G) (named : IsNamedWord sources p G lines (shown ++ hidden) rails) (h : AddsWord sources p q G lines (shown ++ hidden))
    (made : GateList) (over : IsCheckerOver (length (shown ++ hidden)) made) (small : length q.names + length made.gates < 2 ^ 32) where
  -- the word, what is shown and the rails as their texts
  abbrev all_texts : List (List ℕ)
  all_texts = (texts_of p.names shown ++ texts_of p.names hidden) ++ (text_of p.names rails.first ∷ (text_of p.names rails.second ∷ []))

  -- the parts with the checker extend those that began
  all_extends : Extends p (with_all sources p q G lines shown hidden rails begun named h made over)
  all_extends =
      extends_twice p q (with_all sources p q G lines shown hidden rails begun named h made over) h.extends (checker_extends q (texts_of q.names (shown ++ hidden)) made rails)

  -- a text of the word, or of a rail
  in_word : (t : List ℕ) → Contains (texts_of p.names (shown ++ hidden)) t → Contains all_texts t
  in_word t c =
      Contains-append_left (texts_of p.names shown ++ texts_of p.names hidden) (text_of p.names rails.first ∷ (text_of p.names rails.second ∷ [])) t
      (subst (λ (ts : List (List ℕ)). Contains ts t) (both_texts sources p q G lines shown hidden rails begun named h made over) c)

  -- of a rail
  in_rails : (t : List ℕ) → Contains (text_of p.names rails.first ∷ (text_of p.names rails.second ∷ [])) t → Contains all_texts t
  in_rails t c = Contains-append_right (texts_of p.names shown ++ texts_of p.names hidden) (text_of p.names rails.first ∷ (text_of p.names rails.second ∷ [])) t c

  -- what a node of the word's drives is a text of the word, or a fresh name
  word_out : (n : NamedNode) → Contains (added_nodes p q) n → Contains all_texts n.out ⊎ IsFreshName p n.out
  word_out n c = by (out_cases sources p G lines (shown ++ hidden) rails begun named q h n c)
    where
      there : has_text q.names n.out ≡ true
      there = All-contains (DrivesListed q.names) (added_nodes p q) n h.listed c

      came : IsFresh p n.out → length p.names ≤ place_of_text q.names n.out
      came fresh = elim (cases_lt (place_of_text q.names n.out) (length p.names)) [
        | inl early ↦ (
            let x = h.extends in
            let is : text_at p.names (place_of_text q.names n.out) ≡ n.out
            = sym (ap (λ (ts : List (List ℕ)). text_at ts (place_of_text q.names n.out)) x.names ∙ get_or_append_left p.names x.more [] (place_of_text q.names n.out) early) ∙ text_at_place q.names n.out there in
            absurd (lacks p.names n.out fresh (subst (Contains p.names) is (Contains-get_or p.names (place_of_text q.names n.out) [] early))))
        | inr late ↦ omega arith
      ]

      by : Contains (texts_of p.names (shown ++ hidden)) n.out ⊎ IsFresh p n.out → Contains all_texts n.out ⊎ IsFreshName p n.out
      by (inl word) = inl (in_word n.out word)
      by (inr fresh) =
          inr (subst (IsFreshName p) (text_at_place q.names n.out there) (came_fresh p q h.extends (omega (arith, small)) (place_of_text q.names n.out) (came fresh) (place_within q.names n.out there)))

  module _ (N : Named) (model : N.model ≡ (with_all sources p q G lines shown hidden rails begun named h made over).named.model)
      (inputs : N.inputs ≡ (with_all sources p q G lines shown hidden rails begun named h made over).named.inputs)
      (latches : N.latches ≡ (with_all sources p q G lines shown hidden rails begun named h made over).named.latches)
      (nodes : N.nodes ≡ (with_all sources p q G lines shown hidden rails begun named h made over).named.nodes) (once : IsNumbering (drivers p.named))
      (numbering : IsNumbering (with_all sources p q G lines shown hidden rails begun named h made over).names) where
    -- the inputs and the latches are those of the parts
    ins : N.inputs ≡ p.named.inputs
    ins = inputs_are sources p q G lines shown hidden rails begun named h made over N inputs latches nodes once numbering ∙ h.extends.inputs

    -- the latches too
    ls : N.latches ≡ p.named.latches
    ls = latches_are sources p q G lines shown hidden rails begun named h made over N inputs latches nodes once numbering ∙ h.extends.latches

    -- so are the sources
    fronts_same : N.inputs ++ latch_outs N ≡ fronts p
    fronts_same = ap₂ (λ (xs : List (List ℕ)) (ys : List NamedLatch). xs ++ map (λ (l : NamedLatch). l.out) ys) ins ls

    -- as many
    front_counted : length (fronts p) ≡ length p.named.inputs + length p.named.latches
    front_counted = omega (arith, length-append p.named.inputs (latch_outs p.named), length-map p.named.latches (λ (l : NamedLatch). l.out))

    -- the circuit has as many latches
    latches_counted : length (circuit_of N).latches ≡ length N.latches
    latches_counted = length-map N.latches _

    -- and as many nodes
    nodes_counted : length (circuit_of N).nodes ≡ length N.nodes
    nodes_counted = length-map N.nodes _

    -- as many sources as inputs and latches
    sources_counted : length (fronts p) ≡ (circuit_of N).inputs + length (circuit_of N).latches
    sources_counted = omega (arith, front_counted, ap length ins, ap length ls, latches_counted)

    -- what a rail's gate drives is a rail's
    rail_out : (t : List ℕ) → IsRailText q.names (Some rails) t → Contains all_texts t
    rail_out t (inl e) =
        let is : text_of p.names rails.first ≡ t = sym (first_same sources p G lines (shown ++ hidden) rails begun named q h) ∙ e in
        in_rails t (subst (Contains (text_of p.names rails.first ∷ (text_of p.names rails.second ∷ []))) is (Contains-get_or (text_of p.names rails.first ∷ (text_of p.names rails.second ∷ [])) 0 [] (omega arith)))
    rail_out t (inr e) =
        let is : text_of p.names rails.second ≡ t = sym (second_same sources p G lines (shown ++ hidden) rails begun named q h) ∙ e in
        in_rails t (subst (Contains (text_of p.names rails.first ∷ (text_of p.names rails.second ∷ []))) is (Contains-get_or (text_of p.names rails.first ∷ (text_of p.names rails.second ∷ [])) 1 [] (omega arith)))

    -- a name that came with the checker is a fresh name over the parts
    come_fresh : (t : List ℕ) → HasCome q.names (with_all sources p q G lines shown hidden rails begun named h made over).names t → IsFreshName p t
    come_fresh t (i, from, low, is) =
        let x = h.extends in
        let few : length (with_all sources p q G lines shown hidden rails begun named h made over).names < 2 ^ 32 = omega (arith, small, checker_names q (texts_of q.names (shown ++ hidden)) made (Some rails)) in
        subst (IsFreshName p) is
        (came_fresh p (with_all sources p q G lines shown hidden rails begun named h made over) all_extends few i (omega (arith, ap length x.names, length-append p.names x.more)) low)

    -- what a node of the checker drives is a rail's text, or a fresh name
    checker_out : (k : ℕ) → length q.named.nodes ≤ k → k < length N.nodes → Contains all_texts (named_at N k).out ⊎ IsFreshName p (named_at N k).out
    checker_out k from within =
        subst (λ (ns : List NamedNode). Contains all_texts (slice_index_or ns k no_named).out ⊎ IsFreshName p (slice_index_or ns k no_named).out) (sym nodes)
        (by (checker_outs q (texts_of q.names (shown ++ hidden)) made (Some rails) k from (omega (arith, ap length nodes))))
      where
        by : IsRailText q.names (Some rails) (slice_index_or (with_all sources p q G lines shown hidden rails begun named h made over).named.nodes k no_named).out
            ⊎ HasCome q.names (with_all sources p q G lines shown hidden rails begun named h made over).names (slice_index_or (with_all sources p q G lines shown hidden rails begun named h made over).named.nodes k no_named).out
            → Contains all_texts (slice_index_or (with_all sources p q G lines shown hidden rails begun named h made over).named.nodes k no_named).out
            ⊎ IsFreshName p (slice_index_or (with_all sources p q G lines shown hidden rails begun named h made over).named.nodes k no_named).out
        by (inl r) = inl (rail_out (slice_index_or (with_all sources p q G lines shown hidden rails begun named h made over).named.nodes k no_named).out r)
        by (inr c) = inr (come_fresh (slice_index_or (with_all sources p q G lines shown hidden rails begun named h made over).named.nodes k no_named).out c)

    -- what any node drives is a text of the word or of a rail, or a fresh name
    node_out : (k : ℕ) → k < length N.nodes → Contains all_texts (named_at N k).out ⊎ IsFreshName p (named_at N k).out
    node_out k within = elim (cases_lt k (length q.named.nodes)) [
      | inl early ↦ (
          let same : named_at N k ≡ named_at q.named k = node_early sources p q G lines shown hidden rails begun named h made over N inputs latches nodes once numbering k early in
          let c : Contains (added_nodes p q) (named_at q.named k)
          = subst (λ (ns : List NamedNode). Contains ns (named_at q.named k)) (sym (all_came sources p G lines (shown ++ hidden) rails begun named q h)) (Contains-get_or q.named.nodes k no_named early) in
          subst (λ (n : NamedNode). Contains all_texts n.out ⊎ IsFreshName p n.out) (sym same) (word_out (named_at q.named k) c))
      | inr late ↦ checker_out k (omega arith) within
    ]

    -- each net that is no source's is the word's, a rail's or has a fresh name
    net_out : (net : ℕ) → (circuit_of N).inputs + length (circuit_of N).latches ≤ net → net < nets (circuit_of N) → Contains all_texts (text_at (drivers N) net) ⊎ IsFreshName p (text_at (drivers N) net)
    net_out net from within =
        let low : net - (length N.inputs + length N.latches) < length N.nodes = omega (arith, latches_counted, nodes_counted) in
        let at : length N.inputs + length N.latches + (net - (length N.inputs + length N.latches)) ≡ net = omega (arith, latches_counted) in
        let is : (named_at N (net - (length N.inputs + length N.latches))).out ≡ text_at (drivers N) net
        = sym (driven_at N (net - (length N.inputs + length N.latches)) low) ∙ ap (text_at (drivers N)) at in
        subst (λ (t : List ℕ). Contains all_texts t ⊎ IsFreshName p t) is (node_out (net - (length N.inputs + length N.latches)) low)

    -- no node has more than two pins
    few_pins : All (λ (n : NamedNode). length n.reads ≤ 2) N.nodes
    few_pins =
        let x = all_extends in
        let all : x.added ≡ N.nodes = sym (nodes ∙ x.nodes ∙ ap (λ (ns : List NamedNode). ns ++ x.added) begun.nodeless) in
        subst (All (λ (n : NamedNode). length n.reads ≤ 2)) all x.pins

    -- and each has the cover of a gate
    all_covers : All HasGateCover N.nodes
    all_covers =
        subst (All HasGateCover) (sym nodes)
        (checker_covers q (texts_of q.names (shown ++ hidden)) made (Some rails) (subst (All HasGateCover) (all_came sources p G lines (shown ++ hidden) rails begun named q h) h.covers))

    -- so each node of the circuit is narrow
    all_narrow : All IsNarrow (circuit_of N).nodes
    all_narrow = All-from_get_or IsNarrow (circuit_of N).nodes no_node (λ k lt. (
        let low : k < length N.nodes = omega (arith, nodes_counted) in
        let n = named_at N k in
        let is : record { reads = map (place_of_text (drivers N)) n.reads; cover = n.cover } ≡ slice_index_or (circuit_of N).nodes k no_node
        = sym (get_or-map (λ (m : NamedNode). record { reads = map (place_of_text (drivers N)) m.reads; cover = m.cover }) N.nodes k no_named no_node low) in
        let pins : length n.reads ≤ 2 = All-get_or (λ (m : NamedNode). length m.reads ≤ 2) N.nodes k no_named low few_pins in
        let cover : HasGateCover n = All-get_or HasGateCover N.nodes k no_named low all_covers in
        subst IsNarrow is (record {
          pins = omega (arith, pins, length-map n.reads (place_of_text (drivers N)));
          rows = cover_rows n.cover cover;
          sized = cover_wide n.cover cover;
          set = cover_on n.cover cover;
        })))

    -- a name of the word is a source's, or stands at a place of a node
    word_place : (t : List ℕ) → has_text (drivers N) t ≡ true → Contains (fronts p) t ⊎ ((circuit_of N).inputs + length (circuit_of N).latches ≤ place_of_text (drivers N) t)
    word_place t e = by (front_or_behind (N.inputs ++ latch_outs N) (node_outs N) t e)
      where
        by : Contains (N.inputs ++ latch_outs N) t ⊎ (length (N.inputs ++ latch_outs N) ≤ place_of_text (drivers N) t)
            → Contains (fronts p) t ⊎ ((circuit_of N).inputs + length (circuit_of N).latches ≤ place_of_text (drivers N) t)
        by (inl c) = inl (subst (λ (ts : List (List ℕ)). Contains ts t) fronts_same c)
        by (inr le) = inr (omega (arith, sources_counted, ap length fronts_same))

    -- the netlist has the parts
    pub composed_parts : N.outputs ≡ texts_of p.names (with_rails shown rails)
        → HasPartsOf p (texts_of p.names shown) (texts_of p.names hidden) (text_of p.names rails.first) (text_of p.names rails.second) (netlist_of N)
    composed_parts outputs =
        let place = place_of_text (drivers N) in
        let both = both_texts sources p q G lines shown hidden rails begun named h made over in
        let driven = all_driven sources p q G lines shown hidden rails begun named h made over N inputs latches nodes once numbering in
        record {
          model = model ∙ all_extends.model;
          inputs = ap length ins;
          latches = ap (map (λ (l : NamedLatch). record { reads = place_of_text (drivers N) l.reads; init = l.init })) ls;
          sources = ap (λ (n : ℕ). take n (drivers N)) (sym front_counted) ∙ ap (λ (ts : List (List ℕ)). take (length (fronts p)) (ts ++ node_outs N)) fronts_same
              ∙ take-append_seam (fronts p) (node_outs N);
          outputs = ap (map place) (outputs ∙ shown_texts sources p q G lines shown hidden rails begun named h made over);
          named = All-append (λ t. has_text (drivers N) t ≡ true) (texts_of p.names shown ++ texts_of p.names hidden) (text_of p.names rails.first ∷ (text_of p.names rails.second ∷ []))
              (subst (All (λ t. has_text (drivers N) t ≡ true)) both driven)
              (rails_stay_driven sources p q G lines shown hidden rails begun named h made over N inputs latches nodes once numbering);
          word = subst (All (λ t. Contains (fronts p) t ⊎ ((circuit_of N).inputs + length (circuit_of N).latches ≤ place_of_text (drivers N) t))) both
              (All-weaker (λ t. has_text (drivers N) t ≡ true) (λ t. Contains (fronts p) t ⊎ ((circuit_of N).inputs + length (circuit_of N).latches ≤ place_of_text (drivers N) t)) word_place
              (texts_of p.names (shown ++ hidden)) driven);
          inner = net_out;
          narrow = all_narrow;
        }
