-- Parts to which the gates of a word were written: what is driven there. Each name of the word is a source's or a node drives it,
-- the rails' names are free, and no name is driven twice where no source's is.
use Rattle.std.proofs.Common.{◌≡◌, ℕ, ◌<◌, ◌⊎◌, inl, inr, true, false, List, [], ◌++◌, map, drop, length, All, Contains, Some, sym, ◌∙◌, ap, ap₂, subst, arith}
use Rattle.std.proofs.lemmas.List.{length-map, get_or-map, get_or_default}
use Rattle.std.proofs.lemmas.List.Elements.{All-get_or, All-contains, All-from_get_or, Contains-get_or, Contains-append_left, Contains-append_right, Contains-append_cases}
use Rattle.tsc_net.specs.Named.{NamedNode, NamedLatch, latch_outs, node_outs, no_named}
use Rattle.tsc_net.specs.Names.{text_at, has_text, IsNumbering}
use Rattle.tsc_net.specs.NetlistOf.{drivers}
use Rattle.tsc_net.specs.Parts.{PartsOf}
use Rattle.tsc_net.specs.PartsView.{text_of, texts_of, IsName}
use Rattle.tsc_net.specs.declared.ids.Name.{Name}
use Rattle.gate_net.specs.declared.line.Line.{Line}
use Rattle.gate_net.specs.declared.root.Root.{Root}
use Rattle.gate_net.specs.Gates.{GateNetwork}
use Rattle.gate_net.specs.Written.{named_at}
use Rattle.gate_net.specs.Added.{added_nodes, added_outs, root_texts, DrivesRootOrFresh, DrivesListed, IsFresh, IsUndriven}
use Rattle.gate_net.proofs.Texts.{has_contained, contained_has, lacks, lacks_so, has_at, numbering_append, contains_map, mapped_from}
use Rattle.net_writing.specs.CheckerParts.{AreRailNames}
use Rattle.net_writing.specs.Names.{name_at, Keeps}
use Rattle.net_writing.specs.declared.checker_writing.RailNames.{RailNames}
use Rattle.net_writing.proofs.NamesKept.{texts_stay, names_stay, name_stays}
use Rattle.net_writing.proofs.CheckerDriven.{AreFreeRails}
use Rattle.unate_synth.specs.declared.roots.SourceNames.{SourceNames}
use Rattle.unate_synth.specs.Composed.{IsNamedWord}
use Rattle.unate_synth.specs.Composing.{AddsWord}
use Rattle.unate_synth.specs.Roots.{line_at, IsSourceNumber, IsRooted, HasSourcesOnly}
use Rattle.unate_synth.proofs.RootLemmas.{extends_keeps, name_undriven, roots_undriven}
use Rattle.unate_synth.proofs.WordNames.{root_of_word}
use Rattle.unate_synth.proofs.WordTexts.{fronts, rail_list, fronts_are, front_has, source_front, word_names, rails_are, rail_apart, rails_apart, text_here}

-- the text is a source's, or some node drives it
abbrev pub IsLow : PartsOf → PartsOf → List ℕ → Type 0
IsLow p q text = Contains (fronts p) text ⊎ ((j : ℕ) × (j < length q.named.nodes) × ((named_at q.named j).out ≡ text))

module _ (sources : SourceNames) (p : PartsOf) (G : GateNetwork) (lines : List Line) (word : List Name) (rails : RailNames) (begun : HasSourcesOnly sources p G) (named : IsNamedWord sources p G lines word rails)
    (q : PartsOf) (h : AddsWord sources p q G lines word) where
  -- names keep their texts
  keeps : Keeps p.names q.names
  keeps = extends_keeps p q h.extends

  -- those of the word
  pub word_same : texts_of q.names word ≡ texts_of p.names word
  word_same = texts_stay p.names q.names keeps word (word_names sources p G lines word rails begun named)

  -- and of the rails
  pub first_same : text_of q.names rails.first ≡ text_of p.names rails.first
  first_same = keeps.kept rails.first.number (rails_are sources p G lines word rails begun named).0

  -- both of them
  pub second_same : text_of q.names rails.second ≡ text_of p.names rails.second
  second_same = keeps.kept rails.second.number (rails_are sources p G lines word rails begun named).1

  -- and stay names
  pub words_stay : All (IsName q.names) word
  words_stay = names_stay p.names q.names keeps word (word_names sources p G lines word rails begun named)

  -- the rails' too
  pub rails_stay : AreRailNames q.names (Some rails)
  rails_stay = (name_stays p.names q.names keeps rails.first (rails_are sources p G lines word rails begun named).0, name_stays p.names q.names keeps rails.second (rails_are sources p G lines word rails begun named).1)

  -- a name that was there is there still
  pub has_stays : (t : List ℕ) → has_text p.names t ≡ true → has_text q.names t ≡ true
  has_stays t e =
      let x = h.extends in
      ap (λ (ts : List (List ℕ)). has_text ts t) x.names ∙ has_contained (p.names ++ x.more) t (Contains-append_left p.names x.more t (contained_has p.names t e))

  -- all nodes came
  pub all_came : added_nodes p q ≡ q.named.nodes
  all_came = ap (λ (ns : List NamedNode). drop (length ns) q.named.nodes) begun.nodeless

  -- the sources stay
  pub fronts_stay : q.named.inputs ++ latch_outs q.named ≡ fronts p
  fronts_stay = ap₂ (λ (ins : List (List ℕ)) (ls : List NamedLatch). ins ++ map (λ (l : NamedLatch). l.out) ls) h.extends.inputs h.extends.latches

  -- what is driven: the sources, and what came
  pub drivers_split : drivers q.named ≡ fronts p ++ added_outs p q
  drivers_split = ap₂ (λ (front : List (List ℕ)) (ns : List NamedNode). front ++ map (λ (n : NamedNode). n.out) ns) fronts_stay (sym all_came)

  -- what came drives is what some node drives
  out_of : (t : List ℕ) → Contains (added_outs p q) t → (n : NamedNode) × Contains (added_nodes p q) n × (n.out ≡ t)
  out_of t c = mapped_from (λ (n : NamedNode). n.out) (added_nodes p q) t no_named c

  -- at its place
  out_low : (t : List ℕ) → Contains (added_outs p q) t → (j : ℕ) × (j < length q.named.nodes) × ((named_at q.named j).out ≡ t)
  out_low t c =
      let n = out_of t c in
      let d : Contains q.named.nodes n.0 = subst (λ (ns : List NamedNode). Contains ns n.0) all_came n.1 in
      (d.0, d.1, ap (λ (m : NamedNode). m.out) (get_or_default q.named.nodes d.0 no_named n.0 d.1 ∙ d.2) ∙ n.2)

  -- each name of the word is a source's, or some node drives it
  pub word_low : (i : ℕ) → i < length word → IsLow p q (text_of p.names (name_at word i))
  word_low i lt = by (h.rooted.rooted i (omega (arith, named.sized)))
    where
      by : IsRooted sources h.roots lines word i → IsLow p q (text_of p.names (name_at word i))
      by (inl s) = inl (source_front sources p G begun (name_at word i).number (All-get_or (IsName p.names) word i (record { number = 0 }) lt (word_names sources p G lines word rails begun named)) s)
      by (inr (j, low, at, c)) =
          let text = text_of p.names (name_at word j) in
          let root : Contains (root_texts p.names h.roots) (text_of p.names (name_at word j))
          = contains_map (λ (r : Root). text_of p.names r.name) h.roots (record { name = name_at word j; line = line_at lines j }) c in
          let out : Contains (added_outs p q) (text_of p.names (name_at word j)) = All-contains (Contains (added_outs p q)) (root_texts p.names h.roots) text h.driven root in
          subst (λ (n : Name). IsLow p q (text_of p.names n)) at (inr (out_low text out))

  -- so is each text of the word
  pub texts_low : (t : List ℕ) → Contains (texts_of p.names word) t → IsLow p q t
  texts_low t c =
      let lt : c.0 < length word = omega (arith, length-map word (text_of p.names), c.1) in
      subst (IsLow p q) (sym ((text_here sources p G lines word rails begun named) word c.0 lt) ∙ get_or_default (texts_of p.names word) c.0 [] t c.1 ∙ c.2) (word_low c.0 lt)

  -- and it is driven
  pub low_driven : (t : List ℕ) → IsLow p q t → has_text (drivers q.named) t ≡ true
  low_driven t (inl c) = ap (λ (ts : List (List ℕ)). has_text ts t) drivers_split ∙ has_contained (fronts p ++ added_outs p q) t (Contains-append_left (fronts p) (added_outs p q) t c)
  low_driven t (inr (j, low, is)) =
      ap (λ (ts : List (List ℕ)). has_text ts t) drivers_split
      ∙ has_contained (fronts p ++ added_outs p q) t (Contains-append_right (fronts p) (added_outs p q) t (outs j low is))
    where
      outs : (k : ℕ) → k < length q.named.nodes → (named_at q.named k).out ≡ t → Contains (added_outs p q) t
      outs k lt e =
          let here : text_at (node_outs q.named) k ≡ t = get_or-map (λ (n : NamedNode). n.out) q.named.nodes k no_named [] lt ∙ e in
          let all : Contains (node_outs q.named) t = subst (Contains (node_outs q.named)) here (Contains-get_or (node_outs q.named) k [] (omega (arith, length-map q.named.nodes (λ (n : NamedNode). n.out)))) in
          subst (λ (ns : List NamedNode). Contains (map (λ (n : NamedNode). n.out) ns) t) (sym all_came) all

  -- what a node drives is a text of the word, or is none of the names that were there
  pub out_cases : (n : NamedNode) → Contains (added_nodes p q) n → Contains (texts_of p.names word) n.out ⊎ IsFresh p n.out
  out_cases n c = by (All-contains (DrivesRootOrFresh p h.roots) (added_nodes p q) n h.outs c)
    where
      by : DrivesRootOrFresh p h.roots n → Contains (texts_of p.names word) n.out ⊎ IsFresh p n.out
      by (inl root) = inl (root_of_word sources p q G lines word rails h.roots begun named h.extends h.rooted n.out root)
      by (inr fresh) = inr fresh

  -- a name that was there, is no source's and stands not in the word is undriven
  name_free : (name : Name) → IsName p.names name → (IsSourceNumber sources name.number → ⊥) → (Contains (texts_of p.names word) (text_of p.names name) → ⊥) → has_text (drivers q.named) (text_of p.names name) ≡ false
  name_free name is apart absent = lacks_so (drivers q.named) (text_of p.names name) (λ c. by (Contains-append_cases (fronts p) (added_outs p q) (text_of p.names name) (subst (λ (ts : List (List ℕ)). Contains ts (text_of p.names name)) drivers_split c)))
    where
      by : Contains (fronts p) (text_of p.names name) ⊎ Contains (added_outs p q) (text_of p.names name) → ⊥
      by (inl c) =
          lacks (drivers p.named) (text_of p.names name) (name_undriven sources p G begun name.number is apart)
          (subst (λ (ts : List (List ℕ)). Contains ts (text_of p.names name)) (sym (fronts_are sources p G begun)) c)
      by (inr c) = (let n = out_of (text_of p.names name) c in node n.0 n.2 (out_cases n.0 n.1))
        where
          node : (n : NamedNode) → n.out ≡ text_of p.names name → Contains (texts_of p.names word) n.out ⊎ IsFresh p n.out → ⊥
          node n e (inl there) = absent (subst (Contains (texts_of p.names word)) e there)
          node n e (inr fresh) =
              lacks p.names (text_of p.names name) (ap (has_text p.names) (sym e) ∙ fresh) (contained_has p.names (text_of p.names name) (has_at p.names name.number is))

  -- the rails are free
  pub rails_free : AreFreeRails q (Some rails)
  rails_free =
      let first = text_of p.names rails.first in
      let second = text_of p.names rails.second in (
        λ e. (rails_apart sources p G lines word rails begun named) (sym first_same ∙ e ∙ second_same),
        ap (has_text (drivers q.named)) first_same
            ∙ name_free rails.first (rails_are sources p G lines word rails begun named).0 named.first_apart (λ c. (rail_apart sources p G lines word rails begun named) first c (Contains-get_or (texts_of p.names (rail_list rails)) 0 [] (omega arith))),
        ap (has_text (drivers q.named)) second_same
            ∙ name_free rails.second (rails_are sources p G lines word rails begun named).1 named.second_apart (λ c. (rail_apart sources p G lines word rails begun named) second c (Contains-get_or (texts_of p.names (rail_list rails)) 1 [] (omega arith))),
      )

  -- what is driven has a name
  pub driven_named : All (λ t. has_text q.names t ≡ true) (drivers q.named)
  driven_named = All-from_get_or (λ t. has_text q.names t ≡ true) (drivers q.named) [] (λ k lt. (
      let t = text_at (drivers q.named) k in
      by t (Contains-append_cases (fronts p) (added_outs p q) t (subst (λ (ts : List (List ℕ)). Contains ts t) drivers_split (Contains-get_or (drivers q.named) k [] lt)))))
    where
      by : (t : List ℕ) → Contains (fronts p) t ⊎ Contains (added_outs p q) t → has_text q.names t ≡ true
      by t (inl c) = has_stays t (front_has sources p G begun t c)
      by t (inr c) = (let n = out_of t c in ap (has_text q.names) (sym n.2) ∙ All-contains (DrivesListed q.names) (added_nodes p q) n.0 h.listed n.1)

  -- no name is driven twice, where no source's is
  pub driven_once : IsNumbering (drivers p.named) → IsNumbering (drivers q.named)
  driven_once once =
      subst IsNumbering (sym drivers_split) (numbering_append (fronts p) (added_outs p q) (subst IsNumbering (fronts_are sources p G begun) once) h.once apart)
    where
      apart : (t : List ℕ) → Contains (fronts p) t → Contains (added_outs p q) t → ⊥
      apart t c d = (let n = out_of t d in by n.0 n.2 (All-contains (DrivesRootOrFresh p h.roots) (added_nodes p q) n.0 h.outs n.1))
        where
          by : (n : NamedNode) → n.out ≡ t → DrivesRootOrFresh p h.roots n → ⊥
          by n e (inl root) =
              lacks (drivers p.named) t (All-contains (IsUndriven p.named) (root_texts p.names h.roots) t (roots_undriven sources p G h.roots begun h.are) (subst (Contains (root_texts p.names h.roots)) e root))
              (subst (λ (ts : List (List ℕ)). Contains ts t) (sym (fronts_are sources p G begun)) c)
          by n e (inr fresh) = lacks p.names t (ap (has_text p.names) (sym e) ∙ fresh) (contained_has p.names t (front_has sources p G begun t c))
