-- A word whose gates were written for its roots: in a netlist that goes on with other nodes its nets realise what its lines mean,
-- some of them depends on each of these nodes, and equal gates are one gate.
use Rattle.std.proofs.Common.{◌≡◌, ℕ, ◌<◌, ◌≤◌, List, [], ◌∷◌, ◌++◌, map, take, drop, length, All, Contains, sym, ◌∙◌, ap, subst, arith, get_or-take, length-append}
use Rattle.std.proofs.lemmas.List.{length-map, length-take, get_or-map, get_or_append_left}
use Rattle.std.proofs.lemmas.List.Elements.{All-get_or, All-contains, All-from_get_or, Contains-get_or}
use Rattle.tsc_net.specs.Named.{Named, NamedNode}
use Rattle.tsc_net.specs.Names.{text_at, place_of_text, IsNumbering}
use Rattle.tsc_net.specs.NetlistOf.{drivers, circuit_of}
use Rattle.tsc_net.specs.Parts.{PartsOf}
use Rattle.tsc_net.specs.PartsView.{text_of, texts_of, IsName}
use Rattle.tsc_net.specs.declared.ids.Name.{Name}
use Rattle.gate_net.specs.declared.line.Line.{Line}
use Rattle.gate_net.specs.declared.root.Root.{Root}
use Rattle.gate_net.specs.Gates.{GateNetwork, meaning, meanings}
use Rattle.gate_net.specs.Realised.{AllRealise}
use Rattle.gate_net.specs.Written.{NameIsRoot, RootsRealise, Extends, ReadsBefore}
use Rattle.gate_net.specs.Added.{added_nodes, root_texts, InnerDiffer, DrivesNeeded}
use Rattle.gate_net.proofs.Texts.{contains_map, mapped_from}
use Rattle.net_writing.specs.Names.{name_at}
use Rattle.net_writing.specs.declared.checker_writing.RailNames.{RailNames}
use Rattle.net_writing.proofs.NamesKept.{texts_stay}
use Rattle.net_building.proofs.NamedNets.{input_drives}
use Rattle.unate_synth.specs.declared.roots.SourceNames.{SourceNames}
use Rattle.unate_synth.specs.Alone.{AreAlone}
use Rattle.unate_synth.specs.Composed.{with_rails, IsNamedWord, SomeDepends}
use Rattle.unate_synth.specs.Roots.{line_at, IsSourceNumber, HasSourcesOnly, IsOfPlace, AreRooted}
use Rattle.unate_synth.proofs.RootLemmas.{extends_keeps}
use Rattle.unate_synth.proofs.NamedGates.{node_alone, node_needed}
use Rattle.unate_synth.proofs.NamedWord.{AreRootsOf, word_realises, input_stands, word_stands}

-- what a function makes of an item of a list stands among what it makes of them all
mapped : {X : Type 0} (f : X → ℕ) (xs : List X) (x : X) → Contains xs x → Contains (map f xs) (f x)
mapped f xs x c = (c.0, omega (arith, c.1, length-map xs f), get_or-map f xs c.0 x (f x) c.1 ∙ ap f c.2)

module _ (sources : SourceNames) (p q : PartsOf) (G : GateNetwork) (lines : List Line) (word : List Name) (rails : RailNames) (roots : List Root)
    (begun : HasSourcesOnly sources p G) (named : IsNamedWord sources p G lines word rails) (h : Extends p q) (rooted : AreRooted sources roots lines word (length lines)) where
  -- the names of the word come before those of the rails
  word_first : (i : ℕ) → i < length word → name_at (with_rails word rails) i ≡ name_at word i
  word_first i lt = get_or_append_left word (rails.first ∷ (rails.second ∷ [])) (record { number = 0 }) i lt

  -- the rails make the list longer
  longer : length word ≤ length (with_rails word rails)
  longer = omega (arith, length-append word (rails.first ∷ (rails.second ∷ [])))

  -- each place of the word has a name of the parts
  word_is : (i : ℕ) → i < length word → IsName p.names (name_at word i)
  word_is i lt = subst (IsName p.names) (word_first i lt) (All-get_or (IsName p.names) (with_rails word rails) i (record { number = 0 }) (omega (arith, longer)) named.names)

  -- the names of the word keep their texts
  texts_same : texts_of q.names word ≡ texts_of p.names word
  texts_same = texts_stay p.names q.names (extends_keeps p q h) word (All-from_get_or (IsName p.names) word (record { number = 0 }) word_is)

  -- so does the name at a place of the word
  text_same : (i : ℕ) → i < length word → text_of q.names (name_at word i) ≡ text_of p.names (name_at word i)
  text_same i lt = (extends_keeps p q h).kept (name_at word i).number (word_is i lt)

  -- the text of an input's name is that of the input
  input_text : (n : ℕ) → n < sources.inputs → n < length p.names → text_at p.names n ≡ text_at p.named.inputs n
  input_text n low within =
      let first : n < length p.named.inputs = omega (arith, begun.inputs_named, begun.inputs) in
      let taken : n < length (take sources.inputs p.names) = omega (arith, length-take {A = List ℕ} sources.inputs p.names) in
      sym (sym (input_drives p.named n first) ∙ ap (λ (ts : List (List ℕ)). text_at ts n) begun.driven
      ∙ get_or_append_left (take sources.inputs p.names) (take sources.latches (drop sources.first p.names)) [] n taken ∙ get_or-take sources.inputs p.names n [] low)

  -- no name stands at two places of the word
  same_place : (i j : ℕ) → i < length word → j < length word → name_at word j ≡ name_at word i → j ≡ i
  same_place i j hi hj e =
      named.once j i (omega (arith, longer)) (omega (arith, longer)) (ap (λ (n : Name). n.number) (word_first j hj ∙ e ∙ sym (word_first i hi)))

  module _ (lo : ℕ) (realise : RootsRealise q lo G roots) where
    -- a name of the word that is a source's is an input's, which realises what its line means
    source_stands : (i : ℕ) → i < length lines → IsSourceNumber sources (name_at word i).number → NameIsRoot q.named lo (meaning G (line_at lines i)) (text_of q.names (name_at word i))
    source_stands i lt s =
        let here : i < length word = omega (arith, named.sized) in
        let n : ℕ = (name_at word i).number in
        let low : n < sources.inputs = All-get_or (λ (name : Name). IsSourceNumber sources name.number → name.number < sources.inputs) word i (record { number = 0 }) here named.apart s in
        input_stands q lo G roots realise (line_at lines i) n (text_of q.names (name_at word i)) (named.inputs i (record { number = 0 }) here low)
        (omega (arith, ap length h.inputs, begun.inputs_named, begun.inputs, low))
        (text_same i here ∙ input_text n low (word_is i here) ∙ ap (λ (ts : List (List ℕ)). text_at ts n) (sym h.inputs))

    -- each name of the word realises what its line means
    pub word_roots : AreRootsOf q.named lo G lines (texts_of p.names word)
    word_roots =
        subst (AreRootsOf q.named lo G lines) texts_same
        (word_stands q lo G roots realise sources lines word rooted.rooted source_stands
        (λ i j hi hj e. ap (λ (k : ℕ). meaning G (line_at lines k)) (same_place i j (omega (arith, named.sized)) (omega (arith, named.sized)) e)) named.sized)

  -- the text of a root's name is that of a name of the word
  pub root_of_word : (text : List ℕ) → Contains (root_texts p.names roots) text → Contains (texts_of p.names word) text
  root_of_word text c =
      let root = mapped_from (λ (r : Root). text_of p.names r.name) roots text (record { name = record { number = 0 }; line = record { number = 0 } }) c in
      let at : IsOfPlace lines word (length lines) root.0 = All-contains (IsOfPlace lines word (length lines)) roots root.0 rooted.places root.1 in
      let low = at.1 in
      let here : at.0 < length word = omega (arith, low, named.sized) in
      subst (Contains (texts_of p.names word)) (ap (λ (r : Root). text_of p.names r.name) (sym at.2) ∙ root.2)
      (contains_map (text_of p.names) word (name_at word at.0) (Contains-get_or word at.0 (record { number = 0 }) here))

  module _ (N : Named) (more : List NamedNode) (inputs : N.inputs ≡ q.named.inputs) (latches : N.latches ≡ q.named.latches) (nodes : N.nodes ≡ q.named.nodes ++ more) (distinct : IsNumbering (drivers N)) where
    -- the net of a root's name is one of the word's
    in_word : (text : List ℕ) → Contains (root_texts p.names roots) text → Contains (map (place_of_text (drivers N)) (texts_of p.names word)) (place_of_text (drivers N) text)
    in_word text c = mapped (place_of_text (drivers N)) (texts_of p.names word) text (root_of_word text c)

    -- there were no nodes before
    from : (k : ℕ) → length p.named.nodes ≤ k
    from k = omega (arith, ap length begun.nodeless)

    -- the nets of the word realise what its lines mean
    pub word_nets : RootsRealise q (length p.named.nodes) G roots → AllRealise (circuit_of N) (length q.named.nodes) (meanings G lines) (map (place_of_text (drivers N)) (texts_of p.names word))
    word_nets realise =
        word_realises q.named N more inputs latches nodes distinct (length p.named.nodes) G lines (texts_of p.names word) (word_roots (length p.named.nodes) realise)

    -- a node that drives none of the word equals no earlier one
    pub word_alone : ReadsBefore q.named (length p.named.nodes) → InnerDiffer (root_texts p.names roots) (added_nodes p q)
        → AreAlone (circuit_of N) (map (place_of_text (drivers N)) (texts_of p.names word)) (length q.named.nodes)
    word_alone before differ k lt hidden j below same =
        node_alone q.named N more inputs latches nodes distinct (length p.named.nodes) (root_texts p.names roots) (map (place_of_text (drivers N)) (texts_of p.names word)) in_word before differ
        k (from k) lt hidden j (from j) below same

    -- some net of the word depends on each node
    pub word_needs : All (DrivesNeeded q.named (length p.named.nodes) (root_texts p.names roots)) (added_nodes p q)
        → (k : ℕ) → k < length q.named.nodes → SomeDepends (circuit_of N) k (map (place_of_text (drivers N)) (texts_of p.names word))
    word_needs needed k lt =
        node_needed q.named N more inputs latches nodes distinct (length p.named.nodes) (root_texts p.names roots) (map (place_of_text (drivers N)) (texts_of p.names word)) in_word needed k (from k) lt
