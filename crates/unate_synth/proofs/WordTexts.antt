-- Parts that hold only sources: the texts of the sources, and those of a word's names and of its rails', none of which stands twice.
use Rattle.std.proofs.Common.{◌≡◌, ℕ, zero, suc, ◌+◌, ◌-◌, ◌<◌, ◌⊎◌, inl, inr, true, List, [], ◌∷◌, ◌++◌, map, take, drop, length, All, Contains, Some, sym, ◌∙◌, ap, subst, arith, append-nil, length-drop, get_or-take}
use Rattle.std.proofs.lemmas.List.{get_or-drop, length-take, length-map, map-append, get_or-map}
use Rattle.std.proofs.lemmas.List.Elements.{All-get_or, Contains-get_or, Contains-append_left, Contains-append_right, Contains-append_cases}
use Rattle.tsc_net.specs.Named.{NamedNode, latch_outs}
use Rattle.tsc_net.specs.Names.{text_at, has_text, IsNumbering}
use Rattle.tsc_net.specs.NetlistOf.{drivers}
use Rattle.tsc_net.specs.Parts.{PartsOf}
use Rattle.tsc_net.specs.PartsView.{text_of, texts_of, IsName}
use Rattle.tsc_net.specs.declared.ids.Name.{Name}
use Rattle.gate_net.specs.declared.line.Line.{Line}
use Rattle.gate_net.specs.Gates.{GateNetwork}
use Rattle.gate_net.proofs.Texts.{has_contained}
use Rattle.net_writing.specs.CheckerParts.{AreRailNames}
use Rattle.net_writing.specs.Names.{name_at}
use Rattle.net_writing.specs.declared.checker_writing.RailNames.{RailNames}
use Rattle.unate_synth.specs.declared.roots.SourceNames.{SourceNames}
use Rattle.unate_synth.specs.Composed.{with_rails, IsNamedWord}
use Rattle.unate_synth.specs.Roots.{IsSourceNumber, HasSourcesOnly}
use Rattle.unate_synth.proofs.Numberings.{contains_take, contains_drop, numbering_apart, numbering_right}
use Rattle.tsc_bits.proofs.Lists.{all_left, all_right}

-- what the sources of parts give
abbrev pub fronts : PartsOf → List (List ℕ)
fronts p = p.named.inputs ++ latch_outs p.named

-- the rails' names
abbrev pub rail_list : RailNames → List Name
rail_list rails = rails.first ∷ (rails.second ∷ [])

module _ (sources : SourceNames) (p : PartsOf) (G : GateNetwork) (begun : HasSourcesOnly sources p G) where
  -- nothing else is driven
  pub fronts_are : drivers p.named ≡ fronts p
  fronts_are = ap (λ (ns : List NamedNode). fronts p ++ map (λ (n : NamedNode). n.out) ns) begun.nodeless ∙ append-nil (fronts p)

  -- the sources by their names
  pub fronts_named : fronts p ≡ take sources.inputs p.names ++ take sources.latches (drop sources.first p.names)
  fronts_named = sym fronts_are ∙ begun.driven

  -- a source has a name
  pub front_has : (t : List ℕ) → Contains (fronts p) t → has_text p.names t ≡ true
  front_has t c = by (Contains-append_cases (take sources.inputs p.names) (take sources.latches (drop sources.first p.names)) t (subst (λ (ts : List (List ℕ)). Contains ts t) fronts_named c))
    where
      by : Contains (take sources.inputs p.names) t ⊎ Contains (take sources.latches (drop sources.first p.names)) t → has_text p.names t ≡ true
      by (inl a) = has_contained p.names t (contains_take sources.inputs p.names t a)
      by (inr b) = has_contained p.names t (contains_drop sources.first p.names t (contains_take sources.latches (drop sources.first p.names) t b))

  -- the text of a source's name is a source's
  pub source_front : (number : ℕ) → number < length p.names → IsSourceNumber sources number → Contains (fronts p) (text_at p.names number)
  source_front number low s = subst (λ (ts : List (List ℕ)). Contains ts (text_at p.names number)) (sym fronts_named) (by s)
    where
      by : IsSourceNumber sources number → Contains (take sources.inputs p.names ++ take sources.latches (drop sources.first p.names)) (text_at p.names number)
      by (inl less) =
          let within : number < length (take sources.inputs p.names) = omega (arith, length-take {A = List ℕ} sources.inputs p.names) in
          Contains-append_left (take sources.inputs p.names) (take sources.latches (drop sources.first p.names)) (text_at p.names number)
          (subst (Contains (take sources.inputs p.names)) (get_or-take sources.inputs p.names number [] less) (Contains-get_or (take sources.inputs p.names) number [] within))
      by (inr (from, less)) =
          let at : sources.first + (number - sources.first) ≡ number = omega arith in
          let short : number - sources.first < sources.latches = omega arith in
          let within : number - sources.first < length (take sources.latches (drop sources.first p.names))
          = omega (arith, length-take {A = List ℕ} sources.latches (drop sources.first p.names), length-drop {A = List ℕ} sources.first p.names) in
          let is : text_at (take sources.latches (drop sources.first p.names)) (number - sources.first) ≡ text_at p.names number
          = get_or-take sources.latches (drop sources.first p.names) (number - sources.first) [] short ∙ get_or-drop sources.first p.names (number - sources.first) [] ∙ ap (text_at p.names) at in
          Contains-append_right (take sources.inputs p.names) (take sources.latches (drop sources.first p.names)) (text_at p.names number)
          (subst (Contains (take sources.latches (drop sources.first p.names))) is (Contains-get_or (take sources.latches (drop sources.first p.names)) (number - sources.first) [] within))

module _ (sources : SourceNames) (p : PartsOf) (G : GateNetwork) (lines : List Line) (word : List Name) (rails : RailNames) (begun : HasSourcesOnly sources p G) (named : IsNamedWord sources p G lines word rails) where
  -- the word's names and the rails' are names
  pub word_names : All (IsName p.names) word
  word_names = all_left (IsName p.names) word (rail_list rails) named.names

  -- so are the rails'
  pub rail_names : All (IsName p.names) (rail_list rails)
  rail_names = all_right (IsName p.names) word (rail_list rails) named.names

  -- one by one
  pub rails_are : AreRailNames p.names (Some rails)
  rails_are =
      let none : Name = record { number = 0 } in
      (All-get_or (IsName p.names) (rail_list rails) 0 none (omega arith) rail_names, All-get_or (IsName p.names) (rail_list rails) 1 none (omega arith) rail_names)

  -- the text at a place of the names
  pub text_here : (list : List Name) (i : ℕ) → i < length list → text_at (texts_of p.names list) i ≡ text_at p.names (name_at list i).number
  text_here list i lt = get_or-map (text_of p.names) list i (record { number = 0 }) [] lt

  -- no text of theirs stands twice
  pub texts_once : IsNumbering (texts_of p.names (with_rails word rails))
  texts_once = record {
    distinct = λ a b la lb e. (
        let all = with_rails word rails in
        let none : Name = record { number = 0 } in
        let many : length (texts_of p.names (with_rails word rails)) ≡ length (with_rails word rails) = length-map (with_rails word rails) (text_of p.names) in
        let first : a < length (with_rails word rails) = omega (arith, many) in
        let second : b < length (with_rails word rails) = omega (arith, many) in
        named.once a b first second
        (begun.distinct.distinct (name_at all a).number (name_at all b).number (All-get_or (IsName p.names) all a none first named.names) (All-get_or (IsName p.names) all b none second named.names)
        (sym (text_here all a first) ∙ e ∙ text_here all b second)));
  }

  -- the texts of the word and then the rails'
  texts_split : texts_of p.names (with_rails word rails) ≡ texts_of p.names word ++ texts_of p.names (rail_list rails)
  texts_split = map-append (text_of p.names) word (rail_list rails)

  -- no rail's text is one of the word's
  pub rail_apart : (t : List ℕ) → Contains (texts_of p.names word) t → Contains (texts_of p.names (rail_list rails)) t → ⊥
  rail_apart t c d = numbering_apart (texts_of p.names word) (texts_of p.names (rail_list rails)) (subst IsNumbering texts_split texts_once) t c d

  -- nor is the one the other's
  pub rails_apart : text_of p.names rails.first ≡ text_of p.names rails.second → ⊥
  rails_apart e =
      let both : IsNumbering (texts_of p.names (rail_list rails)) = numbering_right (texts_of p.names word) (texts_of p.names (rail_list rails)) (subst IsNumbering texts_split texts_once) in
      absurd (unlike (both.distinct 0 1 (omega arith) (omega arith) e))
    where
      unlike : zero ≡ suc zero → ⊥
      unlike e = omega arith
