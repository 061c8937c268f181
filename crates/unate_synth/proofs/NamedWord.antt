-- The word of gates that were written by names: its nets realise what its lines mean.
use Rattle.std.proofs.Common.{◌≡◌, ℕ, suc, ◌<◌, inl, inr, List, [], ◌∷◌, ◌++◌, map, length, Contains, sym, subst, arith}
use Rattle.std.specs.List.{AllZip}
use Rattle.std.proofs.lemmas.List.Elements.{All-contains}
use Rattle.tsc_net.specs.Named.{Named, NamedNode}
use Rattle.tsc_net.specs.Names.{text_at, place_of_text, IsNumbering}
use Rattle.tsc_net.specs.NetlistOf.{drivers, circuit_of}
use Rattle.tsc_net.specs.Parts.{PartsOf}
use Rattle.tsc_net.specs.PartsView.{text_of, texts_of}
use Rattle.tsc_net.specs.declared.ids.Name.{Name}
use Rattle.gate_net.specs.declared.line.Line.{Line}
use Rattle.gate_net.specs.declared.root.Root.{Root}
use Rattle.gate_net.specs.Signal.{Signal}
use Rattle.gate_net.specs.Signal.Signal.{Input}
use Rattle.gate_net.specs.Gates.{GateNetwork, meaning, meanings}
use Rattle.gate_net.specs.Realised.{AllRealise}
use Rattle.gate_net.specs.Written.{NameIsRoot, RootsRealise}
use Rattle.net_writing.specs.Names.{name_at}
use Rattle.unate_synth.specs.declared.roots.SourceNames.{SourceNames}
use Rattle.unate_synth.specs.Roots.{line_at, IsSourceNumber, IsRooted}
use Rattle.unate_synth.proofs.NamedGates.{name_is_root}

-- a text that realises what a line means, place by place
abbrev pub AreRootsOf : Named → ℕ → GateNetwork → List Line → List (List ℕ) → Type 0
AreRootsOf M lo G lines texts = AllZip (λ line text. NameIsRoot M lo (meaning G line) text) lines texts

-- the nets of such texts realise what the lines mean, in the circuit of a netlist whose nodes these are first
pub word_realises : (M N : Named) (more : List NamedNode) → N.inputs ≡ M.inputs → N.latches ≡ M.latches → N.nodes ≡ M.nodes ++ more → IsNumbering (drivers N) → (lo : ℕ) (G : GateNetwork) (lines : List Line) (texts : List (List ℕ))
    → AreRootsOf M lo G lines texts → AllRealise (circuit_of N) (length M.nodes) (meanings G lines) (map (place_of_text (drivers N)) texts)
word_realises M N more inputs latches nodes distinct lo G [] [] h = tt
word_realises M N more inputs latches nodes distinct lo G [] (text ∷ texts) h = absurd h
word_realises M N more inputs latches nodes distinct lo G (line ∷ lines) [] h = absurd h
word_realises M N more inputs latches nodes distinct lo G (line ∷ lines) (text ∷ texts) h =
    (name_is_root M N more inputs latches nodes distinct lo (meaning G line) text h.0, word_realises M N more inputs latches nodes distinct lo G lines texts h.1)

-- what holds at each place of two lists as long as each other holds place by place
zip_places : (M : Named) (lo : ℕ) (G : GateNetwork) (names : List (List ℕ)) (lines : List Line) (word : List Name) → length lines ≡ length word
    → ((i : ℕ) → i < length lines → NameIsRoot M lo (meaning G (line_at lines i)) (text_of names (name_at word i))) → AreRootsOf M lo G lines (texts_of names word)
zip_places M lo G names [] [] long at = tt
zip_places M lo G names [] (name ∷ word) long at = absurd (none (length word) long)
  where
    none : (n : ℕ) → 0 ≡ suc n → ⊥
    none n e = omega arith
zip_places M lo G names (line ∷ lines) [] long at = absurd (none (length lines) long)
  where
    none : (n : ℕ) → suc n ≡ 0 → ⊥
    none n e = omega arith
zip_places M lo G names (line ∷ lines) (name ∷ word) long at =
    (at 0 (omega arith), zip_places M lo G names lines word (omega (arith, long)) (λ i lt. at (suc i) (omega arith)))

module _ (p : PartsOf) (lo : ℕ) (G : GateNetwork) (roots : List Root) (realise : RootsRealise p lo G roots) where
  -- a name that a root has realises what the root's line means
  pub root_stands : (root : Root) → Contains roots root → NameIsRoot p.named lo (meaning G root.line) (text_of p.names root.name)
  root_stands root c = All-contains (λ (r : Root). NameIsRoot p.named lo (meaning G r.line) (text_of p.names r.name)) roots root realise c

  -- the name of an input realises what a line means that means the input
  pub input_stands : (line : Line) (i : ℕ) (text : List ℕ) → meaning G line ≡ Input i → i < length p.named.inputs → text ≡ text_at p.named.inputs i → NameIsRoot p.named lo (meaning G line) text
  input_stands line i text means low is = subst (λ (signal : Signal). NameIsRoot p.named lo signal text) (sym means) (inl (low, is))

  module _ (sources : SourceNames) (lines : List Line) (word : List Name) (rooted : (i : ℕ) → i < length lines → IsRooted sources roots lines word i)
      (source : (i : ℕ) → i < length lines → IsSourceNumber sources (name_at word i).number → NameIsRoot p.named lo (meaning G (line_at lines i)) (text_of p.names (name_at word i)))
      (same : (i j : ℕ) → i < length lines → j < length lines → name_at word j ≡ name_at word i → meaning G (line_at lines j) ≡ meaning G (line_at lines i)) where
    -- the name at a place of the word realises what the line there means
    place_stands : (i : ℕ) → i < length lines → NameIsRoot p.named lo (meaning G (line_at lines i)) (text_of p.names (name_at word i))
    place_stands i lt = by (rooted i lt)
      where
        by : IsRooted sources roots lines word i → NameIsRoot p.named lo (meaning G (line_at lines i)) (text_of p.names (name_at word i))
        by (inl s) = source i lt s
        by (inr (j, low, at, c)) =
            subst (λ (signal : Signal). NameIsRoot p.named lo signal (text_of p.names (name_at word i))) (same i j lt low at)
            (subst (λ (name : Name). NameIsRoot p.named lo (meaning G (line_at lines j)) (text_of p.names name)) at
            (root_stands (record { name = name_at word j; line = line_at lines j }) c))

    -- the names of the word, where each is a source's whose line means it, or a root's
    pub word_stands : length lines ≡ length word → AreRootsOf p.named lo G lines (texts_of p.names word)
    word_stands long = zip_places p.named lo G p.names lines word long place_stands
