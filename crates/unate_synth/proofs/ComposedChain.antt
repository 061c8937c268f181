-- The steps of composing, one after the other: the word's gates, the checker, and what is shown.
use Rattle.std.proofs.Common.{◌≡◌, ℕ, ◌+◌, ◌^◌, ◌<◌, ◌≤◌, List, [], ◌++◌, length, All, Some, sym, ◌∙◌, ap, ap₂, subst, arith}
use Rattle.std.proofs.lemmas.List.Elements.{All-append, All-weaker}
use Rattle.tsc_net.specs.Names.{IsNumbering}
use Rattle.tsc_net.specs.NetlistOf.{drivers, netlist_of}
use Rattle.tsc_net.specs.Parts.{PartsOf}
use Rattle.tsc_net.specs.PartsView.{text_of, texts_of, IsName}
use Rattle.tsc_net.specs.declared.ids.Name.{Name}
use Rattle.gate_net.specs.declared.line.Line.{Line}
use Rattle.gate_net.specs.Gates.{GateNetwork}
use Rattle.gate_net.specs.Added.{added_names, IsFresh, IsFreshOut}
use Rattle.code_checkers.specs.GateList.{GateList}
use Rattle.net_writing.specs.CheckerParts.{with_checker, IsCheckerOver, AreRailNames}
use Rattle.net_writing.specs.Names.{Keeps}
use Rattle.net_writing.specs.Outputs.{with_outputs}
use Rattle.net_building.specs.Sound.{IsSound}
use Rattle.net_writing.specs.declared.checker_writing.RailNames.{RailNames}
use Rattle.net_writing.proofs.NamesKept.{texts_stay, names_stay, name_stays, keeps_twice}
use Rattle.net_writing.proofs.CheckerShape.{adds_checker}
use Rattle.unate_synth.specs.declared.roots.SourceNames.{SourceNames}
use Rattle.unate_synth.specs.Composed.{with_rails, IsNamedWord, LatchesRead, IsComposedOf}
use Rattle.unate_synth.specs.Composing.{AddsWord}
use Rattle.unate_synth.specs.Roots.{HasSourcesOnly}
use Rattle.unate_synth.proofs.RootLemmas.{extends_keeps}
use Rattle.unate_synth.proofs.FreshCame.{came_numbering}
use Rattle.unate_synth.proofs.WordTexts.{rail_list, word_names, rail_names, rails_are}
use Rattle.unate_synth.proofs.WordDriven.{words_stay, rails_stay}
use Rattle.unate_synth.proofs.ComposedSound.{composed_sound}
use Rattle.unate_synth.proofs.ComposedStands.{is_composed}
use Rattle.tsc_bits.proofs.Lists.{all_left}

-- names and rails of parts that begin: all of them are names, of the word and of what is shown
module _ (sources : SourceNames) (p : PartsOf) (G : GateNetwork) (lines : List Line) (shown hidden word : List Name) (rails : RailNames)
    (begun : HasSourcesOnly sources p G) (named : IsNamedWord sources p G lines (shown ++ hidden) rails) (word_is : word ≡ shown ++ hidden) where
  -- the word's names are names
  pub begun_words : All (IsName p.names) word
  begun_words = subst (All (IsName p.names)) (sym word_is) (word_names sources p G lines (shown ++ hidden) rails begun named)

  -- so are those of what is shown
  shown_names : All (IsName p.names) shown
  shown_names = all_left (IsName p.names) shown hidden (word_names sources p G lines (shown ++ hidden) rails begun named)

  -- and the rails'
  shown_rails : All (IsName p.names) (with_rails shown rails)
  shown_rails = All-append (IsName p.names) shown (rail_list rails) shown_names (rail_names sources p G lines (shown ++ hidden) rails begun named)

  module _ (q : PartsOf) (adds : AddsWord sources p q G lines word) where
    -- the gates of the word as it was split
    adds_split : AddsWord sources p q G lines (shown ++ hidden)
    adds_split = subst (AddsWord sources p q G lines) word_is adds

    -- the word's names stay names
    pub then_words : All (IsName q.names) word
    then_words = subst (All (IsName q.names)) (sym word_is) (words_stay sources p G lines (shown ++ hidden) rails begun named q adds_split)

    -- so do the rails'
    pub then_rails : AreRailNames q.names (Some rails)
    then_rails = rails_stay sources p G lines (shown ++ hidden) rails begun named q adds_split

    -- different names still have different texts
    then_numbering : (gates more : ℕ) → length q.names ≤ length p.names + gates → length p.names + gates + more < 2 ^ 32 → IsNumbering q.names
    then_numbering gates more few room =
        came_numbering p q adds.extends begun.distinct (omega arith) (All-weaker (IsFreshOut p q) (IsFresh p) (λ t h. h.0) (added_names p q) adds.fresh)

    module _ (r : PartsOf) (keeps : Keeps q.names r.names) where
      -- from the first parts on names keep their texts
      keeps_all : Keeps p.names r.names
      keeps_all = keeps_twice p.names q.names r.names (extends_keeps p q adds.extends) keeps

      -- the names of what is shown stay names
      pub last_shown : All (IsName r.names) shown
      last_shown = names_stay p.names r.names keeps_all shown shown_names

      -- and the rails'
      pub last_rails : AreRailNames r.names (Some rails)
      last_rails =
          let are = rails_are sources p G lines (shown ++ hidden) rails begun named in
          (name_stays p.names r.names keeps_all rails.first are.0, name_stays p.names r.names keeps_all rails.second are.1)

      module _ (made : GateList) (over : IsCheckerOver (length (shown ++ hidden)) made) (r_is : r ≡ (with_checker q (texts_of q.names word) made (Some rails)).parts)
          (kept : IsNumbering q.names → IsNumbering r.names) (s : PartsOf) (s_is : s ≡ with_outputs r (texts_of r.names (with_rails shown rails))) (gates : ℕ)
          (few : length q.names ≤ length p.names + gates) (room : length p.names + gates + length made.gates < 2 ^ 32) where
        -- the parts with the checker over the word as it was split
        abbrev whole : PartsOf
        whole = (with_checker q (texts_of q.names (shown ++ hidden)) made (Some rails)).parts

        -- which they are
        whole_is : r ≡ whole
        whole_is = r_is ∙ ap (λ (list : List Name). (with_checker q (texts_of q.names list) made (Some rails)).parts) word_is

        -- what is shown is all that is
        outputs_are : s.named.outputs ≡ texts_of p.names (with_rails shown rails)
        outputs_are =
            let a = adds_checker q (texts_of q.names (shown ++ hidden)) made (Some rails) in
            let none : r.named.outputs ≡ [] = ap (λ (x : PartsOf). x.named.outputs) whole_is ∙ a.outputs ∙ adds.extends.outputs ∙ begun.nothing_shown in
            ap (λ (x : PartsOf). x.named.outputs) s_is
            ∙ ap₂ (λ (old new : List (List ℕ)). old ++ new) none (texts_stay p.names r.names keeps_all (with_rails shown rails) shown_rails)

        -- the parts that were shown are those with the checker, except for what is shown
        inputs_are : s.named.inputs ≡ whole.named.inputs
        inputs_are = ap (λ (x : PartsOf). x.named.inputs) s_is ∙ ap (λ (x : PartsOf). x.named.inputs) whole_is

        -- the latches
        latches_are : s.named.latches ≡ whole.named.latches
        latches_are = ap (λ (x : PartsOf). x.named.latches) s_is ∙ ap (λ (x : PartsOf). x.named.latches) whole_is

        -- the nodes
        nodes_are : s.named.nodes ≡ whole.named.nodes
        nodes_are = ap (λ (x : PartsOf). x.named.nodes) s_is ∙ ap (λ (x : PartsOf). x.named.nodes) whole_is

        -- and the model
        model_is : s.named.model ≡ whole.named.model
        model_is = ap (λ (x : PartsOf). x.named.model) s_is ∙ ap (λ (x : PartsOf). x.named.model) whole_is

        -- different names have different texts
        whole_numbering : IsNumbering whole.names
        whole_numbering = subst (λ (x : PartsOf). IsNumbering x.names) whole_is (kept (then_numbering gates (length made.gates) few room))

        -- the parts are sound, where no source is given twice
        pub chain_sound : IsNumbering (drivers p.named) → 0 < length shown → LatchesRead p (texts_of p.names (shown ++ hidden)) → IsSound s.named
        chain_sound once some read =
            composed_sound sources p q G lines shown hidden rails begun named adds_split made over s.named inputs_are latches_are nodes_are once whole_numbering some read outputs_are

        -- and their netlist is composed
        pub chain_composed : IsNumbering (drivers p.named)
            → IsComposedOf p G lines made (texts_of p.names shown) (texts_of p.names hidden) (text_of p.names rails.first) (text_of p.names rails.second) (netlist_of s.named)
        chain_composed once =
            is_composed sources p q G lines shown hidden rails begun named adds_split made over s.named model_is inputs_are latches_are nodes_are once whole_numbering (omega (arith, few, room)) outputs_are
