-- The circuit of a composed netlist: the word's gates stand in it, and after them the checker's.
use Rattle.std.proofs.Common.{◌≡◌, ℕ, ◌+◌, ◌^◌, ◌<◌, ◌≤◌, List, ◌++◌, map, length, Some, sym, ◌∙◌, ap, subst, arith}
use Rattle.std.proofs.lemmas.List.{length-map}
use Rattle.fault_secure.specs.CodePlan.{CodePlan, monitored}
use Rattle.tsc_net.specs.Named.{Named, NamedNode}
use Rattle.tsc_net.specs.Names.{text_at, place_of_text, IsNumbering}
use Rattle.tsc_net.specs.NetlistOf.{drivers, circuit_of, netlist_of}
use Rattle.tsc_net.specs.Parts.{PartsOf}
use Rattle.tsc_net.specs.PartsView.{text_of, texts_of}
use Rattle.tsc_net.specs.declared.ids.Name.{Name}
use Rattle.gate_net.specs.declared.line.Line.{Line}
use Rattle.gate_net.specs.Gates.{GateNetwork, meanings}
use Rattle.code_checkers.specs.GateList.{GateList}
use Rattle.code_checkers.specs.NodesOfGates.{StandsFrom, EndsInGates}
use Rattle.net_writing.specs.CheckerParts.{with_checker, IsCheckerOver}
use Rattle.net_writing.specs.declared.checker_writing.RailNames.{RailNames}
use Rattle.net_writing.proofs.CheckerShape.{checker_came}
use Rattle.net_writing.proofs.CheckerDriven.{rail1_text, rail2_text}
use Rattle.net_writing.proofs.CheckerCircuit.{checker_stands, circuit_ends}
use Rattle.unate_synth.specs.declared.roots.SourceNames.{SourceNames}
use Rattle.unate_synth.specs.Composed.{with_rails, IsNamedWord, StandsOver, IsComposedOf}
use Rattle.unate_synth.specs.Composing.{AddsWord}
use Rattle.unate_synth.specs.Roots.{HasSourcesOnly}
use Rattle.unate_synth.proofs.WordTexts.{fronts_are}
use Rattle.unate_synth.proofs.WordDriven.{first_same, second_same, word_same}
use Rattle.unate_synth.proofs.WordNames.{word_nets, word_alone, word_needs}
use Rattle.unate_synth.proofs.ComposedSound.{with_all, both_texts, over_texts, nodes_split, inputs_are, latches_are, all_once}
use Rattle.unate_synth.proofs.CheckerNodes.{checker_count}
use Rattle.unate_synth.proofs.ComposedParts.{composed_parts}

module _ (sources : SourceNames) (p q : PartsOf) (G : GateNetwork) (lines : List Line) (shown hidden : List Name) (rails : RailNames)
    (begun : HasSourcesOnly sources p G) (named : IsNamedWord sources p G lines (shown ++ hidden) rails) (h : AddsWord sources p q G lines (shown ++ hidden))
    (made : GateList) (over : IsCheckerOver (length (shown ++ hidden)) made) (N : Named) (model : N.model ≡ (with_all sources p q G lines shown hidden rails begun named h made over).named.model)
    (inputs : N.inputs ≡ (with_all sources p q G lines shown hidden rails begun named h made over).named.inputs)
    (latches : N.latches ≡ (with_all sources p q G lines shown hidden rails begun named h made over).named.latches)
    (nodes : N.nodes ≡ (with_all sources p q G lines shown hidden rails begun named h made over).named.nodes) (once : IsNumbering (drivers p.named))
    (numbering : IsNumbering (with_all sources p q G lines shown hidden rails begun named h made over).names) where
  -- the nets of the word
  abbrev word_places : List ℕ
  word_places = map (place_of_text (drivers N)) (texts_of p.names shown ++ texts_of p.names hidden)

  -- as the word's names give them
  places_are : map (place_of_text (drivers N)) (texts_of p.names (shown ++ hidden)) ≡ word_places
  places_are = ap (map (place_of_text (drivers N))) (both_texts sources p q G lines shown hidden rails begun named h made over)

  -- no name is driven twice
  distinct : IsNumbering (drivers N)
  distinct = all_once sources p q G lines shown hidden rails begun named h made over N inputs latches nodes once numbering

  -- the nodes of the checker
  abbrev more : List NamedNode
  more = (checker_came q (texts_of q.names (shown ++ hidden)) made (Some rails)).added

  -- the inputs, latches and nodes go on those of the word's parts
  ins : N.inputs ≡ q.named.inputs
  ins = inputs_are sources p q G lines shown hidden rails begun named h made over N inputs latches nodes once numbering

  -- so do the latches
  ls : N.latches ≡ q.named.latches
  ls = latches_are sources p q G lines shown hidden rails begun named h made over N inputs latches nodes once numbering

  -- and the nodes
  ns : N.nodes ≡ q.named.nodes ++ more
  ns = nodes_split sources p q G lines shown hidden rails begun named h made over N inputs latches nodes once numbering

  -- a plan whose word is the word's nets and whose rails are the rails' nets has its checker here
  module _ (P : CodePlan) (word_is : monitored (circuit_of N) P ≡ word_places) (first : P.rail1 ≡ place_of_text (drivers N) (text_of p.names rails.first)) (second : P.rail2 ≡ place_of_text (drivers N) (text_of p.names rails.second)) where
    -- the word by the texts that the checker was written over
    monitored_are : monitored (circuit_of N) P ≡ map (place_of_text (drivers N)) (texts_of q.names (shown ++ hidden))
    monitored_are = word_is ∙ sym places_are ∙ ap (map (place_of_text (drivers N))) (sym (word_same sources p G lines (shown ++ hidden) rails begun named q h))

    -- the first rail's net is that of the first rail's gate
    first_is : P.rail1 ≡ place_of_text (drivers N) (text_at (with_checker q (texts_of q.names (shown ++ hidden)) made (Some rails)).names made.rail1)
    first_is =
        first
        ∙ ap (place_of_text (drivers N)) (sym (rail1_text q (texts_of q.names (shown ++ hidden)) made over.plan over.is_checker rails ∙ first_same sources p G lines (shown ++ hidden) rails begun named q h))

    -- and the second's that of the second
    second_is : P.rail2 ≡ place_of_text (drivers N) (text_at (with_checker q (texts_of q.names (shown ++ hidden)) made (Some rails)).names made.rail2)
    second_is =
        second
        ∙ ap (place_of_text (drivers N)) (sym (rail2_text q (texts_of q.names (shown ++ hidden)) made over.plan over.is_checker rails over.well_made ∙ second_same sources p G lines (shown ++ hidden) rails begun named q h))

    -- the checker stands, and nothing is after it
    checker_is : StandsFrom (circuit_of N) P (length q.named.nodes) made × EndsInGates (circuit_of N) P (length q.named.nodes) made
    checker_is =
        let word = texts_of q.names (shown ++ hidden) in
        let fit = over_texts sources p q G lines shown hidden rails begun named h made over in (
          checker_stands q word made (Some rails) fit N distinct nodes P monitored_are first_is second_is,
          circuit_ends q word made (Some rails) fit N distinct nodes P monitored_are first_is second_is,
        )

  -- the gates stand over the word
  gates_stand : StandsOver (circuit_of N) (meanings G lines) made word_places (place_of_text (drivers N) (text_of p.names rails.first)) (place_of_text (drivers N) (text_of p.names rails.second))
  gates_stand =
      subst (λ (word : List ℕ). StandsOver (circuit_of N) (meanings G lines) made word (place_of_text (drivers N) (text_of p.names rails.first)) (place_of_text (drivers N) (text_of p.names rails.second))) places_are (record {
        top = length q.named.nodes;
        stand = word_nets sources p q G lines (shown ++ hidden) rails h.roots begun named h.extends h.rooted N more ins ls ns distinct h.realise;
        alone = word_alone sources p q G lines (shown ++ hidden) rails h.roots begun named h.extends h.rooted N more ins ls ns distinct h.before
            (h.differ (subst IsNumbering (fronts_are sources p G begun) once));
        needed = word_needs sources p q G lines (shown ++ hidden) rails h.roots begun named h.extends h.rooted N more ins ls ns distinct h.needed;
        checker = λ P word_is first second. checker_is P (word_is ∙ places_are) first second;
      })

  -- at most a node for each gate stands there, and a buffer for each line
  few_nodes : length (circuit_of N).nodes ≤ length G.gates + length lines + length made.gates
  few_nodes =
      let mapped : length (circuit_of N).nodes ≡ length N.nodes = length-map N.nodes _ in
      let all = checker_count q (texts_of q.names (shown ++ hidden)) made (Some rails) in
      omega (arith, mapped, ap length nodes, all, h.nodes, ap length begun.nodeless)

  -- the netlist is composed
  pub is_composed : length q.names + length made.gates < 2 ^ 32 → N.outputs ≡ texts_of p.names (with_rails shown rails)
      → IsComposedOf p G lines made (texts_of p.names shown) (texts_of p.names hidden) (text_of p.names rails.first) (text_of p.names rails.second) (netlist_of N)
  is_composed small outputs = record {
    parts = composed_parts sources p q G lines shown hidden rails begun named h made over small N model inputs latches nodes once numbering outputs;
    gates = gates_stand;
    few = few_nodes;
  }
