-- A netlist with foretold checks as it is composed by names: its nodes, in three stretches, and the names of its nets.
use Rattle.std.proofs.Common.{◌≡◌, ℕ, ◌+◌, ◌^◌, ◌<◌, ◌≤◌, List, [], ◌∷◌, ◌++◌, map, take, length, None, sym, ◌∙◌, ap, ap₂, subst, arith, append_assoc, length-take-le}
use Rattle.std.proofs.lemmas.List.{append-nil, map-append, take_all}
use Rattle.std.proofs.lemmas.Simd.{map-map}
use Rattle.fault_secure.specs.Circuit.{Circuit, NodeOf, nets}
use Rattle.tsc_net.specs.Named.{Named, NamedNode, NamedLatch, node_outs}
use Rattle.tsc_net.specs.Names.{text_at, place_of_text}
use Rattle.tsc_net.specs.NetlistOf.{NetlistOf, IsBuilt, drivers}
use Rattle.tsc_net.specs.Parts.{PartsOf, free_number, fresh_text}
use Rattle.parity_code.specs.FirstFit.{AreFirstFit, first_fit_groups}
use Rattle.net_cones.specs.Cones.{IsCone}
use Rattle.parity_code.specs.ParityCircuit.{StandAt}
use Rattle.parity_code.specs.Predictors.{node_by}
use Rattle.code_checkers.specs.GateList.{GateList, IsCheckerOf}
use Rattle.code_checkers.specs.Within.{ReadsWord}
use Rattle.net_writing.specs.CheckerParts.{GateParts, with_checker}
use Rattle.net_writing.specs.Outputs.{with_outputs}
use Rattle.tsc_bits.specs.Lists.{AreApart}
use Rattle.parity_synth.specs.Composed.{with_checked, own_nodes, own_parts}
use Rattle.parity_synth.proofs.FreshOrder.{fresh_from, fresh_joined, IsFreshAt}
use Rattle.parity_synth.proofs.CheckerFresh.{HasFresh, checker_fresh}
use Rattle.parity_synth.proofs.PredictorNodes.{Writes, writes_counted, writes_fresh}
use Rattle.parity_synth.proofs.NetNames.{input_placed, fresh_placed}
use Rattle.parity_code.specs.Foretold.{Foretells}
use Rattle.parity_synth.specs.CheckedNet.{kept_places, cover_names, names_with, plan_of}

-- a source; the logic of its checks, and their nets; the parts with that logic, and the names of the checks; the gates of the checker
pub record Draft : Type 0 where
  pub source : NetlistOf
  pub logic : List NodeOf
  pub checks : List ℕ
  pub parts : PartsOf
  pub texts : List (List ℕ)
  pub made : GateList

-- names of the source's inputs and so many fresh ones have these numbers
pub record AreNumbered (S : NetlistOf) (net : List ℕ → ℕ) (last : ℕ) : Type 0 where
  pub inputs : (i : ℕ) → i < S.circuit.inputs → net (text_at S.names i) ≡ i
  pub fresh : (k : ℕ) → k < last → net (fresh_text (free_number S.names) k) ≡ S.circuit.inputs + (length (kept_places S.circuit) + k)

-- the covers that are kept
abbrev pub kept_of : Draft → List ℕ
kept_of D = kept_places D.source.circuit

-- the parts with the kept covers
abbrev pub first_parts : Draft → PartsOf
first_parts D = own_parts D.source (kept_places D.source.circuit)

-- a source without latches whose outputs differ, with first-fit groups; logic that is written after the own covers, and foretells these
-- groups wherever it stands; the gates of their checker
pub record IsDraft (D : Draft) : Type 0 where
  pub checked : IsBuilt D.source
  pub none : length D.source.circuit.latches ≡ 0
  pub few : length D.source.circuit.outputs ≤ 64
  pub once : AreApart D.source.circuit.outputs
  pub cone : IsCone D.source.circuit D.source.circuit.outputs (kept_places D.source.circuit)
  pub fit : AreFirstFit D.source.circuit (first_fit_groups D.source.circuit)
  pub written : (net : List ℕ → ℕ) (last : ℕ) → length D.logic ≤ last → AreNumbered D.source net last
      → Writes net (free_number D.source.names) 0 (own_parts D.source (kept_places D.source.circuit)) D.parts D.logic
  pub numbered : (net : List ℕ → ℕ) (last : ℕ) → length D.logic ≤ last → AreNumbered D.source net last → map net D.texts ≡ D.checks
  pub foretells : (N : Circuit) → N.inputs ≡ D.source.circuit.inputs → length N.latches ≡ 0 → StandAt N (length (kept_places D.source.circuit)) D.logic
      → Foretells D.source.circuit N (first_fit_groups D.source.circuit) D.checks (length (kept_places D.source.circuit)) (length (kept_places D.source.circuit) + length D.logic)
  pub gates : IsCheckerOf (plan_of D.source.circuit D.checks 0 0) D.made
  pub words : ReadsWord (plan_of D.source.circuit D.checks 0 0) D.made
  pub room : nets D.source.circuit + length D.logic + length D.made.gates < 2 ^ 32

module _ (D : Draft) where
  -- the texts of the outputs
  abbrev pub output_texts : List (List ℕ)
  output_texts = map (text_at D.source.names) D.source.circuit.outputs

  -- and with those of the checks after them
  abbrev pub word_texts : List (List ℕ)
  word_texts = map (text_at D.source.names) D.source.circuit.outputs ++ D.texts

  -- the parts before the checker
  abbrev pub shown_parts : PartsOf
  shown_parts = with_outputs D.parts output_texts

  -- and with it
  abbrev pub checker_parts : GateParts
  checker_parts = with_checker shown_parts word_texts D.made None

  -- the whole netlist by names
  abbrev pub composed_named : Named
  composed_named = (with_checked D.parts (map (text_at D.source.names) D.source.circuit.outputs) D.texts D.made).named

module _ (D : Draft) (h : IsDraft D) where
  -- the logic has fewer than 2 ^ 32 names
  size_few : length D.logic < 2 ^ 32
  size_few = let r = h.room in omega (arith, r)

  -- the logic, over the names of the function part alone
  function_alone : Writes (place_of_text (names_with D.source (kept_of D) (length D.logic))) (free_number D.source.names) 0 (first_parts D) D.parts D.logic
  function_alone =
      h.written (place_of_text (names_with D.source (kept_of D) (length D.logic))) (length D.logic) (omega arith) (record {
        inputs = input_placed D.source h.checked (kept_of D) h.cone.rising h.cone.within (length D.logic) size_few;
        fresh = fresh_placed D.source h.checked (kept_of D) h.cone.rising h.cone.within (length D.logic) size_few;
      })

  -- fresh names go on after the logic
  later_fresh : IsFreshAt (free_number D.source.names) (length D.logic) D.parts
  later_fresh =
      subst (λ (n : ℕ). IsFreshAt (free_number D.source.names) n D.parts) (omega arith)
      (writes_fresh (place_of_text (names_with D.source (kept_of D) (length D.logic))) (free_number D.source.names) 0 (first_parts D) D.parts D.logic function_alone)

  -- the nodes of the checker, which drive the fresh names that come after
  pub checker_came : HasFresh (free_number D.source.names) (length D.logic) (length D.made.gates) (shown_parts D) (checker_parts D).parts
  checker_came = checker_fresh (free_number D.source.names) (length D.logic) (shown_parts D) (word_texts D) D.made later_fresh

  -- how many fresh names there are
  pub fresh_names : ℕ
  fresh_names = length D.logic + length checker_came.added

  -- there are fewer than 2 ^ 32 of them
  pub fresh_few : fresh_names < 2 ^ 32
  unfolding fresh_names
  fresh_few = let f = checker_came.few in let r = h.room in omega (arith, f, r)

  -- those of the logic are among them
  pub size_within : length D.logic ≤ fresh_names
  unfolding fresh_names
  size_within = omega arith

  -- the nodes: the source's own covers, the logic, the checker
  pub nodes_are : (net : List ℕ → ℕ) (w : Writes net (free_number D.source.names) 0 (first_parts D) D.parts D.logic)
      → (composed_named D).nodes ≡ (own_nodes D.source (kept_of D) ++ w.added) ++ checker_came.added
  unfolding with_checked
  nodes_are net w = ap (λ (N : Named). N.nodes) checker_came.adds.named ∙ ap (λ (N : Named). N.nodes ++ checker_came.added) w.adds.named

  -- the inputs are those of the source
  pub inputs_are : (composed_named D).inputs ≡ take D.source.circuit.inputs D.source.names
  unfolding with_checked
  inputs_are =
      ap (λ (N : Named). N.inputs) checker_came.adds.named ∙ ap (λ (N : Named). N.inputs) function_alone.adds.named
      ∙ take_all (nets D.source.circuit) (take D.source.circuit.inputs D.source.names)
      (let s = h.checked.sized in omega (arith, s, length-take-le {A = List ℕ} D.source.circuit.inputs D.source.names (omega (arith, s))))

  -- there are no latches
  pub latches_are : (composed_named D).latches ≡ []
  unfolding with_checked
  latches_are = ap (λ (N : Named). N.latches) checker_came.adds.named ∙ ap (λ (N : Named). N.latches) function_alone.adds.named

  -- the model has the source's name
  pub model_is : (composed_named D).model ≡ D.source.model
  unfolding with_checked
  model_is = ap (λ (N : Named). N.model) checker_came.adds.named ∙ ap (λ (N : Named). N.model) function_alone.adds.named

  -- the outputs are the source's, and then the rails
  pub outputs_are : (composed_named D).outputs ≡ output_texts D ++ (text_at (checker_parts D).names D.made.rail1 ∷ (text_at (checker_parts D).names D.made.rail2 ∷ []))
  unfolding with_checked
  outputs_are =
      ap (λ (outputs : List (List ℕ)). outputs ++ (text_at (checker_parts D).names D.made.rail1 ∷ (text_at (checker_parts D).names D.made.rail2 ∷ [])))
      (ap (λ (N : Named). N.outputs) checker_came.adds.named
      ∙ ap (λ (N : Named). N.outputs ++ output_texts D) function_alone.adds.named)

  -- the names of the nets, in order
  outs_are : node_outs (composed_named D) ≡ cover_names D.source (kept_of D) ++ fresh_from (free_number D.source.names) 0 fresh_names
  unfolding fresh_names
  outs_are =
      let counted : length function_alone.added ≡ length D.logic
      = writes_counted (place_of_text (names_with D.source (kept_of D) (length D.logic))) (free_number D.source.names) 0 (first_parts D) D.parts D.logic function_alone in
      let own : map (λ (n : NamedNode). n.out) (own_nodes D.source (kept_of D)) ≡ cover_names D.source (kept_of D)
      = map-map (λ (n : NamedNode). n.out) (node_by D.source.circuit (text_at D.source.names)) (kept_of D) in
      ap (map (λ (n : NamedNode). n.out)) (nodes_are (place_of_text (names_with D.source (kept_of D) (length D.logic))) function_alone)
      ∙ map-append (λ (n : NamedNode). n.out) (own_nodes D.source (kept_of D) ++ function_alone.added) checker_came.added
      ∙ ap₂ (λ (a b : List (List ℕ)). a ++ b)
      (map-append (λ (n : NamedNode). n.out) (own_nodes D.source (kept_of D)) function_alone.added
      ∙ ap₂ (λ (a b : List (List ℕ)). a ++ b) own (function_alone.adds.outs ∙ ap (fresh_from (free_number D.source.names) 0) counted)) checker_came.adds.outs
      ∙ append_assoc (cover_names D.source (kept_of D)) (fresh_from (free_number D.source.names) 0 (length D.logic)) (fresh_from (free_number D.source.names) (length D.logic) (length checker_came.added))
      ∙ ap (λ (list : List (List ℕ)). cover_names D.source (kept_of D) ++ list)
      (ap (λ (n : ℕ). fresh_from (free_number D.source.names) 0 (length D.logic) ++ fresh_from (free_number D.source.names) n (length checker_came.added))
      (let e : length D.logic ≡ 0 + length D.logic = omega arith in e)
      ∙ sym (fresh_joined (free_number D.source.names) 0 (length D.logic) (length checker_came.added)))

  -- what is driven are the names of the checked netlist
  pub drivers_are : drivers (composed_named D) ≡ names_with D.source (kept_of D) fresh_names
  drivers_are =
      ap₂ (λ (a b : List (List ℕ)). a ++ b)
      (ap₂ (λ (a : List (List ℕ)) (list : List NamedLatch). a ++ map (λ l. l.out) list) inputs_are latches_are ∙ append-nil (take D.source.circuit.inputs D.source.names)) outs_are
      ∙ sym (append_assoc (take D.source.circuit.inputs D.source.names) (cover_names D.source (kept_of D)) (fresh_from (free_number D.source.names) 0 fresh_names))
