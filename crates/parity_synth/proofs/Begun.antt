-- A netlist with foretold checks as it is begun: the source's own covers under its names, and how many names predictors add.
use Rattle.std.proofs.Common.{◌≡◌, ℕ, ◌+◌, ◌<◌, List, [], ◌∷◌, map, take, length, slice_index, All, suc, refl, sym, ◌∙◌, ap, ap₂, subst, arith}
use Rattle.std.proofs.lemmas.List.{take_all, length-map}
use Rattle.std.proofs.lemmas.List.Elements.{All-from_get_or}
use Rattle.fault_secure.specs.Circuit.{Circuit, node, node_net, pin_net, nets}
use Rattle.tsc_net.specs.Names.{text_at}
use Rattle.tsc_net.specs.NetlistOf.{NetlistOf, IsBuilt}
use Rattle.tsc_net.specs.Parts.{PartsOf}
use Rattle.tsc_net.specs.PartsView.{text_of, texts_of, IsName}
use Rattle.tsc_net.specs.declared.ids.Name.{Name}
use Rattle.tsc_bits.proofs.Lists.{map_agrees}
use Rattle.net_cones.specs.ConeMarks.{cone_of}
use Rattle.net_cones.specs.Cones.{IsCone}
use Rattle.parity_code.specs.ParityCircuit.{predictors_end}
use Rattle.parity_code.specs.ParityFunction.{outputs_at}
use Rattle.parity_code.specs.Held.{PartsGrow}
use Rattle.parity_code.specs.Predictors.{node_by, with_nodes, with_predictor, with_predictors, check_texts, predictors_size}
use Rattle.parity_code.specs.PredictorSteps.{name_at, IsNameable}
use Rattle.parity_code.proofs.PlacesWithin.{places_within}
use Rattle.parity_code.proofs.PredictorParts.{text_kept}
use Rattle.parity_code.proofs.PredictorGroups.{predictor_count}
use Rattle.net_writing.specs.Begun.{begun_to, AreOwnNames}
use Rattle.code_checkers.specs.GateList.{GateList}
use Rattle.parity_synth.specs.ParityNet.{group_cone_of}
use Rattle.parity_synth.specs.Composed.{with_checked, own_parts}
use Rattle.parity_synth.specs.Planning.{AreGrouped}

-- each group has places of outputs alone
pub groups_within : (outputs : ℕ) (groups : List (List ℕ)) → AreGrouped outputs groups → All (All (λ place. place < outputs)) groups
groups_within outputs groups are =
    All-from_get_or (All (λ place. place < outputs)) groups [] (λ i there. places_within (λ place. place < outputs) groups are.within i)

-- how many names the predictors add
pub predictors_count : (S : NetlistOf) (groups : List (List ℕ)) (p : PartsOf) → length (with_predictors S groups p).names ≡ length p.names + predictors_size S.circuit groups
predictors_count S [] p = omega arith
predictors_count S (group ∷ groups) p = omega (arith, predictors_count S groups (with_predictor S group p), predictor_count S group p)

-- there is a check for each group
check_texts_count : (S : NetlistOf) (groups : List (List ℕ)) (p : PartsOf) → length (check_texts S groups p) ≡ length groups
check_texts_count S [] p = refl
check_texts_count S (group ∷ groups) p = ap suc (check_texts_count S groups (with_predictor S group p))

pub checks_count : (S : NetlistOf) (groups : List (List ℕ)) (p : PartsOf) (texts : List (List ℕ)) (checks : List Name) → texts_of texts checks ≡ check_texts S groups p → length checks ≡ length groups
checks_count S groups p texts checks are = sym (length-map checks (text_of texts)) ∙ ap length are ∙ check_texts_count S groups p

-- as many as there are nodes from the first to the end
pub sizes_are : (C : Circuit) (groups : List (List ℕ)) (base : ℕ) → predictors_end (map (group_cone_of C) groups) base ≡ base + predictors_size C groups
sizes_are C [] base = omega arith
sizes_are C (group ∷ groups) base = omega (arith, sizes_are C groups (base + (length (cone_of C (outputs_at C group)) + length group)))

module _ (S : NetlistOf) (checked : IsBuilt S) (kept : List ℕ) (is : IsCone S.circuit S.circuit.outputs kept) (names : List Name) (own : AreOwnNames (nets S.circuit) names) where
  own_texts : take (nets S.circuit) S.names ≡ S.names
  own_texts = let sized : length S.names ≡ nets S.circuit = checked.sized in take_all (nets S.circuit) S.names (omega arith)

  own_count : length (take (nets S.circuit) S.names) ≡ nets S.circuit
  own_count = ap (λ texts. length texts) own_texts ∙ checked.sized

  own_name : (net : ℕ) → net < nets S.circuit → IsName (take (nets S.circuit) S.names) (name_at names net)
  own_name net there = omega (arith, own.own net there, own_count)

  own_text : (net : ℕ) → net < nets S.circuit → text_of (take (nets S.circuit) S.names) (name_at names net) ≡ text_at S.names net
  own_text net there = ap (text_at (take (nets S.circuit) S.names)) (own.own net there) ∙ ap (λ texts. text_at texts net) own_texts

  own_reads : (place : ℕ) → place < length S.circuit.nodes → All (λ net. net < nets S.circuit) (node S.circuit place).reads
  own_reads place there = All-from_get_or (λ net. net < nets S.circuit) (node S.circuit place).reads 0 (λ pin has. checked.closed.pins place pin there has)

  own_nameable_there : All (IsNameable S.circuit (take (nets S.circuit) S.names) names) kept
  own_nameable_there = All-from_get_or (IsNameable S.circuit (take (nets S.circuit) S.names) names) kept 0 each
    where
      each : (k : ℕ) → k < length kept → IsNameable S.circuit (take (nets S.circuit) S.names) names (slice_index kept k)
      each k there =
          let low : slice_index kept k < length S.circuit.nodes = is.within k there in
          record {
            within = is.within k there;
            reads = All-from_get_or (λ net. IsName (take (nets S.circuit) S.names) (name_at names net)) (node S.circuit (slice_index kept k)).reads 0
                (λ pin has. own_name (pin_net S.circuit (slice_index kept k) pin) (checked.closed.pins (slice_index kept k) pin low has));
            out = own_name (node_net S.circuit (slice_index kept k)) (omega arith);
          }

  -- in the parts that were begun each node of the source that is kept can be written under its names
  pub own_nameable : (p : PartsOf) → p ≡ begun_to S (nets S.circuit) → All (IsNameable S.circuit p.names names) kept
  own_nameable p begun = subst (λ (r : PartsOf). All (IsNameable S.circuit r.names names) kept) (sym begun) own_nameable_there

  same_node : (place : ℕ) → place < length S.circuit.nodes
      → node_by S.circuit (λ n. text_of (take (nets S.circuit) S.names) (name_at names n)) place ≡ node_by S.circuit (text_at S.names) place
  same_node place there =
      let reads : map (λ n. text_of (take (nets S.circuit) S.names) (name_at names n)) (node S.circuit place).reads ≡ map (text_at S.names) (node S.circuit place).reads
      = map_agrees (λ net. net < nets S.circuit) (λ n. text_of (take (nets S.circuit) S.names) (name_at names n)) (text_at S.names) own_text (node S.circuit place).reads (own_reads place there) in
      let out : text_of (take (nets S.circuit) S.names) (name_at names (node_net S.circuit place)) ≡ text_at S.names (node_net S.circuit place)
      = own_text (node_net S.circuit place) (omega arith) in
      cc

  -- with these nodes the parts still have one name for each net of the source
  pub own_names_count : (p q : PartsOf) → p ≡ begun_to S (nets S.circuit) → q ≡ with_nodes p (map (node_by S.circuit (λ n. text_of p.names (name_at names n))) kept)
      → length q.names ≡ nets S.circuit
  own_names_count p q begun added = ap (λ (r : PartsOf). length r.names) added ∙ ap (λ (r : PartsOf). length r.names) begun ∙ own_count

  -- the parts with the source's own covers
  own_are : (p q : PartsOf) → p ≡ begun_to S (nets S.circuit) → q ≡ with_nodes p (map (node_by S.circuit (λ n. text_of p.names (name_at names n))) kept) → q ≡ own_parts S kept
  own_are p q begun added =
      added ∙ ap (λ (r : PartsOf). with_nodes r (map (node_by S.circuit (λ n. text_of r.names (name_at names n))) kept)) begun
      ∙ ap (with_nodes (begun_to S (nets S.circuit)))
      (map_agrees (λ place. place < length S.circuit.nodes) (node_by S.circuit (λ n. text_of (take (nets S.circuit) S.names) (name_at names n))) (node_by S.circuit (text_at S.names)) same_node kept
      (All-from_get_or (λ place. place < length S.circuit.nodes) kept 0 is.within))

  -- the texts of the outputs, after the logic
  outputs_texts : (p q r : PartsOf) → p ≡ begun_to S (nets S.circuit) → q ≡ with_nodes p (map (node_by S.circuit (λ n. text_of p.names (name_at names n))) kept) → PartsGrow q r
      → map (λ net. text_of r.names (name_at names net)) S.circuit.outputs ≡ map (text_at S.names) S.circuit.outputs
  outputs_texts p q r begun added grows =
      map_agrees (λ net. net < nets S.circuit) (λ net. text_of r.names (name_at names net)) (text_at S.names) each S.circuit.outputs checked.closed.outputs
    where
      each : (net : ℕ) → net < nets S.circuit → text_of r.names (name_at names net) ≡ text_at S.names net
      each net there =
          let here : q.names ≡ take (nets S.circuit) S.names = ap (λ (s : PartsOf). s.names) (own_are p q begun added) in
          text_kept q r (name_at names net).number grows (omega (arith, own.own net there, there, own_count, ap (λ texts. length texts) here))
          ∙ ap (λ (texts : List (List ℕ)). text_at texts (name_at names net).number) here ∙ own_text net there

  -- the parts that are composed are the stated ones, with whatever logic after the own covers
  pub composed_are : (logic : PartsOf → PartsOf) (names_of : PartsOf → List (List ℕ)) (p q r t : PartsOf) (checks : List Name) (made : GateList) → p ≡ begun_to S (nets S.circuit)
      → q ≡ with_nodes p (map (node_by S.circuit (λ n. text_of p.names (name_at names n))) kept) → PartsGrow q r → r ≡ logic q → texts_of r.names checks ≡ names_of q
      → t ≡ with_checked r (map (λ net. text_of r.names (name_at names net)) S.circuit.outputs) (texts_of r.names checks) made
      → t ≡ with_checked (logic (own_parts S kept)) (map (text_at S.names) S.circuit.outputs) (names_of (own_parts S kept)) made
  composed_are logic names_of p q r t checks made begun added grows written checks_are is =
      is ∙ ap₂ (λ (a b : List (List ℕ)). with_checked r a b made) (outputs_texts p q r begun added grows) checks_are
      ∙ ap (λ (s : PartsOf). with_checked s (map (text_at S.names) S.circuit.outputs) (names_of q) made) written
      ∙ ap (λ (s : PartsOf). with_checked (logic s) (map (text_at S.names) S.circuit.outputs) (names_of s) made) (own_are p q begun added)
