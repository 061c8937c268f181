-- Rows of nets while nodes are walked: what stands for the function of a node's net, and one node more.
use Rattle.std.proofs.Common.{◌≡◌, ℕ, ◌+◌, ◌<◌, ◌⊎◌, Bool, IsTrue, List, [], ◌∷◌, map, length, slice_index, All, refl, sym, ap, ◌∙◌, subst, arith}
use Rattle.std.proofs.lemmas.Bool.{cases_lt, cases_eq}
use Rattle.std.proofs.lemmas.List.{length-map, get_or-map}
use Rattle.std.proofs.Math.Logic.{⊎_elim}
use Rattle.std.proofs.lemmas.List.Elements.{All-same, All-map, All-weaker}
use Rattle.tsc_cover.specs.Cover.{CoverTable, truth}
use Rattle.fault_secure.specs.Circuit.{Circuit, node, node_net, bit}
use Rattle.fault_secure.proofs.GateLemmas.{read_values-no_fault}
use Rattle.tsc_net.specs.PlanView.{net_numbers}
use Rattle.tsc_net.specs.declared.ids.NetId.{NetId}
use Rattle.diagrams.specs.Decisions.{value, IsDiagram}
use Rattle.diagrams.specs.Cofactors.{Function, Same}
use Rattle.diagrams.specs.Building.{DiagramState, no_input, input_bit, StandsFor}
use Rattle.diagrams.proofs.Waits.{stands_same}
use Rattle.cover_diagrams.specs.Covering.{Grows, values, cover_function, StandForPins, IsCoverKept, IsCoverBuilt}
use Rattle.cover_diagrams.proofs.Steps.{Grows-stands, own_stands}
use Rattle.circuit_diagrams.specs.Stated.{AreValuations, net_function, node_functions}
use Rattle.circuit_diagrams.specs.Steps.{AreKept, AreBuilt}
use Rattle.circuit_diagrams.specs.NetRows.{ReadsStand, NetsStand, ReadsMarked}
use Rattle.circuit_diagrams.proofs.CoverLists.{cover_kept, cover_has_rows}

-- the function of an input's net
input_is_net : (N : Circuit) (v : List Bool → List Bool) (i : ℕ) → AreValuations N v → i < N.inputs → Same N.inputs (input_bit i) (net_function v i)
input_is_net N v i vals inside = record { at = λ x sized. sym ((vals.settles x sized).inputs i inside) }

-- what the functions of nets make of an input are the bits of these nets
pub values_of_nets : (v : List Bool → List Bool) (x : List Bool) (reads : List ℕ) → values (map (net_function v) reads) x ≡ map (bit (v x)) reads
values_of_nets v x [] = refl
values_of_nets v x (net ∷ reads) = ap (λ bits. bit (v x) net ∷ bits) (values_of_nets v x reads)

-- the function of a node's net
node_is_net : (N : Circuit) (v : List Bool → List Bool) (j : ℕ) → AreValuations N v → j < length N.nodes →
    Same N.inputs (cover_function (node N j).cover (map (net_function v) (node N j).reads)) (net_function v (node_net N j))
node_is_net N v j vals there = record {
  at = λ x sized.
      ap (truth (node N j).cover) (values_of_nets v x (node N j).reads ∙ sym (read_values-no_fault (v x) (node_net N j) 0 (node N j).reads))
      ∙ sym ((vals.settles x sized).nodes j there);
}

-- the rows of some nets
pub nets_stand : (state : DiagramState) (v : List Bool → List Bool) (rows list found : List ℕ) → found ≡ map (slice_index rows) list →
    ((k : ℕ) → k < length list → StandsFor state (net_function v (slice_index list k)) (slice_index rows (slice_index list k))) → StandForPins state (map (net_function v) list) found
nets_stand state v rows list found is each = subst (StandForPins state (map (net_function v) list)) (sym is) (record {
  sized = length-map list (net_function v) ∙ sym (length-map list (slice_index rows));
  at = λ k inside.
      let count : length (map (slice_index rows) list) ≡ length list = length-map list (slice_index rows) in
      let here : k < length list = omega arith in
      subst (λ (f : Function). StandsFor state f (slice_index (map (slice_index rows) list) k)) (sym (get_or-map (net_function v) list k 0 no_input here))
      (subst (λ (r : ℕ). StandsFor state (net_function v (slice_index list k)) r) (sym (get_or-map (slice_index rows) list k 0 0 here)) (each k here));
})

pub pins_stand : (state : DiagramState) (N : Circuit) (v : List Bool → List Bool) (j : ℕ) (rows pins : List ℕ) → pins ≡ map (slice_index rows) (node N j).reads → ReadsStand state N v j rows →
    StandForPins state (map (net_function v) (node N j).reads) pins
pins_stand state N v j rows pins is stand = nets_stand state v rows (node N j).reads pins is stand

-- rows that are there stand for their own functions
pub own_pins : (state : DiagramState) (pins : List ℕ) → All (λ pin. pin < length state.rows) pins → StandForPins state (map (value state.rows) pins) pins
own_pins state pins inside = record {
  sized = length-map pins (value state.rows);
  at = λ k there.
      subst (λ (f : Function). StandsFor state f (slice_index pins k)) (sym (get_or-map (value state.rows) pins k 0 no_input there))
      (own_stands state (slice_index pins k) (inside k 0 there));
}

pub pins_inside : (n : ℕ) (rows pins : List ℕ) (list : List NetId) → All (λ row. row < n) rows → All (λ (net : NetId). net.number < length rows) list → pins ≡ map (slice_index rows) (net_numbers list) → All (λ pin. pin < n) pins
pins_inside n rows pins list inside within is =
    All-same (λ pin. pin < n) pins _ is
    (All-map (λ pin. pin < n) (slice_index rows) (net_numbers list)
    (All-map (λ m. slice_index rows m < n) (λ (net : NetId). net.number) list
    (All-weaker (λ (net : NetId). net.number < length rows) (λ (net : NetId). slice_index rows net.number < n) (λ net low. inside net.number 0 low) list within)))

-- what a node states, by its cover
pub node_kept : (inputs : ℕ) (kept : List Function) (N : Circuit) (v : List Bool → List Bool) (j : ℕ) (c : CoverTable) → c ≡ (node N j).cover → AreKept inputs kept (node_functions N v j) →
    IsCoverKept inputs kept c (map (net_function v) (node N j).reads)
node_kept inputs kept N v j c is all =
    subst (λ (t : CoverTable). IsCoverKept inputs kept t (map (net_function v) (node N j).reads)) (sym is) (cover_kept inputs kept (node N j).cover (map (net_function v) (node N j).reads) all)

pub node_built : (state : DiagramState) (N : Circuit) (v : List Bool → List Bool) (j : ℕ) (c : CoverTable) → c ≡ (node N j).cover → IsCoverBuilt state c (map (net_function v) (node N j).reads) → AreBuilt state (node_functions N v j)
node_built state N v j c is built =
    cover_has_rows state (node N j).cover (map (net_function v) (node N j).reads) (subst (λ (t : CoverTable). IsCoverBuilt state t (map (net_function v) (node N j).reads)) is built)

pub node_stands : (state : DiagramState) (N : Circuit) (v : List Bool → List Bool) (j row : ℕ) (c : CoverTable) → c ≡ (node N j).cover → state.inputs ≡ N.inputs → AreValuations N v → j < length N.nodes →
    StandsFor state (cover_function c (map (net_function v) (node N j).reads)) row → StandsFor state (net_function v (node_net N j)) row
node_stands state N v j row c is inputs vals there stands =
    stands_same state _ _ N.inputs row inputs (node_is_net N v j vals there) (subst (λ (t : CoverTable). StandsFor state (cover_function t (map (net_function v) (node N j).reads)) row) is stands)

-- what a marked node reads has its rows
pub reads_stand : (state : DiagramState) (N : Circuit) (v : List Bool → List Bool) (marks : List Bool) (order rows : List ℕ) (k : ℕ) → ReadsMarked N marks order → k < length order → IsTrue (bit marks (slice_index order k)) →
    NetsStand state N v marks order k rows → ReadsStand state N v (slice_index order k) rows
reads_stand state N v marks order rows k reads inside marked stand = λ pin has. ⊎_elim
    (λ input. stand.inputs _ input)
    (λ (m, before, passes, is). subst (λ (net : ℕ). StandsFor state (net_function v net) (slice_index rows net)) (sym is) (stand.nodes m before passes))
    (reads.reads k pin inside marked has)

-- one node more
pub walk_on : (old new : DiagramState) (N : Circuit) (v : List Bool → List Bool) (marks : List Bool) (order before after : List ℕ) (k : ℕ) → IsDiagram old.inputs old.rows → Grows old new →
    ((other : ℕ) → (other ≡ node_net N (slice_index order k) → ⊥) → slice_index after other ≡ slice_index before other) →
    (IsTrue (bit marks (slice_index order k)) → StandsFor new (net_function v (node_net N (slice_index order k))) (slice_index after (node_net N (slice_index order k)))) →
    NetsStand old N v marks order k before → NetsStand new N v marks order (k + 1) after
walk_on old new N v marks order before after k D grown others here stand = record {
  inputs = λ i inside. kept i (λ e. absurd (omega arith)) (stand.inputs i inside);
  nodes = λ m below marked. ⊎_elim
      (λ earlier. node_kept m earlier marked)
      (λ last. let e : k ≡ m = omega arith in now m e marked)
      (cases_lt m k);
}
  where
    kept : (net : ℕ) → (net ≡ node_net N (slice_index order k) → ⊥) → StandsFor old (net_function v net) (slice_index before net) → StandsFor new (net_function v net) (slice_index after net)
    kept net apart stands = subst (λ (r : ℕ). StandsFor new (net_function v net) r) (sym (others net apart)) (Grows-stands old new (net_function v net) (slice_index before net) D grown stands)

    now : (m : ℕ) → k ≡ m → IsTrue (bit marks (slice_index order m)) → StandsFor new (net_function v (node_net N (slice_index order m))) (slice_index after (node_net N (slice_index order m)))
    now m e marked = subst (λ (n : ℕ). StandsFor new (net_function v (node_net N (slice_index order n))) (slice_index after (node_net N (slice_index order n)))) e
        (here (subst (λ (n : ℕ). IsTrue (bit marks (slice_index order n))) (sym e) marked))

    same_node : (a b : ℕ) → node_net N a ≡ node_net N b → a ≡ b
    same_node a b e = omega arith

    node_kept : (m : ℕ) → m < k → IsTrue (bit marks (slice_index order m)) → StandsFor new (net_function v (node_net N (slice_index order m))) (slice_index after (node_net N (slice_index order m)))
    node_kept m earlier marked = ⊎_elim
        (λ same. subst (λ (j : ℕ). StandsFor new (net_function v (node_net N j)) (slice_index after (node_net N j))) (sym same) (here (subst (λ (j : ℕ). IsTrue (bit marks j)) same marked)))
        (λ apart. kept (node_net N (slice_index order m)) (λ e. apart (same_node (slice_index order m) (slice_index order k) e)) (stand.nodes m earlier marked))
        (cases_eq (slice_index order m) (slice_index order k))
