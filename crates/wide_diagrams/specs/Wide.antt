-- All functions that a netlist with its plan and its source state, and how many different cofactors they have.
use Rattle.std.specs.Prelude.{◌≡◌, ℕ, ◌<◌, ◌≤◌, Bool, List, ◌∷◌, ◌++◌, map, length, slice_index}
use Rattle.std.specs.List.{range_with_len}
use Rattle.fault_secure.specs.Circuit.{Circuit}
use Rattle.fault_secure.specs.CodePlan.{CodePlan, monitored}
use Rattle.code_checkers.specs.Checker.{rail1, rail2}
use Rattle.diagrams.specs.Cofactors.{Function, cofactor_count}
use Rattle.diagrams.specs.Building.{DiagramState, no_input, any_input, StandsFor}
use Rattle.cover_diagrams.specs.Covering.{pin_function}
use Rattle.circuit_diagrams.specs.Stated.{AreValuations, net_function, circuit_functions}
use Rattle.wide_diagrams.specs.Stated.{signal_function, difference, checker_functions}

-- the functions of the places of a netlist's word
abbrev pub word_functions : Circuit → (List Bool → List Bool) → CodePlan → List Function
word_functions N v P = map (net_function v) (monitored N P)

-- where the rails of a plan's checker differ
abbrev pub rails_differ : Circuit → (List Bool → List Bool) → CodePlan → Function
rails_differ N v P = difference (signal_function (word_functions N v P) (rail1 P)) (signal_function (word_functions N v P) (rail2 P))

-- where the functions at a place of two lists differ
abbrev pub difference_at : List Function → List Function → ℕ → Function
difference_at fs gs place = difference (pin_function fs place) (pin_function gs place)

-- where an output of the netlist differs from that of its source: the word begins with the outputs
abbrev pub output_differs : Circuit → (List Bool → List Bool) → Circuit → (List Bool → List Bool) → CodePlan → ℕ → Function
output_differs S vs N v P = difference_at (map (net_function vs) S.outputs) (word_functions N v P)

-- what is stated beside the functions of a source's outputs: by the netlist for the sake of its word, by the plan's checker over the word, and where each
-- output differs. The netlist's own checker states nothing
abbrev pub functions_beside : List Function → Circuit → (List Bool → List Bool) → CodePlan → List Function
functions_beside fs N v P =
    circuit_functions N v (monitored N P) ++ (checker_functions P (word_functions N v P) ++ map (difference_at fs (word_functions N v P)) (range_with_len 0 P.outputs))

-- all that is stated: what the source does for the sake of its outputs, and what stands beside it
abbrev pub stated_functions : Circuit → (List Bool → List Bool) → Circuit → (List Bool → List Bool) → CodePlan → List Function
stated_functions S vs N v P = circuit_functions S vs S.outputs ++ functions_beside (map (net_function vs) S.outputs) N v P

-- how many different cofactors these and the two constants have
abbrev pub stated_count : Circuit → (List Bool → List Bool) → Circuit → (List Bool → List Bool) → CodePlan → ℕ
stated_count S vs N v P = cofactor_count N.inputs (no_input ∷ any_input ∷ stated_functions S vs N v P)

-- these different cofactors are more than so many
abbrev pub NeedMoreRows : ℕ → Circuit → Circuit → CodePlan → Type 0
NeedMoreRows rows S N P = (vs v : List Bool → List Bool) → AreValuations S vs → AreValuations N v → rows < stated_count S vs N v P

-- these different cofactors are at most so many
abbrev pub NeedAtMost : ℕ → Circuit → Circuit → CodePlan → Type 0
NeedAtMost rows S N P = (vs v : List Bool → List Bool) → AreValuations S vs → AreValuations N v → stated_count S vs N v P ≤ rows

-- the one row is that of where a checker's rails differ, and the others are those of where two functions differ at each place
pub record AreCompared (state : DiagramState) (P : CodePlan) (fs ws : List Function) (word : ℕ) (outputs : List ℕ) : Type 0 where
  pub rails : StandsFor state (difference (signal_function ws (rail1 P)) (signal_function ws (rail2 P))) word
  pub sized : length outputs ≡ P.outputs
  pub differ : (place : ℕ) → place < P.outputs → StandsFor state (difference_at fs ws place) (slice_index outputs place)

-- the rows of a netlist beside its source
abbrev pub AreWideRows : DiagramState → Circuit → (List Bool → List Bool) → Circuit → (List Bool → List Bool) → CodePlan → ℕ → List ℕ → Type 0
AreWideRows state S vs N v P word outputs = AreCompared state P (map (net_function vs) S.outputs) (word_functions N v P) word outputs
