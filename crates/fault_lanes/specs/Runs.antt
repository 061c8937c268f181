-- Steps that are taken one after another, and the run of each lane.
use Rattle.std.specs.Prelude.{◌≡◌, ℕ, ◌<◌, Bool, true, List, [], ◌∷◌, length, map, replicate}
use Rattle.fault_secure.specs.Run.{init_state, RunsFrom, HasOneRun}
use Rattle.fault_secure.specs.Settle.{Acyclic}
use Rattle.fault_lanes.specs.Bench.{LanesState, fault_of, state_of, valuation_of, IsStep}

-- steps with these inputs, one after another, and what each leaves
abbrev pub AreSteps : LanesState → List (List Bool) → List LanesState → Type 0
AreSteps bench [] [] = Unit {0}
AreSteps bench (x ∷ xs) (next ∷ after) = IsStep bench x next × AreSteps next xs after
AreSteps bench [] (next ∷ after) = ⊥
AreSteps bench (x ∷ xs) [] = ⊥

-- a fault that is present at each of so many steps
abbrev pub at_all : List (List Bool) → List Bool
at_all xs = replicate (length xs) true

-- from the state bits that a lane has, what its nets have, step by step, is a run under the lane's fault, present at all steps
abbrev pub StepsAreRuns : Type 0
StepsAreRuns =
    (bench : LanesState) (xs : List (List Bool)) (after : List LanesState) (lane : ℕ) → lane < 1024 → AreSteps bench xs after
    → RunsFrom bench.circuit (fault_of bench lane) (state_of bench lane) (at_all xs) xs (map (λ step. valuation_of step lane) after)

-- from the latches' first bits it is the one run
abbrev pub StepsAreTheRun : Type 0
StepsAreTheRun =
    (bench : LanesState) (xs : List (List Bool)) (after : List LanesState) (lane : ℕ) → lane < 1024 → Acyclic bench.circuit → state_of bench lane ≡ init_state bench.circuit → AreSteps bench xs after
    → (one : HasOneRun bench.circuit (fault_of bench lane) (at_all xs) xs) × (map (λ step. valuation_of step lane) after ≡ one.run)
