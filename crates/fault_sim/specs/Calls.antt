-- Calls of `step`, one after the other, and the one run that they answer.
use Rattle.std.specs.Prelude.{◌≡◌, ℕ, ◌+◌, Bool, List, [], ◌∷◌}
use Rattle.fault_secure.specs.Circuit.{Circuit, bit}
use Rattle.fault_secure.specs.Settle.{Acyclic}
use Rattle.fault_secure.specs.Run.{init_state, RunsFrom, HasOneRun}
use Rattle.fault_secure.specs.CodePlan.{CodePlan}
use Rattle.tsc_net.specs.When.{has_step}
use Rattle.tsc_net.specs.declared.when.Span.{Span}
use Rattle.fault_sim.specs.Sim.{SimState, StepAnswer, IsAnswerOf, IsCall}

-- calls with these inputs, one after the other, and what they answer
abbrev pub AreCalls : SimState → List (List Bool) → List StepAnswer → Type 0
AreCalls sim [] [] = Unit {0}
AreCalls sim (x ∷ xs) (answer ∷ answers) = (next : SimState) × IsCall sim x answer next × AreCalls next xs answers
AreCalls sim [] (answer ∷ answers) = ⊥
AreCalls sim (x ∷ xs) [] = ⊥

-- one bit for each input: whether the fault is present at its step, the first step being number `step`
abbrev pub steps_held : List Span → ℕ → List (List Bool) → List Bool
steps_held when step [] = []
steps_held when step (x ∷ xs) = has_step when step ∷ steps_held when (step + 1) xs

-- each step answers its valuation
abbrev pub ShowEach : Circuit → CodePlan → List (List Bool) → List StepAnswer → Type 0
ShowEach N P [] [] = Unit {0}
ShowEach N P (v ∷ vs) (answer ∷ answers) = IsAnswerOf N P (bit v) answer × ShowEach N P vs answers
ShowEach N P [] (answer ∷ answers) = ⊥
ShowEach N P (v ∷ vs) [] = ⊥

-- calls answer step for step each run from the state bits that the simulation has
abbrev pub CallsAnswerRuns : Type 0
CallsAnswerRuns =
    (sim : SimState) (xs vs : List (List Bool)) (answers : List StepAnswer) → AreCalls sim xs answers
    → RunsFrom sim.bench.circuit sim.fault sim.state (steps_held sim.when sim.step xs) xs vs → ShowEach sim.bench.circuit sim.plan vs answers

-- the calls from step 0 answer step for step the one run over their inputs
pub record AnswerTheRun (sim : SimState) (xs : List (List Bool)) (answers : List StepAnswer) : Type 0 where
  pub one : HasOneRun sim.bench.circuit sim.fault (steps_held sim.when 0 xs) xs
  pub shows : ShowEach sim.bench.circuit sim.plan one.run answers

abbrev pub CallsAnswerTheRun : Type 0
CallsAnswerTheRun =
    (sim : SimState) (xs : List (List Bool)) (answers : List StepAnswer) → Acyclic sim.bench.circuit
    → sim.step ≡ 0 → sim.state ≡ init_state sim.bench.circuit → AreCalls sim xs answers → AnswerTheRun sim xs answers
