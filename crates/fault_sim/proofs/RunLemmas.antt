-- Calls answer runs.
use Rattle.std.proofs.Common.{◌≡◌, ℕ, suc, ◌+◌, Bool, List, [], ◌∷◌, length, refl, ap, ◌∙◌}
use Rattle.fault_secure.specs.Circuit.{Circuit, bit}
use Rattle.fault_secure.specs.StuckAt.{StuckAt, present}
use Rattle.fault_secure.specs.Settle.{Settles}
use Rattle.fault_secure.specs.Run.{init_state, next_state, RunsFrom}
use Rattle.fault_secure.specs.CodePlan.{CodePlan}
use Rattle.tsc_net.specs.When.{has_step}
use Rattle.tsc_net.specs.declared.when.Span.{Span}
use Rattle.fault_secure.proofs.OneRun.{one_run}
use Rattle.fault_sim.specs.Sim.{SimState, SettlesNext, next_fault, StepAnswer, IsAnswerOf, IsCall}
use Rattle.fault_sim.specs.Calls.{AreCalls, steps_held, ShowEach, CallsAnswerRuns, CallsAnswerTheRun}

-- what a simulation has
record Has (sim : SimState) (N : Circuit) (P : CodePlan) (f : StuckAt) (spans : List Span) (j : ℕ) (s : List Bool) : Type 0 where
  circuit : sim.bench.circuit ≡ N
  plan : sim.plan ≡ P
  fault : sim.fault ≡ f
  when : sim.when ≡ spans
  step : sim.step ≡ j
  state : sim.state ≡ s

settles_next : (sim : SimState) (N : Circuit) (P : CodePlan) (f : StuckAt) (when : List Span) (step : ℕ) (s x v : List Bool)
    → Has sim N P f when step s → Settles N (present (has_step when step) f) (bit x) (bit s) v → SettlesNext sim x v
settles_next sim N P f when step s x v has settles = rw (has.circuit, has.fault, has.when, has.step, has.state) settles

next_has : (sim next : SimState) (N : Circuit) (P : CodePlan) (f : StuckAt) (when : List Span) (step : ℕ) (s x v : List Bool) (answer : StepAnswer)
    → Has sim N P f when step s → IsCall sim x answer next → SettlesNext sim x v
    → Has next N P f when (step + 1) (next_state N (present (has_step when step) f) v)
next_has sim next N P f when step s x v answer has call settles = record {
  circuit = call.same.circuit ∙ has.circuit;
  plan = call.same.plan ∙ has.plan;
  fault = call.same.fault ∙ has.fault;
  when = call.same.when ∙ has.when;
  step = call.step ∙ ap (λ n. n + 1) has.step;
  state =
      let e : next.state ≡ next_state sim.bench.circuit (next_fault sim) v = call.state v settles in
      rw (has.circuit, has.fault, has.when, has.step) at e;
}

shown : (sim : SimState) (N : Circuit) (P : CodePlan) (f : StuckAt) (when : List Span) (step : ℕ) (s v : List Bool) (answer : StepAnswer)
    → Has sim N P f when step s → IsAnswerOf sim.bench.circuit sim.plan (bit v) answer → IsAnswerOf N P (bit v) answer
shown sim N P f when step s v answer has shows = rw (has.circuit, has.plan) at shows

calls_along : (sim : SimState) (N : Circuit) (P : CodePlan) (f : StuckAt) (when : List Span) (step : ℕ) (s : List Bool) → Has sim N P f when step s
    → (xs vs : List (List Bool)) (answers : List StepAnswer) → AreCalls sim xs answers → RunsFrom N f s (steps_held when step xs) xs vs → ShowEach N P vs answers
calls_along sim N P f when step s has [] [] [] calls runs = tt
calls_along sim N P f when step s has [] [] (answer ∷ answers) calls runs = elim calls [ ]
calls_along sim N P f when step s has [] (v ∷ vs) answers calls runs = elim runs [ ]
calls_along sim N P f when step s has (x ∷ xs) [] answers calls runs = elim runs [ ]
calls_along sim N P f when step s has (x ∷ xs) (v ∷ vs) [] calls runs = elim calls [ ]
calls_along sim N P f when step s has (x ∷ xs) (v ∷ vs) (answer ∷ answers) calls runs =
    let settles = settles_next sim N P f when step s x v has runs.0 in (
      shown sim N P f when step s v answer has (calls.1.answers v settles),
      calls_along calls.0 N P f when (step + 1) (next_state N (present (has_step when step) f) v)
          (next_has sim calls.0 N P f when step s x v answer has calls.1 settles) xs vs answers calls.2 runs.1,
    )

pub answer_runs : CallsAnswerRuns
answer_runs sim xs vs answers calls runs =
    calls_along sim sim.bench.circuit sim.plan sim.fault sim.when sim.step sim.state
    (record { circuit = refl; plan = refl; fault = refl; when = refl; step = refl; state = refl }) xs vs answers calls runs

-- there is one bit for each input
pub length-steps_held : (when : List Span) (step : ℕ) (xs : List (List Bool)) → length (steps_held when step xs) ≡ length xs
length-steps_held when step [] = refl
length-steps_held when step (x ∷ xs) = ap suc (length-steps_held when (step + 1) xs)

pub answer_the_run : CallsAnswerTheRun
answer_the_run sim xs answers acyclic first init calls =
    let one = one_run sim.bench.circuit sim.fault (steps_held sim.when 0 xs) xs acyclic (length-steps_held sim.when 0 xs) in
    record {
      one = one;
      shows = calls_along sim sim.bench.circuit sim.plan sim.fault sim.when 0 (init_state sim.bench.circuit)
          (record { circuit = refl; plan = refl; fault = refl; when = refl; step = first; state = init }) xs one.run answers calls one.runs;
    }
