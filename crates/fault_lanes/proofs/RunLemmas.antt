-- Steps are runs.
use Rattle.std.proofs.Common.{◌≡◌, ℕ, ◌<◌, Bool, true, List, [], ◌∷◌, length, map, refl, ap, ◌∙◌, subst}
use Rattle.std.proofs.lemmas.List.{length-replicate}
use Rattle.fault_secure.specs.Circuit.{Circuit, bit}
use Rattle.fault_secure.specs.StuckAt.{StuckAt}
use Rattle.fault_secure.specs.Settle.{Settles}
use Rattle.fault_secure.specs.Run.{init_state, next_state, RunsFrom}
use Rattle.fault_secure.proofs.OneRun.{one_run}
use Rattle.fault_lanes.specs.Batch.{lane_fault}
use Rattle.fault_lanes.specs.Bench.{LanesState, fault_of, state_of, valuation_of, IsStep}
use Rattle.fault_lanes.specs.Runs.{AreSteps, at_all, StepsAreRuns, StepsAreTheRun}

settles_here : (lane : ℕ) → lane < 1024 → (N : Circuit) (f : StuckAt) (s : List Bool) (bench : LanesState) (x : List Bool) (next : LanesState) → bench.circuit ≡ N → fault_of bench lane ≡ f → state_of bench lane ≡ s
    → IsStep bench x next → Settles N f (bit x) (bit s) (valuation_of next lane)
settles_here lane inside N f s bench x next is_circuit is_fault is_state step =
    subst (λ C. Settles C f (bit x) (bit s) (valuation_of next lane)) is_circuit
    (subst (λ g. Settles bench.circuit g (bit x) (bit s) (valuation_of next lane)) is_fault
    (subst (λ t. Settles bench.circuit (fault_of bench lane) (bit x) (bit t) (valuation_of next lane)) is_state (step.settles lane inside)))

takes_here : (lane : ℕ) → lane < 1024 → (N : Circuit) (f : StuckAt) (bench : LanesState) (x : List Bool) (next : LanesState) → bench.circuit ≡ N → fault_of bench lane ≡ f
    → IsStep bench x next → state_of next lane ≡ next_state N f (valuation_of next lane)
takes_here lane inside N f bench x next is_circuit is_fault step =
    step.takes lane inside ∙ (λ i. next_state (is_circuit i) (is_fault i) (valuation_of next lane))

-- from state bits that a lane has, its steps are a run
runs_from : (lane : ℕ) → lane < 1024 → (N : Circuit) (f : StuckAt) (s : List Bool) (bench : LanesState) → bench.circuit ≡ N → fault_of bench lane ≡ f → state_of bench lane ≡ s
    → (xs : List (List Bool)) (after : List LanesState) → AreSteps bench xs after → RunsFrom N f s (at_all xs) xs (map (λ step. valuation_of step lane) after)
runs_from lane inside N f s bench is_circuit is_fault is_state [] [] steps = tt
runs_from lane inside N f s bench is_circuit is_fault is_state [] (next ∷ after) steps = elim steps [ ]
runs_from lane inside N f s bench is_circuit is_fault is_state (x ∷ xs) [] steps = elim steps [ ]
runs_from lane inside N f s bench is_circuit is_fault is_state (x ∷ xs) (next ∷ after) steps =
    let step = steps.0 in (
      settles_here lane inside N f s bench x next is_circuit is_fault is_state step,
      runs_from lane inside N f (next_state N f (valuation_of next lane)) next (step.same.circuit ∙ is_circuit)
          (ap (λ faults. lane_fault faults lane) step.same.faults ∙ is_fault) (takes_here lane inside N f bench x next is_circuit is_fault step) xs after steps.1,
    )

pub are_runs : StepsAreRuns
are_runs bench xs after lane inside steps = runs_from lane inside bench.circuit (fault_of bench lane) (state_of bench lane) bench refl refl refl xs after steps

pub are_the_run : StepsAreTheRun
are_the_run bench xs after lane inside acyclic first steps =
    let one = one_run bench.circuit (fault_of bench lane) (at_all xs) xs acyclic (length-replicate (length xs) true) in
    (one, one.only (map (λ step. valuation_of step lane) after) (runs_from lane inside bench.circuit (fault_of bench lane) (init_state bench.circuit) bench refl refl first xs after steps))
