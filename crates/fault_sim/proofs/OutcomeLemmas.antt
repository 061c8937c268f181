-- The outcomes of steps.
use Rattle.std.proofs.Common.{◌≡◌, ℕ, ◌+◌, Bool, List, length, map, refl, ◌∙◌}
use Rattle.std.proofs.lemmas.List.{length-map}
use Rattle.tsc_bits.specs.Bits.{bits_of, binary}
use Rattle.fault_secure.specs.Circuit.{bit}
use Rattle.fault_secure.specs.StuckAt.{StuckAt}
use Rattle.fault_secure.specs.Settle.{Settles}
use Rattle.lane_sim.specs.Bench.{BenchState}
use Rattle.fault_secure.specs.CodePlan.{next_nets}
use Rattle.fault_sim.specs.Sim.{SimState, watched_nets, number_at, next_fault, point_bit, IsViewOf, IsSameSim, IsCall}
use Rattle.fault_sim.specs.Shown.{taken_bit, IsShownOf}
use Rattle.fault_sim.specs.Outcomes.{outcome_answer, after, IsOutcome, OutcomesAreCalls}
use Rattle.fault_sim.specs.Batch.{ShowBits}
use Rattle.fault_sim.specs.declared.shown.Shown.{Shown}
use Rattle.fault_sim.specs.declared.outcome.Outcome.{Outcome}
use Rattle.fault_sim.proofs.ShownLemmas.{length-views, state_fits, state_of_number, next_of_number, next_same, taken_next, shows_valuation}

-- the outcome of a simulation's next step is what a call of `step` answers, whatever it leaves beside the next state
pub outcome_leads : (sim new : SimState) (x : List Bool) (outcome : Outcome) → IsOutcome sim.bench.circuit sim.plan (next_fault sim) x sim.state outcome
    → new.state ≡ bits_of (length sim.bench.circuit.latches) outcome.state → new.step ≡ sim.step + 1 → IsSameSim sim new
    → IsCall sim x (outcome_answer (length sim.bench.circuit.latches) outcome) new
outcome_leads sim new x outcome is state step same = record {
  answers = is.shows;
  state = λ v settles. state ∙ is.leaves v settles;
  step = step;
  same = same;
}

pub outcome_call : OutcomesAreCalls
outcome_call sim x outcome is =
    outcome_leads sim (after sim outcome) x outcome is refl refl (record { circuit = refl; watched = refl; rows = refl; plan = refl; fault = refl; when = refl })

-- a bench that shows at a point what settles there
pub outcome_is : (bench : BenchState) (shown : Shown) (f : StuckAt) (p : ℕ) (x s : List Bool) (outcome : Outcome)
    → IsShownOf bench.circuit shown.plan.now shown → bench.watched ≡ watched_nets bench.circuit shown.plan.now
    → ((v : List Bool) → Settles bench.circuit f (bit x) (bit s) v → ShowBits bench.watched (point_bit bench p) v)
    → IsViewOf bench.circuit shown.plan.now (point_bit bench p) outcome.view → outcome.next ≡ number_at (point_bit bench p) (next_nets bench.circuit)
    → outcome.state ≡ binary (map (taken_bit f (point_bit bench p)) shown.latches.items)
    → IsOutcome bench.circuit shown.plan.now f x s outcome
outcome_is bench shown f p x s outcome is watched shows view next state =
    let taken : List Bool = map (taken_bit f (point_bit bench p)) shown.latches.items in
    let sized : length taken ≡ length bench.circuit.latches
    = length-map shown.latches.items (taken_bit f (point_bit bench p)) ∙ length-views bench.circuit shown.latches.items is.latches in
    record {
      shows = λ v settles. record {
        view = shows_valuation bench.circuit shown.plan.now bench.watched (point_bit bench p) v outcome.view watched (shows v settles) view;
        next = next_of_number bench.circuit (point_bit bench p) outcome.next next
            ∙ next_same bench.circuit shown.plan.now bench.watched (point_bit bench p) v watched (shows v settles);
      };
      leaves = λ v settles.
          state_of_number bench.circuit taken outcome.state state sized
          ∙ taken_next bench.circuit shown.plan.now f bench.watched (point_bit bench p) v shown.latches.items watched is.latches (shows v settles);
      fits = state_fits bench.circuit taken outcome.state state sized;
    }
