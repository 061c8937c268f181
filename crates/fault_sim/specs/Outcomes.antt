-- What steps would show and leave, from states and over inputs that are given.
use Rattle.std.specs.Prelude.{◌≡◌, ℕ, ◌+◌, ◌*◌, ◌<◌, ◌^◌, Bool, List, [], length, slice_index_or}
use Rattle.tsc_bits.specs.Bits.{bits_of}
use Rattle.fault_secure.specs.Circuit.{Circuit, bit}
use Rattle.fault_secure.specs.StuckAt.{StuckAt}
use Rattle.fault_secure.specs.Settle.{Settles}
use Rattle.fault_secure.specs.Run.{next_state}
use Rattle.fault_secure.specs.CodePlan.{CodePlan}
use Rattle.fault_sim.specs.Sim.{SimState, next_fault, StepAnswer, IsAnswerOf, IsCall}
use Rattle.fault_sim.specs.declared.outcome.Outcome.{Outcome}

-- what a step with this outcome answers, where there are so many latches
abbrev pub outcome_answer : ℕ → Outcome → StepAnswer
outcome_answer latches outcome = record { view = outcome.view; next = bits_of latches outcome.next }

-- what a step under the fault f with the input bits x from the state bits s shows and leaves, in whatever valuation it settles
pub record IsOutcome (N : Circuit) (P : CodePlan) (f : StuckAt) (x s : List Bool) (outcome : Outcome) : Type 0 where
  pub shows : (v : List Bool) → Settles N f (bit x) (bit s) v → IsAnswerOf N P (bit v) (outcome_answer (length N.latches) outcome)
  pub leaves : (v : List Bool) → Settles N f (bit x) (bit s) v → bits_of (length N.latches) outcome.state ≡ next_state N f v
  pub fits : outcome.state < 2 ^ length N.latches

-- the outcomes from each of the first `states` states over each of the inputs xs: state by state, and for each input by input
pub record AreOutcomes (N : Circuit) (P : CodePlan) (f : StuckAt) (states : ℕ) (xs : List (List Bool)) (outcomes : List Outcome) : Type 0 where
  pub sized : length outcomes ≡ states * length xs
  pub each : (s i : ℕ) (d : Outcome) → s < states → i < length xs
      → IsOutcome N P f (slice_index_or xs i []) (bits_of (length N.latches) s) (slice_index_or outcomes (s * length xs + i) d)

-- the simulation after one more step with this outcome
abbrev pub after : SimState → Outcome → SimState
after sim outcome = record sim {
  step = sim.step + 1;
  state = bits_of (length sim.bench.circuit.latches) outcome.state;
  next = bits_of (length sim.bench.circuit.latches) outcome.next;
}

-- the outcome of a simulation's next step is what a call of `step` answers and leaves
abbrev pub OutcomesAreCalls : Type 0
OutcomesAreCalls =
    (sim : SimState) (x : List Bool) (outcome : Outcome) → IsOutcome sim.bench.circuit sim.plan (next_fault sim) x sim.state outcome
    → IsCall sim x (outcome_answer (length sim.bench.circuit.latches) outcome) (after sim outcome)
