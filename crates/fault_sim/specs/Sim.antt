-- What contracts see of a simulation, and what its next step answers and leaves.
use Rattle.std.specs.Prelude.{◌≡◌, ℕ, ◌+◌, Bool, true, false, List, [], ◌∷◌, ◌++◌, map, take, None}
use Rattle.tsc_bits.specs.Bits.{binary}
use Rattle.fault_secure.specs.Circuit.{Circuit, bit}
use Rattle.fault_secure.specs.StuckAt.{StuckAt, NoFault, Stem, Pin, present, is_listed}
use Rattle.fault_secure.specs.Settle.{Settles}
use Rattle.fault_secure.specs.Run.{init_state, next_state}
use Rattle.fault_secure.specs.CodePlan.{CodePlan, next_nets, monitored}
use Rattle.tsc_net.specs.Order.{has_place}
use Rattle.tsc_net.specs.When.{has_step}
use Rattle.tsc_net.specs.declared.when.Span.{Span}
use Rattle.lane_sim.specs.Lanes.{lane_bit}
use Rattle.lane_sim.specs.Bench.{BenchState, lane_of}
use Rattle.fault_sim.specs.declared.step_view.StepView.{StepView}

-- its bench, whose circuit is the netlist without its names; its plan; its fault, and the steps at which that is present; the
-- number of its next step, and the state bits from which that starts; what the nets at the latch inputs had in the last step
pub record SimState : Type 0 where
  pub bench : BenchState
  pub plan : CodePlan
  pub fault : StuckAt
  pub when : List Span
  pub step : ℕ
  pub state : List Bool
  pub next : List Bool

-- no fault, or a listed one
abbrev pub is_none_or_listed : Circuit → StuckAt → Bool
is_none_or_listed N NoFault = true
is_none_or_listed N (Stem net held) = is_listed N (Stem net held)
is_none_or_listed N (Pin driver index held) = is_listed N (Pin driver index held)

-- there is a fault
abbrev pub is_fault : StuckAt → Bool
is_fault NoFault = false
is_fault (Stem net held) = true
is_fault (Pin driver index held) = true

-- what a bench of a simulation watches: the outputs, the checks, the nets at the latch inputs, the rails
abbrev pub watched_nets : Circuit → CodePlan → List ℕ
watched_nets N P = monitored N P ++ P.rail1 ∷ P.rail2 ∷ []

-- the fault where it is present at the next step, else none
abbrev pub next_fault : SimState → StuckAt
next_fault sim = present (has_step sim.when sim.step) sim.fault

-- the valuation v settles in the next step with the input bits x
abbrev pub SettlesNext : SimState → List Bool → List Bool → Type 0
SettlesNext sim x v = Settles sim.bench.circuit (next_fault sim) (bit x) (bit sim.state) v

-- the bits of nets as a number, the first most significant
abbrev pub number_at : (ℕ → Bool) → List ℕ → ℕ
number_at bits nets = binary (map bits nets)

-- what a step shows where nets have these bits
pub record IsViewOf (N : Circuit) (P : CodePlan) (bits : ℕ → Bool) (view : StepView) : Type 0 where
  pub outputs : view.outputs ≡ number_at bits (take P.outputs N.outputs)
  pub checks : view.checks ≡ number_at bits P.checks
  pub rail1 : view.rail1 ≡ bits P.rail1
  pub rail2 : view.rail2 ≡ bits P.rail2

-- what a step answers: what it shows, and the bits of the nets at the latch inputs
pub record StepAnswer : Type 0 where
  pub view : StepView
  pub next : List Bool

-- what a call of `step` answers that shows this and leaves this simulation
abbrev pub answer_of : StepView → SimState → StepAnswer
answer_of view new = record { view = view; next = new.next }

-- what a step answers where nets have these bits
pub record IsAnswerOf (N : Circuit) (P : CodePlan) (bits : ℕ → Bool) (answer : StepAnswer) : Type 0 where
  pub view : IsViewOf N P bits answer.view
  pub next : answer.next ≡ map bits (next_nets N)

-- the bit of a watched net at a point of a bench
abbrev pub point_bit : BenchState → ℕ → ℕ → Bool
point_bit bench p net = lane_bit (lane_of bench net) p

-- that at point 0
abbrev pub first_bit : BenchState → ℕ → Bool
first_bit bench net = point_bit bench 0 net

-- the bench has at point 0 of each watched lane the net's bit in the valuation
pub record ShowsFirst (bench : BenchState) (v : List Bool) : Type 0 where
  pub bits : (net : ℕ) → has_place bench.watched net ≡ true → first_bit bench net ≡ bit v net

-- what no step changes
pub record IsSameSim (old new : SimState) : Type 0 where
  pub circuit : new.bench.circuit ≡ old.bench.circuit
  pub watched : new.bench.watched ≡ old.bench.watched
  pub rows : new.bench.rows ≡ old.bench.rows
  pub plan : new.plan ≡ old.plan
  pub fault : new.fault ≡ old.fault
  pub when : new.when ≡ old.when

-- no step was taken
pub record IsStill (old new : SimState) : Type 0 where
  pub same : IsSameSim old new
  pub step : new.step ≡ old.step
  pub state : new.state ≡ old.state
  pub next : new.next ≡ old.next

-- what a call of `step` with the input bits x answers and leaves: in whatever valuation the step settles, the answer is of it, and
-- the state bits are the next ones; one step was taken, and the rest stays
pub record IsCall (old : SimState) (x : List Bool) (answer : StepAnswer) (new : SimState) : Type 0 where
  pub answers : (v : List Bool) → SettlesNext old x v → IsAnswerOf old.bench.circuit old.plan (bit v) answer
  pub state : (v : List Bool) → SettlesNext old x v → new.state ≡ next_state old.bench.circuit (next_fault old) v
  pub step : new.step ≡ old.step + 1
  pub same : IsSameSim old new

-- a simulation before its first step
pub record IsOpened (N : Circuit) (P : CodePlan) (f : StuckAt) (spans : List Span) (sim : SimState) : Type 0 where
  pub circuit : sim.bench.circuit ≡ N
  pub watched : sim.bench.watched ≡ watched_nets N P
  pub lanes : sim.bench.lanes ≡ None
  pub plan : sim.plan ≡ P
  pub fault : sim.fault ≡ f
  pub when : sim.when ≡ spans
  pub step : sim.step ≡ 0
  pub state : sim.state ≡ init_state N
