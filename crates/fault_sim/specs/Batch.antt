-- Steps at places: the state of a place is its quotient by the number of inputs, and its input is the one at its remainder.
use Rattle.std.specs.Prelude.{◌≡◌, ℕ, ◌/◌, ◌%◌, ◌<◌, Bool, true, List, [], length, slice_index_or, IsSome}
use Rattle.tsc_bits.specs.Bits.{bits_of}
use Rattle.fault_secure.specs.Circuit.{Circuit, bit}
use Rattle.fault_secure.specs.StuckAt.{StuckAt}
use Rattle.fault_secure.specs.Settle.{Settles}
use Rattle.fault_secure.specs.CodePlan.{CodePlan}
use Rattle.tsc_net.specs.Order.{has_place}
use Rattle.lane_sim.specs.Points.{PointsState, point_input, point_state}
use Rattle.lane_sim.specs.Bench.{BenchState}
use Rattle.fault_sim.specs.Sim.{point_bit}
use Rattle.fault_sim.specs.Outcomes.{IsOutcome}
use Rattle.fault_sim.specs.declared.outcome.Outcome.{Outcome}

-- the input bits of a place
abbrev pub input_of : List (List Bool) → ℕ → List Bool
input_of xs place = slice_index_or xs (place % length xs) []

-- the state bits of a place
abbrev pub state_of : Circuit → List (List Bool) → ℕ → List Bool
state_of N xs place = bits_of (length N.latches) (place / length xs)

-- the point p has the input bits x and the state bits s
pub record IsPoint (points : PointsState) (p : ℕ) (x s : List Bool) : Type 0 where
  pub input : (k : ℕ) → point_input points p k ≡ bit x k
  pub state : (k : ℕ) → point_state points p k ≡ bit s k

-- watched nets with these bits show the valuation
abbrev pub ShowBits : List ℕ → (ℕ → Bool) → List Bool → Type 0
ShowBits watched bits v = (net : ℕ) → has_place watched net ≡ true → bits net ≡ bit v net

-- the bench shows, at the points of the places below `count` in the batch of `place`, what settles there
pub record ShowsBatch (bench : BenchState) (f : StuckAt) (xs : List (List Bool)) (count place : ℕ) : Type 0 where
  pub settled : IsSome bench.lanes
  pub shows : (q : ℕ) (v : List Bool) → q < count → q / 1024 ≡ place / 1024
      → Settles bench.circuit f (bit (input_of xs q)) (bit (state_of bench.circuit xs q)) v → ShowBits bench.watched (point_bit bench (q % 1024)) v

-- the first `count` of the outcomes are those at the first places
abbrev pub AreFirstOutcomes : Circuit → CodePlan → StuckAt → List (List Bool) → ℕ → List Outcome → Type 0
AreFirstOutcomes N P f xs count outcomes =
    (place : ℕ) (d : Outcome) → place < count → IsOutcome N P f (input_of xs place) (state_of N xs place) (slice_index_or outcomes place d)

-- the outcomes are those at the first places
pub record ArePlaceOutcomes (N : Circuit) (P : CodePlan) (f : StuckAt) (xs : List (List Bool)) (count : ℕ) (outcomes : List Outcome) : Type 0 where
  pub sized : length outcomes ≡ count
  pub each : AreFirstOutcomes N P f xs count outcomes
