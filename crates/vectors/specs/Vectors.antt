-- Test vectors: the places of points, and what a list of tests says of the listed faults.
use Rattle.std.specs.Prelude.{◌≡◌, ◌↔◌, ℕ, ◌/◌, ◌^◌, ◌<◌, Bool, List, length, count_by, Option, Some, None, slice_index_or}
use Rattle.std.specs.Option.{is_some}
use Rattle.tsc_bits.specs.Bits.{bits_of}
use Rattle.fault_secure.specs.Circuit.{Circuit}
use Rattle.fault_secure.specs.StuckAt.{StuckAt, NoFault}
use Rattle.fault_secure.specs.Listed.{listed_faults}
use Rattle.fault_secure.specs.CodePlan.{CodePlan}
use Rattle.fault_secure.specs.Exposing.{Exposes, IsExposed, IsFirstExposing, IsSelfTesting}
use Rattle.lane_sim.specs.declared.point.Point.{Point}

-- points have places: those of the state 0 come first, input by input in binary order, then those of the state 1, and so on
abbrev pub state_of_place : Circuit → ℕ → ℕ
state_of_place N place = place / 2 ^ N.inputs

abbrev pub input_of_place : Circuit → ℕ → List Bool
input_of_place N place = bits_of N.inputs place

-- the point at a place exposes the fault
abbrev pub ExposesAt : Circuit → CodePlan → StuckAt → ℕ → Type 0
ExposesAt N P f place = Exposes N P f (state_of_place N place) (input_of_place N place)

-- the answer for a fault: its first exposing point, the input as a binary number; none where no point exposes it
abbrev pub IsTest : Circuit → CodePlan → StuckAt → Option Point → Type 0
IsTest N P f None = IsExposed N P f → ⊥
IsTest N P f (Some point) = (point.input < 2 ^ N.inputs) × IsFirstExposing N P f point.state (bits_of N.inputs point.input)

-- an answer for each listed fault, in order
pub record AreTests (N : Circuit) (P : CodePlan) (tests : List (Option Point)) : Type 0 where
  pub sized : length tests ≡ length (listed_faults N)
  pub each : (place : ℕ) → place < length (listed_faults N) → IsTest N P (slice_index_or (listed_faults N) place NoFault) (slice_index_or tests place None)

-- a netlist with its plan is self-testing exactly where each of its tests has a point
abbrev pub TestsDecide : Type 0
TestsDecide = (N : Circuit) (P : CodePlan) (tests : List (Option Point)) → AreTests N P tests → (count_by is_some tests ≡ length tests) ↔ IsSelfTesting N P
