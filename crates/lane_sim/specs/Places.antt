-- The places of points: those of the state 0 of a plan come first, input by input in binary order, then those of the state 1, and so on.
use Rattle.std.specs.Prelude.{◌≡◌, ℕ, ◌/◌, ◌%◌, ◌<◌, ◌^◌, Bool, List, Some}
use Rattle.tsc_bits.specs.Bits.{bits_of}
use Rattle.fault_secure.specs.Circuit.{bit}
use Rattle.fault_secure.specs.CodePlan.{CodePlan}
use Rattle.fault_secure.specs.Exposing.{word_of_state}
use Rattle.lane_sim.specs.Points.{PointsState, point_input, point_state}
use Rattle.lane_sim.specs.declared.point.Point.{Point}

-- the point at a place, where there are so many inputs
abbrev pub point_at : ℕ → ℕ → Point
point_at inputs place = record { state = place / 2 ^ inputs; input = place % 2 ^ inputs }

-- the point has the input of a place: the last bits of its number
abbrev pub HasInputOf : ℕ → PointsState → ℕ → ℕ → Type 0
HasInputOf inputs points p place = (k : ℕ) → k < inputs → point_input points p k ≡ bit (bits_of inputs place) k

-- the point has the word of the state of a place, of which each state has as many as there are values of the input bits
pub record HasStateOf (P : CodePlan) (inputs : ℕ) (points : PointsState) (p place : ℕ) : Type 0 where
  pub word : List Bool
  pub is_state : word_of_state P (place / 2 ^ inputs) ≡ Some word
  pub state : (l : ℕ) → l < P.latches → point_state points p l ≡ bit word l
