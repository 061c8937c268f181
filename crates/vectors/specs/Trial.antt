-- What a netlist is tried with, the points that are put, and the places that were found for faults.
use Rattle.std.specs.Prelude.{◌≡◌, ℕ, ◌+◌, ◌-◌, ◌<◌, ◌==◌, nat_lt, if◌then◌else◌, Bool, true, false, List, length, Option, Some, None, slice_index_or}
use Rattle.fault_secure.specs.Circuit.{Circuit, bit}
use Rattle.fault_secure.specs.StuckAt.{StuckAt, NoFault, Stem, Pin}
use Rattle.fault_secure.specs.CodePlan.{CodePlan}
use Rattle.fault_secure.specs.Exposing.{word_of_state}
use Rattle.fault_secure.specs.Listed.{listed_faults}
use Rattle.lane_sim.specs.Points.{PointsState, ArePointsOf, point_input, point_state}
use Rattle.vectors.specs.Vectors.{state_of_place, input_of_place, ExposesAt}
use Rattle.lane_sim.specs.First.{IsFirstIn}
use Rattle.vectors.specs.declared.trial.Trial.{Trial}

-- the place that a number stands for: none where it is 0, else one less
abbrev pub coded_place : ℕ → Option ℕ
coded_place code = if code == 0 then None else Some (code - 1)

-- the bench and the points are of the circuit
pub record IsTrialOf (N : Circuit) (trial : Trial) : Type 0 where
  pub circuit : trial.bench.circuit ≡ N
  pub points : ArePointsOf N trial.points

-- the point p is the one at a place: the word of its state, and its input
pub record IsPointAt (N : Circuit) (P : CodePlan) (points : PointsState) (p place : ℕ) : Type 0 where
  pub word : List Bool
  pub is_state : word_of_state P (state_of_place N place) ≡ Some word
  pub input : (k : ℕ) → k < N.inputs → point_input points p k ≡ bit (input_of_place N place) k
  pub state : (l : ℕ) → l < length N.latches → point_state points p l ≡ bit word l

-- the points below `many` are those at the places from `first` on
abbrev pub ArePointsFrom : Circuit → CodePlan → PointsState → ℕ → ℕ → Type 0
ArePointsFrom N P points first many = (p : ℕ) → p < many → IsPointAt N P points p (first + p)

-- the fault that is exposed at the same points from the bits of a state alone: for a latch's pin the stem of the latch's net
abbrev pub exposing_fault : Circuit → StuckAt → StuckAt
exposing_fault N NoFault = NoFault
exposing_fault N (Stem net held) = Stem net held
exposing_fault N (Pin driver index held) = if nat_lt driver (N.inputs + length N.latches) then Stem driver held else Pin driver index held

-- the first place below a bound at which the listed fault of this number is exposed; none where it is exposed at none of them
abbrev pub IsFirstPlace : Circuit → CodePlan → ℕ → ℕ → Option ℕ → Type 0
IsFirstPlace N P number bound place = IsFirstIn (ExposesAt N P (slice_index_or (listed_faults N) number NoFault)) 0 bound place

-- the bit at which a fault holds its stem or its pin
abbrev pub held_bit : StuckAt → Bool
held_bit NoFault = false
held_bit (Stem net held) = held
held_bit (Pin driver index held) = held

-- the bit that the listed fault of this number holds
abbrev pub bit_held : Circuit → ℕ → Bool
bit_held N number = held_bit (slice_index_or (listed_faults N) number NoFault)

-- whether a fault was tried, where those that hold 0 are tried before those that hold 1: in the pass of a bit, by the bit that the fault holds and
-- by whether it stands before the one that is next
abbrev pub is_tried : Bool → Bool → Bool → Bool
is_tried false false before = before
is_tried false true before = false
is_tried true false before = true
is_tried true true before = before

-- the bound of the fault of this number, in the pass of a bit, where those below `many` stand before the one that is next
abbrev pub bound_of : Circuit → Bool → ℕ → ℕ → ℕ → ℕ → ℕ
bound_of N pass many later bound number = if is_tried pass (bit_held N number) (nat_lt number many) then later else bound

-- the first place for each listed fault, those that were tried with a later bound
pub record AreFirst (N : Circuit) (P : CodePlan) (pass : Bool) (many later bound : ℕ) (places : List (Option ℕ)) : Type 0 where
  pub sized : length places ≡ length (listed_faults N)
  pub each : (number : ℕ) → number < length (listed_faults N) → IsFirstPlace N P number (bound_of N pass many later bound number) (slice_index_or places number None)

-- the first place below a bound for each listed fault
pub record AreAllFirst (N : Circuit) (P : CodePlan) (bound : ℕ) (places : List (Option ℕ)) : Type 0 where
  pub sized : length places ≡ length (listed_faults N)
  pub each : (number : ℕ) → number < length (listed_faults N) → IsFirstPlace N P number bound (slice_index_or places number None)
