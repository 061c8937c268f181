-- Exposing points of a fault, self-testing netlists, and how many points there are. A point is a listed state, by its number, and one bit per input.
use Rattle.std.specs.Prelude.{◌≡◌, ℕ, ◌+◌, ◌*◌, ◌^◌, ◌<◌, ◌==◌, ◌⊎◌, nat_lt, if◌then◌else◌, Bool, List, [], length, Option, Some, None, slice_get, IsTrue}
use Rattle.tsc_bits.specs.Bits.{binary}
use Rattle.fault_secure.specs.Circuit.{Circuit, latch_net, bit}
use Rattle.fault_secure.specs.StuckAt.{StuckAt, NoFault, Stem, Pin, on_pin, is_listed}
use Rattle.fault_secure.specs.Settle.{Settles}
use Rattle.fault_secure.specs.CodePlan.{CodePlan, RailsAgree}

-- the word of a listed state; without latches there is the one state 0, and its word is empty
abbrev pub word_of_state : CodePlan → ℕ → Option (List Bool)
word_of_state P q = if P.latches == 0 then (if q == 0 then Some [] else None) else slice_get P.states q

-- how many states a plan lists; without latches there is the one state 0
abbrev pub listed_states : CodePlan → ℕ
listed_states P = if P.latches == 0 then 1 else length P.states

-- how many points there are: each is a listed state and an input
abbrev pub point_count : Circuit → CodePlan → ℕ
point_count N P = listed_states P * 2 ^ N.inputs

-- the fault under which a step settles: the pin of a latch acts on the state bits alone
abbrev pub settling_fault : Circuit → StuckAt → StuckAt
settling_fault N NoFault = NoFault
settling_fault N (Stem net held) = Stem net held
settling_fault N (Pin driver index held) = if nat_lt driver (N.inputs + length N.latches) then NoFault else Pin driver index held

-- the state bits from which it settles: those of the word, but the latch whose pin is the fault has the held bit
abbrev pub bits_under : Circuit → StuckAt → List Bool → ℕ → Bool
bits_under N f word l = on_pin f (latch_net N l) 0 (bit word l)

-- the point (state q, input bits x) exposes the fault: the rails agree in the valuation that settles there
pub record Exposes (N : Circuit) (P : CodePlan) (f : StuckAt) (q : ℕ) (x : List Bool) : Type 0 where
  pub word : List Bool
  pub is_state : word_of_state P q ≡ Some word
  pub sized : length x ≡ N.inputs
  pub valuation : List Bool
  pub settles : Settles N (settling_fault N f) (bit x) (bits_under N f word) valuation
  pub rails_agree : RailsAgree P valuation

-- some point exposes the fault
pub record IsExposed (N : Circuit) (P : CodePlan) (f : StuckAt) : Type 0 where
  pub state : ℕ
  pub input : List Bool
  pub exposes : Exposes N P f state input

-- the point (q, x) comes before (r, y): by state, then by the input as a binary number, the first bit most significant
abbrev pub ComesBefore : ℕ → List Bool → ℕ → List Bool → Type 0
ComesBefore q x r y = (q < r) ⊎ ((q ≡ r) × (binary x < binary y))

-- the first exposing point of a fault: no point before it exposes the fault
pub record IsFirstExposing (N : Circuit) (P : CodePlan) (f : StuckAt) (q : ℕ) (x : List Bool) : Type 0 where
  pub exposes : Exposes N P f q x
  pub first : (r : ℕ) (y : List Bool) → ComesBefore r y q x → Exposes N P f r y → ⊥

-- the netlist with its plan is self-testing: each listed fault has an exposing point
abbrev pub IsSelfTesting : Circuit → CodePlan → Type 0
IsSelfTesting N P = (f : StuckAt) → IsTrue (is_listed N f) → IsExposed N P f
