-- What is put at the slots of a bench, and what it shows there.
use Rattle.std.specs.Prelude.{◌≡◌, ℕ, ◌<◌, Bool, false, true, List, map, length, Some}
use Rattle.tsc_bits.specs.Bits.{bits_of}
use Rattle.fault_secure.specs.Circuit.{Circuit, bit}
use Rattle.fault_secure.specs.StuckAt.{NoFault}
use Rattle.fault_secure.specs.Settle.{Settles}
use Rattle.fault_secure.specs.CodePlan.{CodePlan, word}
use Rattle.fault_secure.specs.Exposing.{word_of_state}
use Rattle.fault_secure.specs.Logic.{Logic, Network, States, Loose, answering, outputs_of_rows, AllowsNext}
use Rattle.fault_secure.specs.FaultSecure.{state_at}
use Rattle.tsc_net.specs.Order.{has_place}
use Rattle.lane_sim.specs.Points.{PointsState, point_input, point_state}
use Rattle.lane_sim.specs.Lanes.{lane_bit}
use Rattle.lane_sim.specs.Bench.{BenchState, lane_of}
use Rattle.lane_sim.specs.declared.point.Point.{Point}
use Rattle.behaviour_audit.specs.Breaks.{IsStepAt}

-- the input bits of a point, of which there are so many
abbrev pub input_of : ℕ → Point → List Bool
input_of inputs point = bits_of inputs point.input

-- the slot has the input of a point
pub record HasInput (inputs : ℕ) (points : PointsState) (slot : ℕ) (point : Point) : Type 0 where
  pub input : (k : ℕ) → k < inputs → point_input points slot k ≡ bit (input_of inputs point) k

-- the slot has a point: its input, and the word of its state
pub record HasPoint (N : Circuit) (P : CodePlan) (points : PointsState) (slot : ℕ) (point : Point) : Type 0 where
  pub word : List Bool
  pub is_state : word_of_state P point.state ≡ Some word
  pub input : HasInput N.inputs points slot point
  pub state : (l : ℕ) → l < length N.latches → point_state points slot l ≡ bit word l

-- the bit of a net at a slot
abbrev pub slot_bit : BenchState → ℕ → ℕ → Bool
slot_bit bench slot net = lane_bit (lane_of bench net) slot

-- a bench shows at a slot the one valuation that settles without a fault with these input and state bits
pub record ShowsAt (C : Circuit) (x s : ℕ → Bool) (bench : BenchState) (slot : ℕ) : Type 0 where
  pub valuation : List Bool
  pub settles : Settles C NoFault x s valuation
  pub only : (v : List Bool) → Settles C NoFault x s v → v ≡ valuation
  pub shown : (net : ℕ) → has_place bench.watched net ≡ true → slot_bit bench slot net ≡ bit valuation net

-- it shows at a slot the step at a point
pub record ShowsStep (N : Circuit) (P : CodePlan) (bench : BenchState) (slot : ℕ) (point : Point) : Type 0 where
  pub word : List Bool
  pub is_state : word_of_state P point.state ≡ Some word
  pub shows : ShowsAt N (bit (input_of N.inputs point)) (bit word) bench slot

-- the step at a point has this word
pub record HasWord (N : Circuit) (P : CodePlan) (q : ℕ) (x w : List Bool) : Type 0 where
  pub valuation : List Bool
  pub step : IsStepAt N P q x valuation
  pub only : (v : List Bool) → IsStepAt N P q x v → v ≡ valuation
  pub is_word : w ≡ word N P valuation

-- a network without latches has these outputs
pub record HasOutputs (C : Circuit) (x ys : List Bool) : Type 0 where
  pub valuation : List Bool
  pub settles : Settles C NoFault (bit x) (λ _. false) valuation
  pub only : (v : List Bool) → Settles C NoFault (bit x) (λ _. false) v → v ≡ valuation
  pub are : ys ≡ map (bit valuation) C.outputs

-- these are the outputs that the source chooses
abbrev pub AreChosen : Logic → ℕ → List Bool → List Bool → Type 0
AreChosen (Network C) q x ys = HasOutputs C x ys
AreChosen (States M) q x ys = ys ≡ outputs_of_rows M (answering M q x)
AreChosen (Loose V F) q x ys = HasOutputs V x ys

-- of a source with free bits, these tell which of its outputs are free
abbrev pub TellFree : Logic → List Bool → List Bool → Type 0
TellFree (Network C) x fs = Unit {0}
TellFree (States M) x fs = Unit {0}
TellFree (Loose V F) x fs = HasOutputs F x fs

-- from these bits the state is a listed one that the source allows next
pub record ArrivesAt (M : Logic) (P : CodePlan) (q : ℕ) (x next : List Bool) : Type 0 where
  pub state : ℕ
  pub arrives : state_at P next ≡ Some state
  pub allowed : AllowsNext M P.version q x state
