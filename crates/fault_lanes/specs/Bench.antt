-- What contracts see of a bench with one fault per lane, and what a settled one and a step leave.
use Rattle.std.specs.Prelude.{◌≡◌, ℕ, ◌<◌, Bool, List, length, map, Option}
use Rattle.std.specs.List.{range_with_len}
use Rattle.fault_secure.specs.Circuit.{Circuit, nets, bit}
use Rattle.fault_secure.specs.StuckAt.{StuckAt}
use Rattle.fault_secure.specs.Settle.{Settles}
use Rattle.fault_secure.specs.Run.{init_state, next_state}
use Rattle.tsc_net.specs.declared.fault.Fault.{Fault}
use Rattle.lane_sim.specs.Points.{source_bit}
use Rattle.fault_lanes.specs.Batch.{lane_fault}

-- the netlist without its names, the fault of each lane, and the words of the latches' next bits and of the nets, sixteen each
pub record LanesState : Type 0 where
  pub circuit : Circuit
  pub faults : List (Option Fault)
  pub states : List ℕ
  pub nets : List ℕ

-- the bits in a lane of so many latches or nets
abbrev pub bits_in : List ℕ → ℕ → ℕ → List Bool
bits_in words many lane = map (λ place. source_bit words place lane) (range_with_len 0 many)

-- the fault of a lane, the state bits from which its next step starts, and what its nets have
abbrev pub fault_of : LanesState → ℕ → StuckAt
fault_of bench lane = lane_fault bench.faults lane

abbrev pub state_of : LanesState → ℕ → List Bool
state_of bench lane = bits_in bench.states (length bench.circuit.latches) lane

abbrev pub valuation_of : LanesState → ℕ → List Bool
valuation_of bench lane = bits_in bench.nets (nets bench.circuit) lane

-- in each lane the nets have what settles under that lane's fault, with the input bits x and the lane's state bits
abbrev pub SettlesEach : LanesState → List Bool → LanesState → Type 0
SettlesEach old x new = (lane : ℕ) → lane < 1024 → Settles old.circuit (fault_of old lane) (bit x) (bit (state_of old lane)) (valuation_of new lane)

-- in each lane the latches have what their pins read under that lane's fault
abbrev pub TakesEach : LanesState → LanesState → Type 0
TakesEach old new = (lane : ℕ) → lane < 1024 → state_of new lane ≡ next_state old.circuit (fault_of old lane) (valuation_of new lane)

-- in each lane the latches hold their first bits
abbrev pub StartsEach : LanesState → Type 0
StartsEach bench = (lane : ℕ) → lane < 1024 → state_of bench lane ≡ init_state bench.circuit

-- what no settle and no step changes
pub record IsSameBatch (old new : LanesState) : Type 0 where
  pub circuit : new.circuit ≡ old.circuit
  pub faults : new.faults ≡ old.faults

-- what a step with the input bits x leaves
pub record IsStep (old : LanesState) (x : List Bool) (new : LanesState) : Type 0 where
  pub settles : SettlesEach old x new
  pub takes : TakesEach old new
  pub same : IsSameBatch old new
