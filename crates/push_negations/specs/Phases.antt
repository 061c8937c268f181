-- Lines that mean the phases of signals, in a network that grows by gates in negation normal form.
use Rattle.std.specs.Prelude.{◌≡◌, ℕ, ◌<◌, ◌≤◌, ◌+◌, List, length, take, slice_index_or}
use Rattle.std.specs.List.{sum_by}
use Rattle.gate_net.specs.declared.line.Line.{Line}
use Rattle.gate_net.specs.Signal.{Signal}
use Rattle.gate_net.specs.Gates.{GateNetwork, IsHashed, IsLine, meaning, signal_at, signals_of}
use Rattle.gate_net.specs.Growth.{Grows}
use Rattle.gate_net.specs.Negations.{NegatesOnlyInputs}
use Rattle.push_negations.specs.declared.phases.Phases.{Phases}
use Rattle.push_negations.specs.NormalForm.{phases_of}
use Rattle.push_negations.specs.Pushed.{most_lines}

-- the network is well made, and its negations stand only at inputs
pub record IsNormal (N : GateNetwork) : Type 0 where
  pub sound : IsHashed N
  pub negations : NegatesOnlyInputs N

-- the network grew by at most so many gates, and its negations stand only at inputs
pub record GrowsBy (most : ℕ) (old new : GateNetwork) : Type 0 where
  pub grows : Grows old new
  pub normal : IsNormal new
  pub few : length new.gates ≤ length old.gates + most

-- the line is one of the network's and means the signal
pub record Means (N : GateNetwork) (signal : Signal) (line : Line) : Type 0 where
  pub means : meaning N line ≡ signal
  pub within : IsLine N line

-- both lines are the network's
abbrev pub IsPair : GateNetwork → Phases → Type 0
IsPair N pair = IsLine N pair.positive × IsLine N pair.negative

-- the pair's lines mean the two phases of the signal
pub record HasPhases (N : GateNetwork) (signal : Signal) (pair : Phases) : Type 0 where
  pub positive : Means N (phases_of signal).positive pair.positive
  pub negative : Means N (phases_of signal).negative pair.negative

-- each pair's lines mean the two phases of the signal at its place
abbrev pub HaveAllPhases : GateNetwork → List Signal → List Phases → Type 0
HaveAllPhases N signals pairs = (place : ℕ) (d : Phases) → place < length pairs → HasPhases N (signal_at signals place) (slice_index_or pairs place d)

-- the lines of the old network from the first on have their two phases in the new one, in which negations stand only at inputs
pub record IsPushed (old new : GateNetwork) (pairs : List Phases) : Type 0 where
  pub inputs : new.inputs ≡ old.inputs
  pub states : new.states ≡ old.states
  pub normal : IsNormal new
  pub phases : HaveAllPhases new (signals_of old.gates) pairs
  pub few : length new.gates ≤ sum_by most_lines (take (length pairs) old.gates)

-- what is read where no phases are
abbrev pub no_phases : Phases
no_phases = record { positive = record { number = 0 }; negative = record { number = 0 } }

-- the line of the positive phase of a line
abbrev pub positive_at : List Phases → Line → Line
positive_at pairs line = (slice_index_or pairs line.number no_phases).positive
