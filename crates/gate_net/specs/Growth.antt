-- Networks of gates that grow: earlier lines stay, with what they mean.
use Rattle.std.specs.Prelude.{◌≡◌, ℕ, ◌≤◌, Bool, List, length, take, drop}
use Rattle.gate_net.specs.declared.line.Line.{Line}
use Rattle.gate_net.specs.declared.gate.Gate.{Gate}
use Rattle.gate_net.specs.Signal.{Signal}
use Rattle.gate_net.specs.Gates.{GateNetwork, IsLine, AreLines, meaning, meanings, line_value, line_values}

-- the old gates come first among the new ones, over as many inputs and state bits, and each old line means what it meant
pub record Grows (old new : GateNetwork) : Type 0 where
  pub inputs : new.inputs ≡ old.inputs
  pub states : new.states ≡ old.states
  pub first : take (length old.gates) new.gates ≡ old.gates
  pub count : length old.gates ≤ length new.gates
  pub keeps : (line : Line) → IsLine old line → meaning new line ≡ meaning old line

-- the gates that came
abbrev pub added_gates : GateNetwork → GateNetwork → List Gate
added_gates old new = drop (length old.gates) new.gates

-- the network grew, and this line of it means the signal
pub record IsAdded (old new : GateNetwork) (signal : Signal) (line : Line) : Type 0 where
  pub means : meaning new line ≡ signal
  pub within : IsLine new line
  pub grows : Grows old new

-- the network grew, and these lines of it mean the signals
pub record AreAdded (old new : GateNetwork) (signals : List Signal) (lines : List Line) : Type 0 where
  pub mean : meanings new lines ≡ signals
  pub within : AreLines new lines
  pub grows : Grows old new

-- the network grew, and this line of it has the bit that a function of the input bits and the state bits gives
pub record Computes (old new : GateNetwork) (bit : (ℕ → Bool) → (ℕ → Bool) → Bool) (line : Line) : Type 0 where
  pub value : (x s : ℕ → Bool) → line_value new x s line ≡ bit x s
  pub within : IsLine new line
  pub grows : Grows old new

-- the network grew, and these lines of it have the bits that a function of the input bits and the state bits gives
pub record ComputesAll (old new : GateNetwork) (bits : (ℕ → Bool) → (ℕ → Bool) → List Bool) (lines : List Line) : Type 0 where
  pub values : (x s : ℕ → Bool) → line_values new x s lines ≡ bits x s
  pub within : AreLines new lines
  pub grows : Grows old new
