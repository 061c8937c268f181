-- Gates in a list, of which each line has one: a line means a signal, and a gate reads earlier lines.
use Rattle.std.specs.Prelude.{◌≡◌, ℕ, ◌<◌, ◌^◌, ◌==◌, Bool, false, true, ◌&&◌, if◌then◌else◌, List, [], ◌∷◌, ◌++◌, map, length, slice_index_or, All}
use Rattle.std.specs.List.{list_any}
use Rattle.gate_net.specs.declared.line.Line.{Line}
use Rattle.gate_net.specs.declared.gate.Gate.{Gate}
use Rattle.gate_net.specs.declared.gate.Gate.TheVariants as gate
use Rattle.gate_net.specs.Signal.{Signal, value}
use Rattle.gate_net.specs.Signal.Signal.{Zero, One, Input, State, Not, And, Or, Xor}

-- gates over so many inputs and so many state bits
pub record GateNetwork : Type 0 where
  pub inputs : ℕ
  pub states : ℕ
  pub gates : List Gate

-- the gate at a place of a list of gates
abbrev pub gate_at : List Gate → ℕ → Gate
gate_at gates place = slice_index_or gates place gate.Zero

-- the signal at a place of a list of signals
abbrev pub signal_at : List Signal → ℕ → Signal
signal_at signals place = slice_index_or signals place Zero

-- the signal of a gate over those of the lines before it
abbrev pub signal_of : List Signal → Gate → Signal
signal_of signals gate.Zero = Zero
signal_of signals gate.One = One
signal_of signals (gate.Input i) = Input i
signal_of signals (gate.State i) = State i
signal_of signals (gate.Not a) = Not (signal_at signals a.number)
signal_of signals (gate.And a b) = And (signal_at signals a.number) (signal_at signals b.number)
signal_of signals (gate.Or a b) = Or (signal_at signals a.number) (signal_at signals b.number)
signal_of signals (gate.Xor a b) = Xor (signal_at signals a.number) (signal_at signals b.number)

abbrev pub signals_from : List Signal → List Gate → List Signal
signals_from signals [] = signals
signals_from signals (g ∷ gates) = signals_from (signals ++ signal_of signals g ∷ []) gates

-- the signals of the places of a list of gates
abbrev pub signals_of : List Gate → List Signal
signals_of gates = signals_from [] gates

-- the signal that a line means
abbrev pub meaning : GateNetwork → Line → Signal
meaning G line = signal_at (signals_of G.gates) line.number

-- the signals that lines mean
abbrev pub meanings : GateNetwork → List Line → List Signal
meanings G lines = map (meaning G) lines

-- the signal that a gate over lines of the network means
abbrev pub gate_signal : GateNetwork → Gate → Signal
gate_signal G g = signal_of (signals_of G.gates) g

-- the value of a line with the input bits x and the state bits s
abbrev pub line_value : GateNetwork → (ℕ → Bool) → (ℕ → Bool) → Line → Bool
line_value G x s line = value x s (meaning G line)

-- the values of lines
abbrev pub line_values : GateNetwork → (ℕ → Bool) → (ℕ → Bool) → List Line → List Bool
line_values G x s lines = map (line_value G x s) lines

-- the line is one of the network's
abbrev pub IsLine : GateNetwork → Line → Type 0
IsLine G line = line.number < length G.gates

-- the lines are the network's
abbrev pub AreLines : GateNetwork → List Line → Type 0
AreLines G lines = All (IsLine G) lines

-- the gate reads an input that is there, a state bit that is there, or lines below this number
abbrev pub ReadsBelow : GateNetwork → ℕ → Gate → Type 0
ReadsBelow G n gate.Zero = Unit {0}
ReadsBelow G n gate.One = Unit {0}
ReadsBelow G n (gate.Input i) = i < G.inputs
ReadsBelow G n (gate.State i) = i < G.states
ReadsBelow G n (gate.Not a) = a.number < n
ReadsBelow G n (gate.And a b) = (a.number < n) × (b.number < n)
ReadsBelow G n (gate.Or a b) = (a.number < n) × (b.number < n)
ReadsBelow G n (gate.Xor a b) = (a.number < n) × (b.number < n)

-- the gate reads only what the network has
abbrev pub ReadsWithin : GateNetwork → Gate → Type 0
ReadsWithin G g = ReadsBelow G (length G.gates) g

-- the gates are structurally hashed: each gate reads earlier lines, no two lines have equal gates, and a line's number fits 32 bits
pub record IsHashed (G : GateNetwork) : Type 0 where
  pub ordered : (n : ℕ) → n < length G.gates → ReadsBelow G n (gate_at G.gates n)
  pub distinct : (m n : ℕ) → m < length G.gates → n < length G.gates → gate_at G.gates m ≡ gate_at G.gates n → m ≡ n
  pub few : length G.gates < 2 ^ 32

-- the two lines are the same
abbrev pub same_line : Line → Line → Bool
same_line a b = a.number == b.number

-- the two gates are of one kind and have the same operands in the same order
abbrev pub same_gate : Gate → Gate → Bool
same_gate gate.Zero gate.Zero = true
same_gate gate.One gate.One = true
same_gate (gate.Input i) (gate.Input j) = i == j
same_gate (gate.State i) (gate.State j) = i == j
same_gate (gate.Not a) (gate.Not c) = same_line a c
same_gate (gate.And a b) (gate.And c d) = same_line a c && same_line b d
same_gate (gate.Or a b) (gate.Or c d) = same_line a c && same_line b d
same_gate (gate.Xor a b) (gate.Xor c d) = same_line a c && same_line b d
same_gate _ _ = false

-- the gates with one more at the end, where it isn't among them
abbrev pub gates_with : List Gate → Gate → List Gate
gates_with gates g = if list_any (same_gate g) gates then gates else gates ++ g ∷ []

-- the network with one more gate at the end, where it isn't among its gates
abbrev pub with_gate : GateNetwork → Gate → GateNetwork
with_gate G g = record { inputs = G.inputs; states = G.states; gates = gates_with G.gates g }
