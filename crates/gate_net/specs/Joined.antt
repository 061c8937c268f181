-- Lines that may be there, as a chain of gates has none before its first operand.
use Rattle.std.specs.Prelude.{◌≡◌, ℕ, Bool, Option, None, Some}
use Rattle.gate_net.specs.declared.line.Line.{Line}
use Rattle.gate_net.specs.Gates.{GateNetwork, IsLine, line_value}
use Rattle.gate_net.specs.Growth.{Grows}

-- the value of a line, and this bit where there is none
abbrev pub value_or : Bool → GateNetwork → (ℕ → Bool) → (ℕ → Bool) → Option Line → Bool
value_or empty G x s None = empty
value_or empty G x s (Some line) = line_value G x s line

-- the line, if it is there, is one of the network's
abbrev pub IsLineOrNone : GateNetwork → Option Line → Type 0
IsLineOrNone G None = Unit {0}
IsLineOrNone G (Some line) = IsLine G line

-- the network grew, and this line of it has the bit that a function gives, which is `empty` where there is none
pub record ComputesOr (empty : Bool) (old new : GateNetwork) (bit : (ℕ → Bool) → (ℕ → Bool) → Bool) (made : Option Line) : Type 0 where
  pub value : (x s : ℕ → Bool) → value_or empty new x s made ≡ bit x s
  pub within : IsLineOrNone new made
  pub grows : Grows old new
