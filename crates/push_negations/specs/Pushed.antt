-- What becomes of gates whose negations are pushed to the inputs.
use Rattle.std.specs.Prelude.{◌≡◌, ℕ, ◌<◌, Bool, true, List, length, slice_index_or}
use Rattle.gate_net.specs.declared.line.Line.{Line}
use Rattle.gate_net.specs.declared.gate.Gate.{Gate}
use Rattle.gate_net.specs.declared.gate.Gate.TheVariants as gate
use Rattle.gate_net.specs.Gates.{GateNetwork, gate_at, line_values}
use Rattle.gate_net.specs.Negations.{is_zero}

-- the most lines that stand for a gate: two phases, of which an exclusive or takes three gates each
abbrev pub most_lines : Gate → ℕ
most_lines (gate.Xor a b) = 6
most_lines _ = 2

-- whatever the bits of the inputs and of the state, the lines of the new network have the values of those of the old one
abbrev pub HaveValues : GateNetwork → List Line → GateNetwork → List Line → Type 0
HaveValues old lines new made = (x s : ℕ → Bool) → line_values new x s made ≡ line_values old x s lines

-- where a line's gate is the constant 0, so is that of the line at its place in the new network
abbrev pub KeepZeros : GateNetwork → List Line → GateNetwork → List Line → Type 0
KeepZeros old lines new made =
    (place : ℕ) (d : Line) → place < length lines → is_zero (gate_at old.gates (slice_index_or lines place d).number) ≡ true → is_zero (gate_at new.gates (slice_index_or made place d).number) ≡ true
