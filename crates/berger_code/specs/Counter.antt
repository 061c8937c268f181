-- A counter of zeros: bits that stand for a number, the least significant first, to which carries are added.
use Rattle.std.specs.Prelude.{◌≡◌, ℕ, Bool, List}
use Rattle.tsc_bits.specs.Counting.{zeros, counted}
use Rattle.gate_net.specs.declared.line.Line.{Line}
use Rattle.gate_net.specs.Gates.{GateNetwork, AreLines, line_values}
use Rattle.gate_net.specs.Growth.{Grows}

-- the network grew, and on every input and state these lines of it count the zeros among the outputs
pub record CountsZeros (old new : GateNetwork) (outputs bits : List Line) : Type 0 where
  pub counts : (x s : ℕ → Bool) → counted (line_values new x s bits) ≡ zeros (line_values old x s outputs)
  pub within : AreLines new bits
  pub grows : Grows old new
