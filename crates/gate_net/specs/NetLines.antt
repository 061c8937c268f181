-- Lines that follow the nets of a netlist.
use Rattle.std.specs.Prelude.{◌≡◌, ℕ, ◌<◌, Bool, List, map, length, slice_index, slice_index_or, Option, None, Some}
use Rattle.std.specs.List.{AllZip, range_with_len}
use Rattle.fault_secure.specs.Circuit.{Circuit, node_net, bit}
use Rattle.fault_secure.specs.StuckAt.StuckAt.{NoFault}
use Rattle.fault_secure.specs.Settle.{Settles}
use Rattle.gate_net.specs.declared.line.Line.{Line}
use Rattle.gate_net.specs.declared.gate.Gate.{Gate}
use Rattle.gate_net.specs.declared.gate.Gate.TheVariants as gate
use Rattle.gate_net.specs.Gates.{GateNetwork, IsLine, line_value, meaning}
use Rattle.gate_net.specs.Signal.Signal.{Input}

-- the gates of so many inputs, in order
abbrev pub input_gates : ℕ → List Gate
input_gates count = map gate.Input (range_with_len 0 count)

-- the line has the net's bit in every valuation that settles without a fault, and that of an input means the input
pub record IsLineOf (N : Circuit) (G : GateNetwork) (net : ℕ) (line : Line) : Type 0 where
  pub within : IsLine G line
  pub value : (x s : ℕ → Bool) (v : List Bool) → Settles N NoFault x s v → line_value G x s line ≡ bit v net
  pub input : net < N.inputs → meaning G line ≡ Input net

-- the net has this line
abbrev pub HasLine : List (Option Line) → ℕ → Line → Type 0
HasLine lines net line = slice_index_or lines net None ≡ Some line

-- the net has some line
abbrev pub IsLined : List (Option Line) → ℕ → Type 0
IsLined lines net = (line : Line) × HasLine lines net line

-- each input has a line, and each node at the first places of an order
pub record AreLinedTo (N : Circuit) (order : List ℕ) (places : ℕ) (lines : List (Option Line)) : Type 0 where
  pub inputs : (net : ℕ) → net < N.inputs → IsLined lines net
  pub nodes : (k : ℕ) → k < places → k < length order → IsLined lines (node_net N (slice_index order k))

-- each net's line, where it has one, follows the net
abbrev pub AreLinesOf : Circuit → GateNetwork → List (Option Line) → Type 0
AreLinesOf N G lines = (net : ℕ) (line : Line) → HasLine lines net line → IsLineOf N G net line

-- where the net at a place is an input, the line there means that input
abbrev pub MeanInputs : Circuit → GateNetwork → List ℕ → List Line → Type 0
MeanInputs N G nets lines = AllZip (λ net line. net < N.inputs → meaning G line ≡ Input net) nets lines
