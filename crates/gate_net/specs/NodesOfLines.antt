-- The node of each gate: its cover, and the lines that its pins read.
use Rattle.std.specs.Prelude.{Bool, true, false, List, [], ◌∷◌}
use Rattle.tsc_cover.specs.Cover.{CoverTable, zero_cover}
use Rattle.tsc_cover.specs.Gates.{not_cover, and_cover, or_cover, xor_cover}
use Rattle.gate_net.specs.declared.line.Line.{Line}
use Rattle.gate_net.specs.declared.gate.Gate.{Gate}
use Rattle.gate_net.specs.declared.gate.Gate.TheVariants as gate
use Rattle.gate_net.specs.Realised.{one_cover}

-- the gate has a node of its own: it is no input and no state bit
abbrev pub has_node : Gate → Bool
has_node (gate.Input i) = false
has_node (gate.State i) = false
has_node _ = true

-- the cover of a gate that has a node
abbrev pub cover_of : Gate → CoverTable
cover_of gate.One = one_cover
cover_of (gate.Not a) = not_cover
cover_of (gate.And a b) = and_cover
cover_of (gate.Or a b) = or_cover
cover_of (gate.Xor a b) = xor_cover
cover_of _ = zero_cover

-- the lines that a gate reads, one for each pin
abbrev pub operands : Gate → List Line
operands (gate.Not a) = a ∷ []
operands (gate.And a b) = a ∷ (b ∷ [])
operands (gate.Or a b) = a ∷ (b ∷ [])
operands (gate.Xor a b) = a ∷ (b ∷ [])
operands _ = []
