use Rattle.std.proofs.Common.{ℕ, ◌<◌}
use Rattle.mapping_reading.specs.Pins.{at_of}
use Rattle.mapping_audit.specs.Wide.{IsWideCover}
use Rattle.mapping_audit.proofs.wide.first_wide.Given as goal

-- none of the nodes so far has a wide cover
abbrev pub invariant-loop-node : goal.invariant-loop-node
invariant-loop-node l = (k : ℕ) → k < l.node → IsWideCover l.plain.circuit l.mapped.circuit (at_of l.mapped.circuit l.moved) k → ⊥
