use Rattle.mapping_reading.specs.Pins.{at_of}
use Rattle.mapping_audit.specs.FindingBlocks.{AreOwnersTo}
use Rattle.mapping_audit.proofs.owners.gate_owners.Given as goal

-- the nets of the nodes so far were looked at
abbrev pub invariant-loop-node : goal.invariant-loop-node
invariant-loop-node l = AreOwnersTo l.plain.circuit l.mapped.circuit (at_of l.mapped.circuit l.moved) l.node l.owners.items
