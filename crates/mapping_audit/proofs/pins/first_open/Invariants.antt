use Rattle.std.proofs.Common.{ℕ, ◌<◌, length, slice_index}
use Rattle.fault_secure.specs.Circuit.{node}
use Rattle.mapping_reading.specs.Pins.{at_of, IsWellAt}
use Rattle.mapping_audit.proofs.pins.first_open.Given as goal

-- the pins of the gates so far are well
abbrev pub invariant-loop-gate : goal.invariant-loop-gate
invariant-loop-gate l = (h p : ℕ) → h < l.gate → slice_index l.blocks h < length l.plain.circuit.nodes → p < length (node l.mapped.circuit h).reads
    → IsWellAt l.plain.circuit l.mapped.circuit (at_of l.mapped.circuit l.moved) (slice_index l.blocks) h p
