use Rattle.std.proofs.Common.{◌-◌, length, slice_index}
use Rattle.tsc_net.specs.Order.{fan_ins, evaluation_order}
use Rattle.mapping_reading.specs.ReadMapping.{members}
use Rattle.mapping_audit.proofs.Chaining.{IsWalk}
use Rattle.mapping_audit.proofs.chains.gates_of.Given as goal

-- the gates so far, and those that the chain still has, are the block's
abbrev pub invariant-loop-gate : goal.invariant-loop-gate
invariant-loop-gate l = IsWalk l.next (length l.mapped.circuit.nodes) (members (slice_index l.blocks) (evaluation_order (fan_ins l.mapped.circuit)) l.block) l.gates.items l.gate

abbrev pub decreases-loop-gate : goal.decreases-loop-gate
decreases-loop-gate l = length (members (slice_index l.blocks) (evaluation_order (fan_ins l.mapped.circuit)) l.block) - length l.gates.items
