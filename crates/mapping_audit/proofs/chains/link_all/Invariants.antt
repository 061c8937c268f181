use Rattle.std.proofs.Common.{◌≤◌, length}
use Rattle.mapping_audit.specs.Chains.{AreChainsFrom}
use Rattle.mapping_audit.proofs.chains.link_all.Given as goal

-- the gates behind those that are left are linked
abbrev pub invariant-loop-left : goal.invariant-loop-left
invariant-loop-left l = (l.left ≤ length l.order) × AreChainsFrom l.order (length l.initial.heads) (length l.mapped.circuit.nodes) l.blocks l.left l.heads l.next

abbrev pub decreases-loop-left : goal.decreases-loop-left
decreases-loop-left l = l.left
