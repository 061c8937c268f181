use Rattle.std.proofs.Common.{◌≤◌, length}
use Rattle.mapping_audit.specs.FindingBlocks.{AreBlocksFrom}
use Rattle.mapping_audit.proofs.blocks.lead_back.Given as goal

-- the gates behind those that are left were looked at
abbrev pub invariant-loop-left : goal.invariant-loop-left
invariant-loop-left l = (l.left ≤ length l.order) × AreBlocksFrom l.mapped.circuit l.order l.owners l.none l.left l.blocks

abbrev pub decreases-loop-left : goal.decreases-loop-left
decreases-loop-left l = l.left
