use Rattle.std.proofs.Common.{◌≤◌, length}
use Rattle.tsc_net.specs.PlanView.{net_numbers}
use Rattle.structure_audit.proofs.LineWalk.{LinesSoFar}
use Rattle.structure_audit.proofs.lines.fill.Given as goal

abbrev pub invariant-loop-left : goal.invariant-loop-left
invariant-loop-left l = (l.left ≤ length l.order) × LinesSoFar l.net.circuit (net_numbers l.word) l.order l.left l.masks

abbrev pub decreases-loop-left : goal.decreases-loop-left
decreases-loop-left l = l.left
