use Rattle.std.proofs.Common.{◌≤◌, length}
use Rattle.tsc_net.specs.PlanView.{net_numbers}
use Rattle.net_cones.proofs.ConeLoop.{ConeSoFar}
use Rattle.net_cones.proofs.cones.mark_cone.Given as goal

abbrev pub invariant-loop-left : goal.invariant-loop-left
invariant-loop-left l = (l.left ≤ length l.order) × ConeSoFar l.net.circuit (net_numbers l.roots) l.order l.left l.marks

abbrev pub decreases-loop-left : goal.decreases-loop-left
decreases-loop-left l = l.left
