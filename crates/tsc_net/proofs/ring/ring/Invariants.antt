-- The walk from here on is the ring, and the steps are those of the path.
use Rattle.std.proofs.Common.{◌-◌, length}
use Rattle.tsc_net.specs.inner.OrderSearch.{nets_of, fans_over, IsWalk}
use Rattle.tsc_net.proofs.ring.ring.Given as goal

abbrev pub invariant-loop-path : goal.invariant-loop-path
invariant-loop-path l = IsWalk (fans_over l.first_node (nets_of l.nodes)) l.steps.items l.path.items l.at

abbrev pub decreases-loop-path : goal.decreases-loop-path
decreases-loop-path l = length l.nodes - length l.path.items
