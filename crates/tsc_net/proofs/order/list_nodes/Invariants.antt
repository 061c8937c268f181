-- The nodes listed so far begin the order; fewer are left each time.
use Rattle.std.proofs.Common.{◌-◌, length}
use Rattle.tsc_net.specs.inner.OrderSearch.{nets_of, IsListing}
use Rattle.tsc_net.proofs.order.list_nodes.Given as goal

abbrev pub invariant-loop-node : goal.invariant-loop-node
invariant-loop-node l = IsListing l.first_node (nets_of l.nodes) l.is_listed l.search.stops.items l.search.waiters l.search.ready.keys l.listed.items

abbrev pub decreases-loop-node : goal.decreases-loop-node
decreases-loop-node l = length l.nodes - length l.listed.items
