-- The nodes from here on are still to be looked at.
use Rattle.std.proofs.Common.{drop}
use Rattle.tsc_net.specs.Order.{has_place}
use Rattle.tsc_net.specs.inner.OrderSearch.{nets_of, IsSearch}
use Rattle.tsc_net.proofs.order.Search.look_again.Given as goal

abbrev pub invariant-loop-node : goal.invariant-loop-node
invariant-loop-node l =
    IsSearch l.first_node (nets_of l.nodes) l.is_listed l.self.stops.items l.self.waiters l.self.ready.keys (has_place (drop l.node-index l.woken))
