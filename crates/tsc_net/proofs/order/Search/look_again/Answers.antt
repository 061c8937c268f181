-- Each node that is looked at is one that needs it no more.
use Rattle.std.proofs.Common.{◌≡◌, ◌∙◌, ap, ◌+◌, ◌<◌, ◌==◌, ◌||◌, false, length, drop, arith, slice_index}
use Rattle.std.proofs.lemmas.List.{drop_more, length-map}
use Rattle.std.proofs.lemmas.List.Elements.{All-get_or}
use Rattle.fault_secure.specs.Circuit.{bit}
use Rattle.tsc_net.specs.Order.{has_place}
use Rattle.tsc_net.specs.inner.OrderSearch.{nets_of}
use Rattle.tsc_net.proofs.OrderSearchLemmas.{search_weaker}
use Rattle.tsc_net.proofs.order.Search.look_again.Goals as goal

pub loop-node-preserved : goal.loop-node-preserved
loop-node-preserved c =
    let woken = c.args.woken.now in
    let at = c.loop-node.node-index in
    let node = slice_index woken at in
    let before : at < length woken = omega arith in
    c.in_ok-look.ensures.search (has_place (drop (at + 1) woken))
    (search_weaker c.args.first_node (nets_of c.args.nodes.now) c.args.is_listed.now c.loop-node.self.stops.items c.loop-node.self.waiters c.loop-node.self.ready.keys
    (has_place (drop at woken)) (λ j. (node == j) || has_place (drop (at + 1) woken) j)
    (λ j h e. ap (λ places. has_place places j) (drop_more woken at 0 before) ∙ e) c.loop-node.invariant)

pub look-requires-clause-node : goal.look-requires-clause-node
look-requires-clause-node c = All-get_or (λ j. j < length c.args.nodes.now) c.args.woken.now c.loop-node.node-index 0 (omega arith) c.requires.woken

pub look-requires-clause-unlisted : goal.look-requires-clause-unlisted
look-requires-clause-unlisted c = All-get_or (λ j. bit c.args.is_listed.now j ≡ false) c.args.woken.now c.loop-node.node-index 0 (omega arith) c.requires.unlisted

pub look-requires-clause-marks_sized : goal.look-requires-clause-marks_sized
look-requires-clause-marks_sized c = c.loop-node.invariant.marks_sized ∙ length-map c.args.nodes.now _

pub look-requires-clause-stops_sized : goal.look-requires-clause-stops_sized
look-requires-clause-stops_sized c = c.loop-node.invariant.stops_sized ∙ length-map c.args.nodes.now _

pub look-requires-clause-waiters_sized : goal.look-requires-clause-waiters_sized
look-requires-clause-waiters_sized c = c.loop-node.invariant.waiters_sized ∙ length-map c.args.nodes.now _
