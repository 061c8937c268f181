-- Each node that is looked at is one that needs it no more.
use Rattle.std.proofs.Common.{◌≡◌, ◌∙◌, ℕ, ◌+◌, ◌<◌, ◌==◌, ◌||◌, false, nat_le, arith}
use Rattle.std.proofs.lemmas.List.{length-map}
use Rattle.std.proofs.lemmas.Bool.{or_parts, leb-false, lt-leb, eqb-false}
use Rattle.tsc_net.specs.inner.OrderSearch.{nets_of}
use Rattle.tsc_net.proofs.OrderSearchLemmas.{search_weaker}
use Rattle.tsc_net.proofs.order.Search.begin.Goals as goal

one_less : (node j : ℕ) → ((node == j) || nat_le (node + 1) j) ≡ false → nat_le node j ≡ false
one_less node j e =
    let parts = or_parts (node == j) (nat_le (node + 1) j) e in
    let other = eqb-false node j parts.0 in
    let below : j < node + 1 = leb-false (node + 1) j parts.1 in
    lt-leb node j (omega arith)

pub loop-node-preserved : goal.loop-node-preserved
loop-node-preserved c =
    c.in_ok-look.ensures.search (λ j. nat_le (c.loop-node.node + 1) j)
    (search_weaker c.args.first_node (nets_of c.args.nodes.now) c.args.is_listed.now c.loop-node.self.stops.items c.loop-node.self.waiters c.loop-node.self.ready.keys
    (λ j. nat_le c.loop-node.node j) (λ j. (c.loop-node.node == j) || nat_le (c.loop-node.node + 1) j)
    (λ j h e. one_less c.loop-node.node j e) c.loop-node.invariant)

pub look-requires-clause-unlisted : goal.look-requires-clause-unlisted
look-requires-clause-unlisted c = c.requires.unlisted c.loop-node.node

pub look-requires-clause-marks_sized : goal.look-requires-clause-marks_sized
look-requires-clause-marks_sized c = c.loop-node.invariant.marks_sized ∙ length-map c.args.nodes.now _

pub look-requires-clause-stops_sized : goal.look-requires-clause-stops_sized
look-requires-clause-stops_sized c = c.loop-node.invariant.stops_sized ∙ length-map c.args.nodes.now _

pub look-requires-clause-waiters_sized : goal.look-requires-clause-waiters_sized
look-requires-clause-waiters_sized c = c.loop-node.invariant.waiters_sized ∙ length-map c.args.nodes.now _
