use Rattle.std.proofs.Common.{ap, ◌∙◌, arith, length-set, List, ℕ}
use Rattle.tsc_net.specs.Order.{place_in}
use Rattle.lane_rows.proofs.OrderFacts.{node_within}
use Rattle.lane_sim.proofs.ReaderLemmas.{places_more, all_placed}
use Rattle.lane_sim.proofs.readers.places_of.Goals as goal

pub loop-place-preserved : goal.loop-place-preserved
loop-place-preserved c =
    let C = c.args.net.now.circuit in
    let order = c.order-order.result.now in
    let whole = c.order-order.ensures.whole in
    let i = c.loop-place.invariant in
    let node = node_within C order whole c.loop-place.place c.loop-place-test.true in
    record {
      sized = length-set c.loop-place.places.items _ _ ∙ i.sized;
      places = places_more C order whole c.loop-place.places.items c.loop-place.place c.loop-place-test.true (omega (arith, node, i.sized)) i.places;
    }

pub returns-clause-places : goal.returns-clause-places
returns-clause-places c = λ j inside.
    let C = c.args.net.now.circuit in
    let order = c.order-order.result.now in
    all_placed C order c.order-order.ensures.whole c.loop-place.places.items (λ k below. c.loop-place.invariant.places k (omega (arith, c.loop-place-test.false))) j inside
    ∙ ap (λ (o : List ℕ). place_in o j) c.order-order.ensures.order
