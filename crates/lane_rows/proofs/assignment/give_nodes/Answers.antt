-- One place more, and the end of the order.
use Rattle.std.proofs.Common.{◌≡◌, ap, subst, length, arith}
use Rattle.tsc_net.specs.Order.{fan_ins, evaluation_order, IsOrder}
use Rattle.lane_rows.specs.Along.{IsAlong}
use Rattle.lane_rows.proofs.assignment.give_nodes.Goals as goal

pub loop-place-preserved : goal.loop-place-preserved
loop-place-preserved c = record {
  rows = c.in_ok-give_node.ensures.rows;
  count = omega (arith, c.in_ok-give_node.ensures.count, c.loop-place.invariant.count);
  along = λ watched until start. c.in_ok-give_node.ensures.along watched until (c.loop-place.invariant.along watched until start);
}

pub returns : goal.returns
returns c = record {
  whole = subst (IsOrder (fan_ins c.args.net.now.circuit)) c.order-place-end.ensures.order c.order-place-end.ensures.whole;
  along = λ watched until start.
      let C = c.args.net.now.circuit in
      let order = evaluation_order (fan_ins C) in
      let end : c.loop-place.place ≡ length order = omega (arith, c.loop-place-test.false, c.loop-place.auto.place-end, ap length c.order-place-end.ensures.order) in
      subst (λ n. IsAlong C order watched n c.loop-place.table.rows.items c.loop-place.table.held.items c.loop-place.table.free.items c.loop-place.table.count) end
      (c.loop-place.invariant.along watched until start);
}
