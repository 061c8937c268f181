-- What holds when the order has ended is what rows keep.
use Rattle.std.proofs.Common.{sym, subst, length}
use Rattle.tsc_net.specs.Order.{fan_ins, evaluation_order}
use Rattle.tsc_net.specs.PlanView.{net_numbers}
use Rattle.lane_rows.specs.Along.{IsAlong}
use Rattle.lane_rows.specs.Needs.{AreNeededUntil}
use Rattle.lane_rows.proofs.EndLemmas.{end_apart, end_some, end_none}
use Rattle.lane_rows.proofs.assignment.assigned.Goals as goal

pub returns : goal.returns
returns c =
    let C = c.args.net.now.circuit in
    let order = evaluation_order (fan_ins C) in
    let watched = net_numbers c.args.watch.now in
    let table = c.give_nodes.new.table in
    let whole = c.in_ok-give_nodes.ensures.whole in
    let until = subst (AreNeededUntil C order watched) (sym c.deref.ensures.value) c.in_ok-ends.ensures.until in
    let until' = subst (AreNeededUntil C order watched) (sym c.deref-2.ensures.value) c.in_ok-ends.ensures.until in
    let along : IsAlong C order watched (length order) table.rows.items table.held.items table.free.items table.count =
    c.in_ok-give_nodes.ensures.along watched until' (c.give_sources.ensures.along watched until) in
    record {
      sized = along.sized;
      apart = end_apart C order watched table.rows.items table.held.items table.free.items table.count whole along;
      within = along.holding.below;
      some = end_some C order watched table.rows.items table.held.items table.free.items table.count whole along;
      none = end_none C order watched table.rows.items table.held.items table.free.items table.count whole along;
      count = along.peaked;
    }
