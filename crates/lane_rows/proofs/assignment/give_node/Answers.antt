-- The node at one place more.
use Rattle.std.proofs.Common.{◌≡◌, ◌∙◌, ap, subst, ℕ, ◌+◌, ◌<◌, ◌==◌, ◌||◌, Bool, length, slice_index, arith, Some, length-set}
use Rattle.fault_secure.specs.Circuit.{node, node_net}
use Rattle.tsc_net.specs.Order.{fan_ins, evaluation_order, IsOrder}
use Rattle.tsc_net.specs.PlanView.{net_numbers}
use Rattle.tsc_net.proofs.ResultLemmas.{on_ok_so}
use Rattle.lane_rows.specs.Alive.{net_at, is_needed}
use Rattle.lane_rows.proofs.ReleasedLemmas.{left_of}
use Rattle.lane_rows.proofs.OrderFacts.{reads_within, node_within}
use Rattle.lane_rows.proofs.AlongLemmas.{given_own, along_own}
use Rattle.lane_rows.proofs.assignment.give_node.Goals as goal

pub release_each-requires-clause-nets : goal.release_each-requires-clause-nets
release_each-requires-clause-nets c k d h =
    let C = c.args.net.now.circuit in
    let order = c.order.result.now in
    let inside : c.args.place < length order = omega (arith, c.requires.place, ap length c.order.ensures.order) in
    let within = reads_within C c.requires.closed (slice_index order c.args.place) (node_within C order c.order.ensures.whole c.args.place inside)
    c.node_reads.result.now c.node_reads.ensures.reads k d h in
    omega (arith, within, c.requires.rows, ap length c.give.ensures.rows, length-set c.args.table.now.rows.items c.node_net-own.result.number (Some c.give.result))

pub returns-clause-along : goal.returns-clause-along
returns-clause-along c watched until along =
    let C = c.args.net.now.circuit in
    let order = evaluation_order (fan_ins C) in
    let place = c.args.place in
    let is = c.order.ensures.order in
    let whole : IsOrder (fan_ins C) order = subst (IsOrder (fan_ins C)) is c.order.ensures.whole in
    let own = c.node_net-own.result.number in
    let is_own : own ≡ net_at C order place = c.node_net-own.ensures.net ∙ ap (λ l. node_net C (slice_index l place)) is in
    let is_reads : net_numbers c.node_reads.result.now ≡ (node C (slice_index order place)).reads =
    c.node_reads.ensures.reads ∙ ap (λ l. (node C (slice_index l place)).reads) is in
    let lives : ℕ → Bool = λ other. own == other || is_needed C order watched place other in
    let given = given_own C order watched place c.args.table.now.rows.items c.args.table.now.held.items c.args.table.now.free.items c.args.table.now.count
    whole c.requires.place along c.give.new.self.free.items c.give.new.self.count c.give.result c.give.ensures.next own is_own
    c.give.new.self.rows.items c.give.new.self.held.items c.give.ensures.rows c.give.ensures.held in
    let reads_left = c.in_ok-release_each.ensures.holding lives given in
    let own_left = c.release_each-2.ensures.holding (left_of lives (net_numbers c.node_reads.result.now) c.args.ends.now (place + 1)) reads_left in
    on_ok_so (λ holding.
    along_own C order watched place c.args.table.now.rows.items c.args.table.now.held.items c.args.table.now.free.items c.args.table.now.count
    whole c.requires.place along c.give.new.self.free.items c.give.new.self.count c.give.result c.give.ensures.next own is_own
    c.release_each-2.new.self.rows.items c.release_each-2.new.self.held.items c.release_each-2.new.self.free.items c.release_each-2.new.self.count
    (net_numbers c.node_reads.result.now) c.args.ends.now
    (ap (λ v. v.items) (c.release_each-2.ensures.rows ∙ c.release_each.ensures.rows) ∙ c.give.ensures.rows)
    (c.release_each-2.ensures.count ∙ c.release_each.ensures.count) until is_reads holding) c.release_each-2.result own_left
