-- One node more.
use Rattle.std.proofs.Common.{◌≡◌, ◌∙◌, ap, subst, ◌+◌, ◌<◌, length, slice_index, if◌then◌else◌, arith}
use Rattle.fault_secure.specs.Circuit.{node}
use Rattle.tsc_net.specs.Order.{fan_ins, evaluation_order, has_place}
use Rattle.lane_rows.specs.Needs.{AreReadUntil}
use Rattle.lane_rows.proofs.NeedsLemmas.{none_read, read_more}
use Rattle.lane_rows.proofs.OrderFacts.{reads_within, node_within}
use Rattle.lane_rows.proofs.needs.put_reads.Goals as goal

pub loop-place-init : goal.loop-place-init
loop-place-init c = none_read c.args.net.now.circuit (evaluation_order (fan_ins c.args.net.now.circuit)) c.args.ends.now c.requires.zeros

pub put_each-requires : goal.put_each-requires
put_each-requires c =
    let C = c.args.net.now.circuit in
    let order = c.order-node-items.result.now in
    let inside : c.loop-place.place < length order = omega arith in
    let within = reads_within C c.requires.closed (slice_index order c.loop-place.place)
    (node_within C order c.order-node-items.ensures.whole c.loop-place.place inside)
    c.node_reads.result.now c.node_reads.ensures.reads in
    record { within = λ k d h. omega (arith, within k d h, c.loop-place.auto.ends, c.requires.sized) }

pub loop-place-preserved : goal.loop-place-preserved
loop-place-preserved c =
    let C = c.args.net.now.circuit in
    let order = evaluation_order (fan_ins C) in
    let many = c.loop-place.place in
    let is = c.order-node-items.ensures.order in
    let inside : many < length order = omega (arith, c.loop-place-test.true, ap length is) in
    read_more C order many c.loop-place.ends inside c.loop-place.invariant c.put_each.new.numbers
    (λ net h.
    let here : net < length c.loop-place.ends = omega (arith, h, c.loop-place.auto.ends, c.requires.sized) in
    c.put_each.ensures.each net here
    ∙ ap (λ l. if has_place l net then many + 1 else slice_index c.loop-place.ends net)
    (c.node_reads.ensures.reads ∙ ap (λ l. (node C (slice_index l many)).reads) is))

pub returns : goal.returns
returns c =
    let C = c.args.net.now.circuit in
    let order = evaluation_order (fan_ins C) in
    let end : c.loop-place.place ≡ length order = omega (arith, c.loop-place-test.false, c.loop-place.auto.place-end, ap length c.order-node-items.ensures.order) in
    record { until = subst (λ n. AreReadUntil C order n c.loop-place.ends) end c.loop-place.invariant }
