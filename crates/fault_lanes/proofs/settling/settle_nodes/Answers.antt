use Rattle.std.proofs.Common.{◌≤◌, length, ◌∙◌, arith}
use Rattle.fault_lanes.specs.Batch.{lane_fault}
use Rattle.fault_lanes.proofs.SettleLemmas.{places_more, places_all}
use Rattle.fault_lanes.proofs.settling.settle_nodes.Goals as goal

pub loop-place-preserved : goal.loop-place-preserved
loop-place-preserved c =
    let N = c.args.net.now.circuit in
    let i = c.loop-place.invariant in
    record {
      sources = λ other lane source inside. c.settle_node.ensures.others other lane inside (λ same. omega arith) ∙ i.sources other lane source inside;
      done = λ lane v inside sources settle.
          places_more N c.order-place-items.result.now c.order-place-items.ensures.whole c.nets-nets.ensures.checked.closed (lane_fault c.args.chains.now.faults.items lane) lane v settle
          c.loop-place.words c.loop-place.place-index c.loop-place-test.true (λ net source. i.sources net lane source inside ∙ sources net source) (i.done lane v inside sources settle)
          c.settle_node.new.words (c.settle_node.ensures.here lane inside) (λ other apart. c.settle_node.ensures.others other lane inside apart);
    }

pub returns-clause-nodes : goal.returns-clause-nodes
returns-clause-nodes c = λ lane v inside sources settle.
    (let past : length c.order-place-items.result.now ≤ c.loop-place.place-index = omega (arith, c.loop-place-test.false) in
    places_all c.args.net.now.circuit c.order-place-items.result.now c.order-place-items.ensures.whole c.nets-nets.ensures.checked.closed (lane_fault c.args.chains.now.faults.items lane) lane v settle
    c.loop-place.words c.loop-place.place-index past (c.loop-place.invariant.done lane v inside sources settle))
