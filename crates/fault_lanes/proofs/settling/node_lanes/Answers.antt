use Rattle.std.proofs.Common.{◌≡◌, length, ap, ◌∙◌, arith}
use Rattle.std.proofs.lemmas.List.{length-map}
use Rattle.lane_rows.proofs.OrderFacts.{reads_within}
use Rattle.lane_sim.specs.Lanes.{lane_bit}
use Rattle.tsc_net.specs.PlanView.{net_numbers}
use Rattle.tsc_net.specs.declared.ids.NetId.{NetId}
use Rattle.fault_lanes.specs.Batch.{lane_fault}
use Rattle.fault_lanes.proofs.SettleLemmas.{pins_of_node, made, place_within}
use Rattle.fault_lanes.proofs.settling.node_lanes.Goals as goal

pub load_pins-requires-clause-within : goal.load_pins-requires-clause-within
load_pins-requires-clause-within c = λ k d h.
    (let b = reads_within c.args.net.now.circuit c.nets-nets.ensures.checked.closed c.args.place c.requires.place c.node_reads.result.now c.node_reads.ensures.reads k d h in
    let s = c.requires.words in omega arith)

pub cover_lanes-requires-clause-within : goal.cover_lanes-requires-clause-within
cover_lanes-requires-clause-within c = λ k d h.
    (let b = place_within c.deref.result.now c.width-width.result k d (ap net_numbers c.deref.ensures.value ∙ c.requires.ready.places) c.width-width.ensures.limit h in omega arith)

pub returns : goal.returns
returns c =
    let N = c.args.net.now.circuit in
    let width = c.width-width.result in
    let reads = net_numbers c.node_reads.result.now in
    let many : length reads ≡ width = pins_of_node N c.args.place width reads c.node_cover-cover.result.now c.nets-nets.ensures.checked.closed c.requires.place c.node_reads.ensures.reads c.node_cover-cover.ensures.cover c.width-width.ensures.width in
    let same : length reads ≡ length c.node_reads.result.now = length-map c.node_reads.result.now (λ (net : NetId). net.number) in
    record {
      lanes = record {
        sized = c.cover_lanes.ensures.lanes.sized;
        lanes = λ lane inside.
            made (lane_fault c.args.chains.now.faults.items lane) c.node_net.result.number lane width c.load_pins.new.pins c.hold_pins.new.words c.args.words.now reads many
            (λ pin below. c.load_pins.ensures.loaded pin lane (omega arith) inside)
            (λ pin below. c.hold_pins.ensures.here pin lane below inside)
            N c.args.place c.node_cover-cover.result.now c.deref.result.now (lane_bit c.cover_lanes.result lane) c.node_net.ensures.net c.node_reads.ensures.reads c.node_cover-cover.ensures.cover
            (ap net_numbers c.deref.ensures.value ∙ c.requires.ready.places) (omega (arith, c.width-width.ensures.limit))
            (c.cover_lanes.ensures.lanes.lanes lane inside);
      };
    }
