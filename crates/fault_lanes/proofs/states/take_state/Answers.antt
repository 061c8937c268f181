use Rattle.std.proofs.Common.{◌≡◌, ◌+◌, sym, ap, ◌∙◌, arith, lit<}
use Rattle.fault_secure.specs.Circuit.{latch}
use Rattle.fault_secure.specs.StuckAt.{on_pin}
use Rattle.lane_sim.specs.Points.{source_bit}
use Rattle.fault_lanes.specs.Batch.{lane_fault}
use Rattle.fault_lanes.proofs.states.take_state.Goals as goal

pub returns-clause-here : goal.returns-clause-here
returns-clause-here c = λ lane inside.
    (let f = lane_fault c.args.chains.now.faults.items lane in
    let place = c.args.place in
    let out = c.latch-view.result.out.number in
    let at : place + 0 ≡ place = omega arith in
    ap (λ row. source_bit c.hold_pins.new.words row lane) (sym at) ∙ c.hold_pins.ensures.here 0 lane (lit< tt) inside
    ∙ ap (λ row. on_pin f out 0 (source_bit c.store.new.block row lane)) at
    ∙ ap (on_pin f out 0) (c.store.ensures.stored lane inside ∙ c.load.ensures.lanes.lanes lane inside ∙ ap (λ net. source_bit c.args.words.now net lane) c.latch-view.ensures.reads)
    ∙ ap (λ net. on_pin f net 0 (source_bit c.args.words.now (latch c.args.net.now.circuit place).reads lane)) c.latch-view.ensures.out)
