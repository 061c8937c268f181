use Rattle.std.proofs.Common.{◌≡◌, slice_index, sym, ap, ◌∙◌, arith, below_more}
use Rattle.std.proofs.lemmas.List.{get_or-map}
use Rattle.tsc_net.specs.PlanView.{net_numbers}
use Rattle.tsc_net.specs.declared.ids.NetId.{NetId}
use Rattle.lane_sim.specs.Points.{source_bit}
use Rattle.fault_lanes.proofs.settling.load_pins.Goals as goal

pub loop-pin-preserved : goal.loop-pin-preserved
loop-pin-preserved c = λ at lane below inside.
    below_more (λ k. source_bit c.store.new.block k lane ≡ source_bit c.args.words.now (slice_index (net_numbers c.args.reads.now) k) lane) c.loop-pin.pin
    (λ k before. c.store.ensures.others k lane inside (λ same. omega arith) ∙ c.loop-pin.invariant k lane before inside)
    (c.store.ensures.stored lane inside ∙ c.load.ensures.lanes.lanes lane inside
    ∙ ap (λ n. source_bit c.args.words.now n lane) (sym (get_or-map (λ (net : NetId). net.number) c.args.reads.now c.loop-pin.pin (record { number = 0 }) 0 c.loop-pin-test.true)))
    at below
