use Rattle.std.proofs.Common.{◌+◌, ◌<◌, ap, ◌∙◌, subst, arith}
use Rattle.fault_secure.specs.StuckAt.{StuckAt, on_pin}
use Rattle.lane_sim.specs.Points.{source_bit}
use Rattle.fault_lanes.specs.Batch.{lane_fault}
use Rattle.fault_lanes.specs.Chains.{IsLastAt}
use Rattle.fault_lanes.proofs.HoldLemmas.{pin_away, fault_there, number_there, held_more, held_all}
use Rattle.fault_lanes.proofs.chains.Chains.hold_pins.Goals as goal

pub loop-lane-preserved : goal.loop-lane-preserved
loop-lane-preserved c =
    let faults = c.args.self.now.faults.items in
    let driver = c.args.driver in
    let lane = c.loop-lane.lane in
    let i = c.loop-lane.invariant in
    let inside = i.below in
    let some : 0 < lane = omega (arith, c.loop-lane-test.true) in
    let older : IsLastAt faults driver lane c.index-lane-in-loop-lane.result.now =
    subst (IsLastAt faults driver lane) (number_there c.args.self.now.older.items lane c.index-lane-in-loop-lane.result.now (omega (arith, c.requires.chains.older_sized)) c.index-lane-in-loop-lane.ensures)
    (c.requires.chains.older driver lane some inside (i.at some)) in
    let low = older.below in
    let is = fault_there faults lane c.index.result.now (omega (arith, c.requires.chains.faults_sized)) c.index.ensures in
    record {
      below = omega arith;
      at = older.at;
      held = λ pin few. held_more faults driver (λ p. on_pin (lane_fault faults p) driver pin) (λ p b. pin_away (lane_fault faults p) driver pin b) lane c.index-lane-in-loop-lane.result.now
          (source_bit c.args.words.now (c.args.base + pin)) (source_bit c.loop-lane.words (c.args.base + pin)) (source_bit c.hold_pin.new.words (c.args.base + pin)) inside older
          (c.hold_pin.ensures.here pin few ∙ ap (λ (f : StuckAt). on_pin f driver pin (source_bit c.loop-lane.words (c.args.base + pin) lane)) is)
          (λ p below apart. c.hold_pin.ensures.lanes (c.args.base + pin) p below apart) (i.held pin few);
      others = λ other p below apart. c.hold_pin.ensures.rows other p below apart ∙ i.others other p below apart;
    }

pub returns-clause-here : goal.returns-clause-here
returns-clause-here c = λ pin p few inside.
    (let faults = c.args.self.now.faults.items in
    held_all faults c.args.driver (λ p. on_pin (lane_fault faults p) c.args.driver pin) (λ p b. pin_away (lane_fault faults p) c.args.driver pin b) c.loop-lane.lane
    (source_bit c.args.words.now (c.args.base + pin)) (source_bit c.loop-lane.words (c.args.base + pin)) (omega (arith, c.loop-lane-test.false))
    (λ b. ap (λ (f : StuckAt). on_pin f c.args.driver pin b) c.requires.chains.first) (c.loop-lane.invariant.held pin few) p inside)
