use Rattle.std.proofs.Common.{◌<◌, ap, ◌∙◌, subst, arith}
use Rattle.fault_secure.specs.StuckAt.{StuckAt, on_stem}
use Rattle.lane_sim.specs.Points.{source_bit}
use Rattle.fault_lanes.specs.Batch.{lane_fault}
use Rattle.fault_lanes.specs.Chains.{IsLastAt}
use Rattle.fault_lanes.proofs.HoldLemmas.{stem_away, fault_there, number_there, held_more}
use Rattle.fault_lanes.proofs.chains.Chains.hold_stems.Goals as goal

pub loop-lane-preserved : goal.loop-lane-preserved
loop-lane-preserved c =
    let faults = c.args.self.now.faults.items in
    let net = c.args.net in
    let lane = c.loop-lane.lane in
    let i = c.loop-lane.invariant in
    let inside = i.below in
    let some : 0 < lane = omega (arith, c.loop-lane-test.true) in
    let older : IsLastAt faults net lane c.index-lane-in-loop-lane.result.now =
    subst (IsLastAt faults net lane) (number_there c.args.self.now.older.items lane c.index-lane-in-loop-lane.result.now (omega (arith, c.requires.chains.older_sized)) c.index-lane-in-loop-lane.ensures) (c.requires.chains.older net lane some inside (i.at some)) in
    let low = older.below in
    let is = fault_there faults lane c.index.result.now (omega (arith, c.requires.chains.faults_sized)) c.index.ensures in
    record {
      below = omega arith;
      at = older.at;
      held = held_more faults net (λ p. on_stem (lane_fault faults p) net) (λ p b. stem_away (lane_fault faults p) net b) lane c.index-lane-in-loop-lane.result.now
          (source_bit c.args.words.now net) (source_bit c.loop-lane.words net) (source_bit c.hold_stem.new.words net) inside older
          (c.hold_stem.ensures.here ∙ ap (λ (f : StuckAt). on_stem f net (source_bit c.loop-lane.words net lane)) is)
          (λ p below apart. c.hold_stem.ensures.lanes net p below apart) i.held;
      others = λ other p below apart. c.hold_stem.ensures.rows other p below apart ∙ i.others other p below apart;
    }
