use Rattle.std.proofs.Common.{◌∙◌}
use Rattle.node_lanes.proofs.SettlingSteps.{put_lane}
use Rattle.node_lanes.proofs.settling.put_words.Goals as goal

pub loop-place-preserved : goal.loop-place-preserved
loop-place-preserved c = λ p low.
    (put_lane p c.loop-place.words c.args.nets.now c.loop-place.place c.args.base c.places_with.result (record { number = 0 }) c.loop-place-test.true (c.places_with.ensures.bits p low)
    ∙ c.loop-place.invariant p low)
