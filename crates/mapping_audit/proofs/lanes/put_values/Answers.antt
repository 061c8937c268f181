use Rattle.std.proofs.Common.{◌∙◌}
use Rattle.mapping_audit.proofs.Rows.{put_lane}
use Rattle.mapping_audit.proofs.lanes.put_values.Goals as goal

pub loop-place-preserved : goal.loop-place-preserved
loop-place-preserved c = λ p low.
    (put_lane p c.loop-place.words c.args.pins.now c.loop-place.place c.args.base c.places_with.result 0 c.loop-place-test.true (c.places_with.ensures.bits p low)
    ∙ c.loop-place.invariant p low)
