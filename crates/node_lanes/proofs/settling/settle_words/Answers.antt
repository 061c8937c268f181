use Rattle.std.proofs.Common.{◌+◌, drop, ap, sym, ◌∙◌}
use Rattle.code_lanes.specs.Lanes.{column}
use Rattle.node_lanes.specs.Settling.{settled}
use Rattle.node_lanes.proofs.SettlingSteps.{settle_step}
use Rattle.node_lanes.proofs.settling.settle_words.Goals as goal

pub loop-place-preserved : goal.loop-place-preserved
loop-place-preserved c = λ p low.
    (ap (settled c.args.net.now.circuit (drop (c.loop-place.place-index + 1) c.args.places.now)) (c.settle_node_words.ensures.set p low)
    ∙ sym (settle_step c.args.net.now.circuit c.args.places.now c.loop-place.place-index (column p c.loop-place.words) c.loop-place-test.true)
    ∙ c.loop-place.invariant p low)
