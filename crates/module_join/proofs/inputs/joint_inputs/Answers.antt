use Rattle.std.proofs.Common.{◌+◌, List, ℕ, drop, ap, ◌∙◌}
use Rattle.module_join.specs.JointNet.{inputs_from}
use Rattle.module_join.specs.JoinParts.{parts_as}
use Rattle.module_join.proofs.InputSteps.{part_step}
use Rattle.module_join.proofs.inputs.joint_inputs.Goals as goal

pub loop-part-preserved : goal.loop-part-preserved
loop-part-preserved c =
    let parts = c.args.parts.now in
    let place = c.loop-part.part-index in
    ap (λ (names : List (List ℕ)). inputs_from names (parts_as (drop (place + 1) parts))) c.in_ok-add_inputs.ensures.added
    ∙ part_step parts c.loop-part.names c.part-item.result place c.loop-part-test.true c.part-item.is
    ∙ c.loop-part.invariant
