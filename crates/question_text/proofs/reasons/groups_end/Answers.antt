use Rattle.std.proofs.Common.{arith}
use Rattle.question_text.proofs.Ends.{groups_room}
use Rattle.question_text.proofs.reasons.groups_end.Goals as goal

pub group_end-at-requires : goal.group_end-at-requires
group_end-at-requires c =
    let e = c.loop-group.invariant in
    record { room = omega (arith, e, groups_room c.loop-group.at c.loop-group.group-index c.args.groups.now c.group-item.result c.loop-group-test.true c.group-item.is) }
