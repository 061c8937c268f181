use Rattle.std.proofs.Common.{arith}
use Rattle.question_text.proofs.Ends.{groups_room}
use Rattle.std.proofs.lemmas.Grind.{common_steps}
use Rattle.question_text.proofs.Once.{after_clauses-append}
use Rattle.question_text.proofs.reasons.push_groups.Goals as goal

pub push_members-requires : goal.push_members-requires
push_members-requires c =
    let e = c.loop-group.invariant.end in
    record { room = omega (arith, e, groups_room c.loop-group.at c.loop-group.group-index c.args.groups.now c.group-item.result c.loop-group-test.true c.group-item.is) }

pub group_end-at-requires : goal.group_end-at-requires
group_end-at-requires c =
    let e = c.loop-group.invariant.end in
    record { room = omega (arith, e, groups_room c.loop-group.at c.loop-group.group-index c.args.groups.now c.group-item.result c.loop-group-test.true c.group-item.is) }

pub loop-group-preserved : goal.loop-group-preserved
loop-group-preserved c =
    grind (arith, common_steps, after_clauses-append)
