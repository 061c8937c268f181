use Rattle.std.proofs.Common.{◌-◌, refl, arith}
use Rattle.duplex_synth.proofs.CheckSteps.{group_behind, nets_more}
use Rattle.duplex_synth.proofs.checks.check_nets.Goals as goal

pub overflow_add-end : goal.overflow_add-end
overflow_add-end c =
    let behind = group_behind c.as_slice-group-items.result.now c.loop-group.group-index c.group-item.result c.group-item.result c.loop-group-test.true c.group-item.is refl in
    omega (arith, behind, c.len-end.ensures.count, c.loop-group.invariant.1, c.requires.room)

pub check_net-requires-clause-room : goal.check_net-requires-clause-room
check_net-requires-clause-room c =
    let behind = group_behind c.as_slice-group-items.result.now c.loop-group.group-index c.group-item.result c.group-item.result c.loop-group-test.true c.group-item.is refl in
    omega (arith, behind, c.len-end.ensures.count, c.loop-group.invariant.1, c.requires.room)

pub loop-group-preserved : goal.loop-group-preserved
loop-group-preserved c =
    let behind = group_behind c.as_slice-group-items.result.now c.loop-group.group-index c.group-item.result c.group-item.result c.loop-group-test.true c.group-item.is refl in (
      nets_more c.args.inputs c.as_slice-group-items.result.now c.loop-group.group-index c.group-item.result c.group-item.result c.len-end.result c.loop-group.end c.loop-group.nets c.push.new.self c.check_net.result _
          c.loop-group-test.true c.group-item.is refl c.len-end.ensures.count c.check_net.ensures.net c.in_ok-push.ensures.ok c.loop-group.invariant.0,
      omega (arith, behind, c.len-end.ensures.count, c.loop-group.invariant.1),
    )
