use Rattle.std.proofs.Common.{map, length, arith}
use Rattle.parity_code.specs.ParityCircuit.{predictors_end}
use Rattle.parity_synth.specs.ParityNet.{group_cone_of}
use Rattle.parity_synth.proofs.WrittenSteps.{group_within, group_room}
use Rattle.parity_synth.proofs.checks.check_nets.Goals as goal

pub group_places-requires : goal.group_places-requires
group_places-requires c = record {
  within = group_within (length c.args.source.now.circuit.outputs) c.args.grouping.now c.as_slice-group-items.result.now c.loop-group.group-index c.group-item.result c.as_slice.result.now
      c.as_slice-group-items.ensures.whole c.loop-group-test.true c.group-item.is c.requires.groups.within c.as_slice.ensures.whole;
}

pub overflow_add-end-in-loop-group : goal.overflow_add-end-in-loop-group
overflow_add-end-in-loop-group c =
    let room = group_room c.args.source.now.circuit c.as_slice-group-items.result.now c.loop-group.group-index c.group-item.result c.as_slice.result.now c.in_ok-cone.cone c.loop-group.end c.len.result c.len-in-loop-group.result
    (predictors_end (map (group_cone_of c.args.source.now.circuit) c.args.grouping.now) c.args.base) c.loop-group-test.true c.group-item.is c.as_slice.ensures.whole c.in_ok-cone.ensures.computed c.len.ensures.count c.len-in-loop-group.ensures.count c.loop-group.invariant.1 in
    omega (arith, room, c.requires.room)

pub check_net-requires-clause-room : goal.check_net-requires-clause-room
check_net-requires-clause-room c =
    let room = group_room c.args.source.now.circuit c.as_slice-group-items.result.now c.loop-group.group-index c.group-item.result c.as_slice.result.now c.in_ok-cone.cone c.loop-group.end c.len.result c.len-in-loop-group.result
    (predictors_end (map (group_cone_of c.args.source.now.circuit) c.args.grouping.now) c.args.base) c.loop-group-test.true c.group-item.is c.as_slice.ensures.whole c.in_ok-cone.ensures.computed c.len.ensures.count c.len-in-loop-group.ensures.count c.loop-group.invariant.1 in
    omega (arith, room, c.inputs-inputs.ensures.count, c.requires.room)
