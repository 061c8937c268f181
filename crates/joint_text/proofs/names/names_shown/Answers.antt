use Rattle.std.proofs.Common.{◌<◌, length, arith}
use Rattle.module_join.specs.JoinParts.{parts_as}
use Rattle.joint_text.specs.JointNamed.{prefix_of}
use Rattle.joint_text.proofs.PartSteps.{labels_long, label_at, planned_there}
use Rattle.joint_text.proofs.NameSteps.{part_shown}
use Rattle.joint_text.proofs.names.names_shown.Goals as goal

pub get-requires : goal.get-requires
get-requires c = omega (arith, c.loop-place-test.true, c.len-place-end.ensures.count, labels_long c.args.parts.now c.args.labels.now c.requires.labels)

pub add_shown-requires : goal.add_shown-requires
add_shown-requires c = record {
  planned = (planned_there c.args.parts.now c.loop-place.place c.get-in-loop-place.result.now c.requires.planned c.get-in-loop-place.ensures.found).plan;
}

pub loop-place-preserved : goal.loop-place-preserved
loop-place-preserved c =
    let parts = c.args.parts.now in
    let place = c.loop-place.place in
    let within : c.loop-place.place < length c.args.parts.now = omega (arith, c.loop-place-test.true, c.len-place-end.ensures.count) in
    part_shown (prefix_of (parts_as parts)) c.as_slice.result.now parts place c.get-in-loop-place.result.now c.loop-place.names c.add_shown.new.names _
    c.get-in-loop-place.ensures.found
    (label_at parts c.args.labels.now place c.get.result.now c.as_slice.result.now c.requires.labels within c.get.ensures.found c.as_slice.ensures.whole)
    c.in_ok-add_shown.ensures.added c.loop-place.invariant
