use Rattle.std.proofs.Common.{◌<◌, length, arith}
use Rattle.module_join.specs.JoinParts.{parts_as}
use Rattle.joint_text.specs.JointNamed.{prefix_of}
use Rattle.joint_text.proofs.PartSteps.{labels_long, label_at, planned_there}
use Rattle.joint_text.proofs.NameSteps.{part_rails}
use Rattle.joint_text.proofs.names.names_of_rails.Goals as goal

pub get-requires : goal.get-requires
get-requires c = omega (arith, c.loop-place-test.true, c.len-place-end.ensures.count, labels_long c.args.parts.now c.args.labels.now c.requires.labels)

pub add_rails-requires : goal.add_rails-requires
add_rails-requires c = record {
  planned = (planned_there c.args.parts.now c.loop-place.place c.get-in-loop-place.result.now c.requires.planned c.get-in-loop-place.ensures.found).plan;
}

pub loop-place-preserved : goal.loop-place-preserved
loop-place-preserved c =
    let parts = c.args.parts.now in
    let place = c.loop-place.place in
    let within : c.loop-place.place < length c.args.parts.now = omega (arith, c.loop-place-test.true, c.len-place-end.ensures.count) in
    part_rails (prefix_of (parts_as parts)) c.as_slice.result.now parts place c.get-in-loop-place.result.now c.loop-place.names c.add_rails.new.names _
    c.get-in-loop-place.ensures.found
    (label_at parts c.args.labels.now place c.get.result.now c.as_slice.result.now c.requires.labels within c.get.ensures.found c.as_slice.ensures.whole)
    c.in_ok-add_rails.ensures.added c.loop-place.invariant
