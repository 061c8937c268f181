use Rattle.std.proofs.Common.{arith}
use Rattle.std.specs.Option.{option_copied}
use Rattle.blif_write.specs.RegisterText.{clock_words}
use Rattle.module_join.specs.JoinParts.{parts_as}
use Rattle.joint_text.specs.JointNamed.{prefix_of}
use Rattle.joint_text.proofs.PartSteps.{labels_long, label_at, latches_step}
use Rattle.buffered_sink.proofs.PrintLemmas.{begin, cut, exits, more}
use Rattle.joint_text.proofs.printing.print_latches.Goals as goal

pub get-requires : goal.get-requires
get-requires g c = omega (arith, c.loop-place-test.true, c.len-place-end.ensures.count, labels_long c.args.parts.now c.args.labels.now c.requires.labels)

pub loop-place-init : goal.loop-place-init
loop-place-init g c = begin _ _

pub returns-in_err-print_part_latches : goal.returns-in_err-print_part_latches
returns-in_err-print_part_latches g c = record {
  printed = exits _ c.from_residual.result c.from_residual.ensures.1
      (cut _ c.loop-place.invariant c.in_err-print_part_latches.ensures.printed
      (latches_step (clock_words (option_copied c.args.clock)) (prefix_of (parts_as c.args.parts.now)) c.as_slice-label.result.now c.args.parts.now c.loop-place.place c.get-in-loop-place.result.now c.get-in-loop-place.ensures.found
      (label_at c.args.parts.now c.args.labels.now c.loop-place.place c.get.result.now c.as_slice-label.result.now c.requires.labels (omega (arith, c.loop-place-test.true, c.len-place-end.ensures.count)) c.get.ensures.found c.as_slice-label.ensures.whole)));
}

pub loop-place-preserved : goal.loop-place-preserved
loop-place-preserved g c =
    more _ c.loop-place.invariant c.in_ok-print_part_latches.ensures.printed
    (latches_step (clock_words (option_copied c.args.clock)) (prefix_of (parts_as c.args.parts.now)) c.as_slice-label.result.now c.args.parts.now c.loop-place.place c.get-in-loop-place.result.now c.get-in-loop-place.ensures.found
    (label_at c.args.parts.now c.args.labels.now c.loop-place.place c.get.result.now c.as_slice-label.result.now c.requires.labels (omega (arith, c.loop-place-test.true, c.len-place-end.ensures.count)) c.get.ensures.found c.as_slice-label.ensures.whole))
