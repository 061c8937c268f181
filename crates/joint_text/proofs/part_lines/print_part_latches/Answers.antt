use Rattle.std.proofs.Common.{[], arith}
use Rattle.std.specs.Option.{option_copied}
use Rattle.blif_write.specs.RegisterText.{clock_words}
use Rattle.joint_text.specs.JointNamed.{under}
use Rattle.buffered_sink.proofs.PrintLemmas.{IsPrinted-nil}
use Rattle.joint_text.proofs.PartSteps.{latch_step, latches_begin}
use Rattle.buffered_sink.proofs.PrintLemmas.{cut, exits, more}
use Rattle.joint_text.proofs.part_lines.print_part_latches.Goals as goal

pub loop-place-init : goal.loop-place-init
loop-place-init g c = record { done = []; printed = IsPrinted-nil _; whole = latches_begin (clock_words (option_copied c.args.clock)) (under c.args.label.now c.args.net.now) }

pub returns-in_err-print_latch : goal.returns-in_err-print_latch
returns-in_err-print_latch g c = record {
  printed = exits _ c.from_residual.result c.from_residual.ensures.1
      (cut _ c.loop-place.invariant c.in_err-print_latch.ensures.printed
      (latch_step (clock_words (option_copied c.args.clock)) (under c.args.label.now c.args.net.now) c.loop-place.place (omega arith)));
}

pub loop-place-preserved : goal.loop-place-preserved
loop-place-preserved g c =
    more _ c.loop-place.invariant c.in_ok-print_latch.ensures.printed
    (latch_step (clock_words (option_copied c.args.clock)) (under c.args.label.now c.args.net.now) c.loop-place.place (omega arith))
