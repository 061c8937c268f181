use Rattle.std.proofs.Common.{◌≡◌, length, arith}
use Rattle.std.proofs.lemmas.List.{drop_all}
use Rattle.tsc_cover.specs.Cover.{literals}
use Rattle.tsc_cover.specs.Text.{text_of_literals}
use Rattle.tsc_cover.proofs.Row.{length-literals}
use Rattle.tsc_cover.proofs.Text.{length-text_of_literals}
use Rattle.joint_text.proofs.Printed.{all_printed}
use Rattle.joint_text.proofs.PartSteps.{pin_step}
use Rattle.buffered_sink.proofs.PrintLemmas.{begin, cut, exits, more}
use Rattle.joint_text.proofs.cover_rows.print_literals.Goals as goal

pub loop-pin-init : goal.loop-pin-init
loop-pin-init g c = begin _ _

pub returns-in_err-print : goal.returns-in_err-print
returns-in_err-print g c = record {
  printed = exits _ c.from_residual.result c.from_residual.ensures.1
      (cut _ c.loop-pin.invariant c.in_err-print.ensures.printed
      (pin_step c.args.width c.args.row.now.care c.args.row.now.value c.loop-pin.pin c.char_at.result c.loop-pin-test.true c.char_at.ensures.character));
}

pub loop-pin-preserved : goal.loop-pin-preserved
loop-pin-preserved g c =
    more _ c.loop-pin.invariant c.in_ok-print.ensures.printed
    (pin_step c.args.width c.args.row.now.care c.args.row.now.value c.loop-pin.pin c.char_at.result c.loop-pin-test.true c.char_at.ensures.character)

pub returns : goal.returns
returns g c =
    let row = literals c.args.width c.args.row.now.care c.args.row.now.value in
    let wide : length (literals c.args.width c.args.row.now.care c.args.row.now.value) ≡ c.args.width = length-literals c.args.width c.args.row.now.care c.args.row.now.value in
    record { printed = all_printed _ c.loop-pin.invariant (drop_all c.loop-pin.pin (text_of_literals row) (omega (arith, length-text_of_literals row))) }
