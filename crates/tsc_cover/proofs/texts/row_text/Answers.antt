use Rattle.std.proofs.Common.{◌∙◌, ◌≡◌, length, take_all, arith}
use Rattle.tsc_cover.specs.Cover.{literals}
use Rattle.tsc_cover.specs.Text.{text_of_literals}
use Rattle.tsc_cover.proofs.Row.{length-literals}
use Rattle.tsc_cover.proofs.Text.{take-text_of_literals, length-text_of_literals}
use Rattle.tsc_cover.proofs.texts.row_text.Goals as goal

pub loop-pin-preserved : goal.loop-pin-preserved
loop-pin-preserved c =
    let row = literals c.args.width c.args.row.now.care c.args.row.now.value in
    let wide : length row ≡ c.args.width = length-literals c.args.width c.args.row.now.care c.args.row.now.value in
    let next = take-text_of_literals row c.loop-pin.pin (omega arith) in
    cc (c.in_ok-push.ensures.items, c.char_at.ensures.character)

pub returns : goal.returns
returns c = record {
  text =
      let row = literals c.args.width c.args.row.now.care c.args.row.now.value in
      let wide : length row ≡ c.args.width = length-literals c.args.width c.args.row.now.care c.args.row.now.value in
      let long : length (text_of_literals row) ≡ length row = length-text_of_literals row in
      c.loop-pin.invariant ∙ take_all c.loop-pin.pin (text_of_literals row) (omega arith);
}
