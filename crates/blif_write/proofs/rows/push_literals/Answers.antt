use Rattle.std.proofs.Common.{◌≡◌, [], ◌∷◌, length, take, take_all, append_assoc, arith}
use Rattle.tsc_cover.specs.Cover.{literals}
use Rattle.tsc_cover.specs.Text.{text_of_literals}
use Rattle.tsc_cover.proofs.Row.{length-literals}
use Rattle.tsc_cover.proofs.Text.{take-text_of_literals, length-text_of_literals}
use Rattle.blif_write.proofs.rows.push_literals.Goals as goal

pub loop-pin-preserved : goal.loop-pin-preserved
loop-pin-preserved c =
    let row = literals c.args.width c.args.row.now.care c.args.row.now.value in
    let wide : length row ≡ c.args.width = length-literals c.args.width c.args.row.now.care c.args.row.now.value in
    let next = take-text_of_literals row c.loop-pin.pin (omega arith) in
    let joined = append_assoc c.args.out.now (take c.loop-pin.pin (text_of_literals row)) (c.char_at.result ∷ []) in
    cc (c.in_ok-push.ensures.ok, c.char_at.ensures.character)

pub returns : goal.returns
returns c = record {
  literals =
      let row = literals c.args.width c.args.row.now.care c.args.row.now.value in
      let wide : length row ≡ c.args.width = length-literals c.args.width c.args.row.now.care c.args.row.now.value in
      let long : length (text_of_literals row) ≡ length row = length-text_of_literals row in
      let whole = take_all c.loop-pin.pin (text_of_literals row) (omega arith) in
      cc (c.loop-pin.invariant);
}
