use Rattle.std.proofs.Common.{◌≡◌, take}
use Rattle.tsc_cover.specs.Cover.{literals}
use Rattle.tsc_cover.specs.Text.{text_of_literals}
use Rattle.tsc_cover.proofs.texts.row_text.Given as goal

abbrev pub invariant-loop-pin : goal.invariant-loop-pin
invariant-loop-pin l = l.text.items ≡ take l.pin (text_of_literals (literals l.width l.row.care l.row.value))
