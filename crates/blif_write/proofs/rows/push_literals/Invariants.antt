use Rattle.std.proofs.Common.{◌≡◌, ◌++◌, take}
use Rattle.tsc_cover.specs.Cover.{literals}
use Rattle.tsc_cover.specs.Text.{text_of_literals}
use Rattle.blif_write.proofs.rows.push_literals.Given as goal

abbrev pub invariant-loop-pin : goal.invariant-loop-pin
invariant-loop-pin l =
    l.out ≡ l.initial.out ++ take l.pin (text_of_literals (literals l.width l.row.care l.row.value))
