use Rattle.std.proofs.Common.{◌≡◌, drop, map}
use Rattle.tsc_cover.specs.Row.{literals_of_each}
use Rattle.blif_write.specs.Layout.{row_line}
use Rattle.blif_write.specs.Steps.{after_lines}
use Rattle.blif_write.proofs.rows.push_rows.Given as goal

abbrev pub invariant-loop-row : goal.invariant-loop-row
invariant-loop-row l =
    after_lines l.out (map (row_line l.on) (literals_of_each l.width (drop l.row-index l.rows))) ≡ after_lines l.initial.out (map (row_line l.on) (literals_of_each l.width l.rows))
