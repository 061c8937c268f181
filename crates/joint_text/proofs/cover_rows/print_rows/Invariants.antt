-- The lines of the rows before this one were printed.
use Rattle.std.proofs.Common.{map, drop}
use Rattle.tsc_cover.specs.Row.{literals_of_each}
use Rattle.tsc_text.specs.Written.{text_of}
use Rattle.blif_write.specs.Layout.{row_line}
use Rattle.buffered_sink.specs.Output.{output}
use Rattle.buffered_sink.proofs.PrintLemmas.{IsUnderWay}
use Rattle.joint_text.proofs.cover_rows.print_rows.Given as goal

abbrev pub invariant-loop-row : goal.invariant-loop-row
invariant-loop-row g l =
    IsUnderWay (output (g.K.Sink.written l.initial.sink) (g.K.Sink.faults l.initial.sink) l.initial.page) (output (g.K.Sink.written l.sink) (g.K.Sink.faults l.sink) l.page)
    (text_of (map (row_line l.on) (literals_of_each l.width l.rows))) (text_of (map (row_line l.on) (literals_of_each l.width (drop l.row-index l.rows))))
