-- The characters of the pins before this one were printed.
use Rattle.std.proofs.Common.{drop}
use Rattle.tsc_cover.specs.Cover.{literals}
use Rattle.tsc_cover.specs.Text.{text_of_literals}
use Rattle.buffered_sink.specs.Output.{output}
use Rattle.buffered_sink.proofs.PrintLemmas.{IsUnderWay}
use Rattle.joint_text.proofs.cover_rows.print_literals.Given as goal

abbrev pub invariant-loop-pin : goal.invariant-loop-pin
invariant-loop-pin g l =
    IsUnderWay (output (g.K.Sink.written l.initial.sink) (g.K.Sink.faults l.initial.sink) l.initial.page) (output (g.K.Sink.written l.sink) (g.K.Sink.faults l.sink) l.page)
    (text_of_literals (literals l.width l.row.care l.row.value)) (drop l.pin (text_of_literals (literals l.width l.row.care l.row.value)))
