-- The lines of the faults before this one were printed.
use Rattle.std.proofs.Common.{drop}
use Rattle.buffered_sink.specs.Output.{output}
use Rattle.buffered_sink.proofs.PrintLemmas.{IsUnderWay}
use Rattle.netlist_answers.specs.GradeText.{grade_lines}
use Rattle.netlist_answers.proofs.grade_list.print_grades.Given as goal

abbrev pub invariant-loop-place : goal.invariant-loop-place
invariant-loop-place g l =
    IsUnderWay (output (g.K.Sink.written l.initial.sink) (g.K.Sink.faults l.initial.sink) l.initial.page) (output (g.K.Sink.written l.sink) (g.K.Sink.faults l.sink) l.page)
    (grade_lines l.net l.faults l.grades) (grade_lines l.net (drop l.place l.faults) (drop l.place l.grades))
