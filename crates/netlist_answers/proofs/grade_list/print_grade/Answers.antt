use Rattle.std.proofs.Common.{[], ◌∷◌, ◌++◌}
use Rattle.buffered_sink.proofs.PrintLemmas.{IsCut-more, Prints-then, exits}
use Rattle.fault_grades.specs.Grade.{grade_as}
use Rattle.netlist_answers.specs.GradeText.{grade_end}
use Rattle.netlist_answers.proofs.grade_list.print_grade.Goals as goal

pub returns-in_err-print_fault : goal.returns-in_err-print_fault
returns-in_err-print_fault g c = record {
  printed = exits _ c.from_residual.result c.from_residual.ensures.1 (IsCut-more (grade_end (grade_as c.args.grade) ++ 10 ∷ []) c.in_err-print_fault.ensures.printed);
}

pub returns : goal.returns
returns g c = record {
  printed = Prints-then c.print_end.result _ (grade_end (grade_as c.args.grade) ++ 10 ∷ []) c.in_ok-print_fault.ensures.printed c.print_end.ensures.printed;
}
