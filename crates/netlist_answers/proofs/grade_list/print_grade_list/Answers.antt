use Rattle.std.proofs.Common.{◌<◌, All, List, sym, subst}
use Rattle.buffered_sink.proofs.PrintLemmas.{IsCut-more, Prints-then, exits}
use Rattle.fault_secure.specs.Circuit.{nets}
use Rattle.fault_secure.specs.StuckAt.{StuckAt, fault_cell}
use Rattle.netlist_answers.specs.GradeText.{grade_counts}
use Rattle.netlist_answers.proofs.FaultLemmas.{listed-named}
use Rattle.netlist_answers.proofs.grade_list.print_grade_list.Goals as goal

pub print_grades-requires : goal.print_grades-requires
print_grades-requires g c =
    let graded = c.args.graded.now in
    let P : List StuckAt → Type 0 = λ faults. All (λ fault. fault_cell fault < nets graded.net.circuit) faults in
    record {
      known = subst P (sym c.requires.graded.listed) (listed-named graded.net.circuit);
      sized = c.requires.graded.sized;
    }

pub returns-in_err-print_grades : goal.returns-in_err-print_grades
returns-in_err-print_grades g c =
    let graded = c.args.graded.now in
    record {
      printed = exits _ c.from_residual.result c.from_residual.ensures.1
          (rw (← c.requires.graded.listed) (IsCut-more (grade_counts graded.grades) c.in_err-print_grades.ensures.printed));
    }

pub returns : goal.returns
returns g c =
    let graded = c.args.graded.now in
    record {
      printed = rw (← c.requires.graded.listed)
          (Prints-then c.print_counts.result _ (grade_counts graded.grades) c.in_ok-print_grades.ensures.printed c.print_counts.ensures.printed);
    }
