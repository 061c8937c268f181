use Rattle.buffered_sink.proofs.PrintLemmas.{begin, cut, exits, more}
use Rattle.fault_secure.specs.Circuit.{nets}
use Rattle.tsc_net.specs.Fault.{stuck_at}
use Rattle.fault_grades.specs.Grade.{grade_as}
use Rattle.netlist_answers.proofs.FaultLemmas.{all-found}
use Rattle.netlist_answers.proofs.GradeLemmas.{grades_next}
use Rattle.netlist_answers.proofs.grade_list.print_grades.Goals as goal

pub loop-place-init : goal.loop-place-init
loop-place-init g c = begin _ _

pub print_grade-requires : goal.print_grade-requires
print_grade-requires g c = record {
  known = all-found (nets c.args.net.now.circuit) c.args.faults.now c.loop-place.place (stuck_at c.get.result) c.requires.known c.get.ensures.found;
}

pub returns-in_err-print_grade : goal.returns-in_err-print_grade
returns-in_err-print_grade g c = record {
  printed = exits _ c.from_residual.result c.from_residual.ensures.1
      (cut _ c.loop-place.invariant c.in_err-print_grade.ensures.printed
      (grades_next c.args.net.now c.args.faults.now c.args.grades.now c.loop-place.place (stuck_at c.get.result) (grade_as c.get-in-loop-place.result)
      c.get.ensures.found c.get-in-loop-place.ensures.found));
}

pub loop-place-preserved : goal.loop-place-preserved
loop-place-preserved g c =
    more _ c.loop-place.invariant c.in_ok-print_grade.ensures.printed
    (grades_next c.args.net.now c.args.faults.now c.args.grades.now c.loop-place.place (stuck_at c.get.result) (grade_as c.get-in-loop-place.result)
    c.get.ensures.found c.get-in-loop-place.ensures.found)
