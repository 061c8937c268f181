use Rattle.std.proofs.Common.{◌∙◌, ap, length, sym}
use Rattle.netlist_answers.proofs.grading.graded_over.Goals as goal

pub returns-clause-graded : goal.returns-clause-graded
returns-clause-graded c = record {
  listed = c.in_ok-faults.ensures.listed;
  sized = c.in_ok-grades.ensures.grades.sized ∙ ap length (sym c.in_ok-faults.ensures.listed);
}
