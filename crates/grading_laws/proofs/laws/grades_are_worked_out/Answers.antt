use Rattle.grading_laws.proofs.OneGrade.{grades_are_worked_out as worked_out}
use Rattle.grading_laws.proofs.laws.grades_are_worked_out.Goals as goal

pub returns : goal.returns
returns c = record { same = worked_out }
