use Rattle.grading_laws.proofs.OneGrade.{each_has_one_grade}
use Rattle.grading_laws.proofs.laws.each_fault_has_one_grade.Goals as goal

pub returns : goal.returns
returns c = record { one = each_has_one_grade }
