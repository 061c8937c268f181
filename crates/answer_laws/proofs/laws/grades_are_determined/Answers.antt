use Rattle.answer_laws.proofs.GradedLaws.{one_grade_reply}
use Rattle.answer_laws.proofs.laws.grades_are_determined.Goals as goal

pub returns : goal.returns
returns c = record { one = one_grade_reply c.sections_are_built.ensures.built c.grades_are_counted.ensures.one }
