use Rattle.grading_laws.proofs.Counts.{each_has_one_grading, counts_add_up, no_silent_is_counted}
use Rattle.grading_laws.proofs.laws.grades_are_counted.Goals as goal

pub returns : goal.returns
returns c = record { one = each_has_one_grading; sum = counts_add_up; silent = no_silent_is_counted }
