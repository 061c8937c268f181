use Rattle.grading_laws.proofs.SmallGrades.{small_is_graded, merged_is_graded, toggle_is_graded}
use Rattle.grading_laws.proofs.laws.small_netlists_are_graded.Goals as goal

pub returns : goal.returns
returns c = record { secure = small_is_graded; insecure = merged_is_graded; machine = toggle_is_graded }
