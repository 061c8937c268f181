-- How many listed faults have which grade: the statements of the laws.
use Rattle.std.specs.Prelude.{◌≡◌, ℕ, ◌+◌, ◌<◌, Bool, true, false, List, length, count_by, slice_index_or}
use Rattle.fault_secure.specs.Circuit.{Circuit}
use Rattle.fault_secure.specs.StuckAt.{NoFault}
use Rattle.fault_secure.specs.Settle.{Acyclic}
use Rattle.fault_secure.specs.Listed.{listed_faults}
use Rattle.fault_secure.specs.CodePlan.{CodePlan}
use Rattle.grading_laws.specs.Grades.{Grade, AlarmAt, SilentAt, Unseen, IsGrade}
use Rattle.grading_laws.specs.GradeLaws.{NoneIsSilent}

abbrev pub is_alarm : Grade → Bool
is_alarm (AlarmAt step) = true
is_alarm (SilentAt step) = false
is_alarm Unseen = false

abbrev pub is_silent : Grade → Bool
is_silent (AlarmAt step) = false
is_silent (SilentAt step) = true
is_silent Unseen = false

abbrev pub is_unseen : Grade → Bool
is_unseen (AlarmAt step) = false
is_unseen (SilentAt step) = false
is_unseen Unseen = true

-- one grade for each listed fault, in their order
pub record AreGrades (N : Circuit) (P : CodePlan) (xs : List (List Bool)) (grades : List Grade) : Type 0 where
  pub sized : length grades ≡ length (listed_faults N)
  pub each : (place : ℕ) → place < length (listed_faults N)
      → IsGrade N P (slice_index_or (listed_faults N) place NoFault) xs (slice_index_or grades place Unseen)

-- exactly one list of them
pub record HasOneGrading (N : Circuit) (P : CodePlan) (xs : List (List Bool)) : Type 0 where
  pub grades : List Grade
  pub are : AreGrades N P xs grades
  pub only : (others : List Grade) → AreGrades N P xs others → others ≡ grades

-- without a ring there is exactly one over each list of inputs
abbrev pub EachHasOneGrading : Type 0
EachHasOneGrading = (N : Circuit) (P : CodePlan) (xs : List (List Bool)) → Acyclic N → HasOneGrading N P xs

-- the three counts add up to the number of listed faults
abbrev pub CountsAddUp : Type 0
CountsAddUp = (N : Circuit) (P : CodePlan) (xs : List (List Bool)) (grades : List Grade) → AreGrades N P xs grades
    → count_by is_alarm grades + count_by is_silent grades + count_by is_unseen grades ≡ length (listed_faults N)

-- where no fault is silent, none is counted
abbrev pub NoSilentIsCounted : Type 0
NoSilentIsCounted = (N : Circuit) (P : CodePlan) (xs : List (List Bool)) (grades : List Grade) → NoneIsSilent N P → AreGrades N P xs grades
    → count_by is_silent grades ≡ 0
