-- Grades of the code, and when one is that of a fault.
use Rattle.std.specs.Prelude.{◌≡◌, ℕ, Bool, not, if◌then◌else◌, List, slice_index_or}
use Rattle.tsc_bits.specs.Bits.{same}
use Rattle.fault_secure.specs.Circuit.{Circuit, bit}
use Rattle.fault_secure.specs.StuckAt.{StuckAt, NoFault}
use Rattle.fault_secure.specs.Run.{Runs}
use Rattle.fault_secure.specs.CodePlan.{CodePlan}
use Rattle.fault_secure.specs.FaultSecure.{outputs_in, equal_bits}
use Rattle.grading_laws.specs.Grades.{Grade, AlarmAt, SilentAt, Unseen, every_step, grade_of}
use Rattle.grading_laws.specs.Counts.{is_unseen}
use Rattle.fault_grades.specs.declared.grade.Grade.{Grade as Kept}
use Rattle.fault_grades.specs.declared.grade.Grade.TheVariants.{Alarm, Silent, Unseen as Neither}

-- the grade that the code's grade names
abbrev pub grade_as : Kept → Grade
grade_as (Alarm step) = AlarmAt step
grade_as (Silent step) = SilentAt step
grade_as Neither = Unseen

-- the grade at a place of a list, unseen past its end
abbrev pub grade_at : List Kept → ℕ → Grade
grade_at grades place = grade_as (slice_index_or grades place Neither)

-- it is not decided
abbrev pub is_left : Kept → Bool
is_left grade = is_unseen (grade_as grade)

-- each run with the fault at every step has this grade beside each run without one
abbrev pub IsGradeOf : Circuit → CodePlan → StuckAt → List (List Bool) → Grade → Type 0
IsGradeOf N P f xs grade =
    (vs us : List (List Bool)) → Runs N NoFault (every_step xs) xs vs → Runs N f (every_step xs) xs us → grade_of N P vs us ≡ grade

-- in a valuation the rails agree
abbrev pub agree_in : CodePlan → List Bool → Bool
agree_in P u = same (bit u P.rail1) (bit u P.rail2)

-- an output of a valuation isn't the one of another
abbrev pub wrong_in : Circuit → CodePlan → List Bool → List Bool → Bool
wrong_in N P v u = not (equal_bits (outputs_in N P u) (outputs_in N P v))

-- a grade after one step more: what is decided stays, and the rails are looked at before the outputs
abbrev pub marked : ℕ → Bool → Bool → Grade → Grade
marked step agree wrong (AlarmAt at) = AlarmAt at
marked step agree wrong (SilentAt at) = SilentAt at
marked step agree wrong Unseen = if agree then AlarmAt step else (if wrong then SilentAt step else Unseen)

-- the grade of a lane in which something is seen at a step
abbrev pub seen_grade : ℕ → Bool → Kept
seen_grade step agree = if agree then Alarm step else Silent step
