-- Grades: what a list of inputs shows of a fault that is present from the first step on, beside the run without a fault.
use Rattle.std.specs.Prelude.{◌≡◌, ℕ, suc, ◌<◌, ◌≤◌, Bool, true, if◌then◌else◌, List, [], ◌∷◌, map, length}
use Rattle.tsc_bits.specs.Bits.{same}
use Rattle.fault_secure.specs.Circuit.{Circuit, bit}
use Rattle.fault_secure.specs.StuckAt.{StuckAt, NoFault}
use Rattle.fault_secure.specs.Run.{Runs}
use Rattle.fault_secure.specs.CodePlan.{CodePlan, RailsAgree}
use Rattle.fault_secure.specs.FaultSecure.{outputs_in, equal_bits, at_step}

-- the alarm came first, at this step; or a wrong output did; or neither came
pub data Grade : Type 0 where
  AlarmAt : ℕ → Grade
  SilentAt : ℕ → Grade
  Unseen : Grade

-- a fault is present at every step
abbrev pub every_step : List (List Bool) → List Bool
every_step xs = map (λ _. true) xs

-- at the step the outputs of the run with the fault (us) are those of the run without it (vs)
abbrev pub IsRightAt : Circuit → CodePlan → List (List Bool) → List (List Bool) → ℕ → Type 0
IsRightAt N P vs us step = outputs_in N P (at_step us step) ≡ outputs_in N P (at_step vs step)

-- at the step the rails agree for the first time
pub record IsFirstAlarm (P : CodePlan) (us : List (List Bool)) (step : ℕ) : Type 0 where
  pub inside : step < length us
  pub agree : RailsAgree P (at_step us step)
  pub first : (earlier : ℕ) → earlier < step → RailsAgree P (at_step us earlier) → ⊥

-- at the step an output is wrong for the first time
pub record IsFirstError (N : Circuit) (P : CodePlan) (vs us : List (List Bool)) (step : ℕ) : Type 0 where
  pub inside : step < length us
  pub wrong : IsRightAt N P vs us step → ⊥
  pub first : (earlier : ℕ) → earlier < step → IsRightAt N P vs us earlier

-- at the step the rails agree for the first time, and no output was wrong at an earlier step
pub record IsAlarmAt (N : Circuit) (P : CodePlan) (vs us : List (List Bool)) (step : ℕ) : Type 0 where
  pub alarm : IsFirstAlarm P us step
  pub right : (earlier : ℕ) → earlier < step → IsRightAt N P vs us earlier

-- at the step an output is wrong for the first time, and the rails have not agreed up to and including it
pub record IsSilentAt (N : Circuit) (P : CodePlan) (vs us : List (List Bool)) (step : ℕ) : Type 0 where
  pub error : IsFirstError N P vs us step
  pub quiet : (by : ℕ) → by ≤ step → RailsAgree P (at_step us by) → ⊥

-- at no step do the rails agree, and at none is an output wrong
pub record IsUnseen (N : Circuit) (P : CodePlan) (vs us : List (List Bool)) : Type 0 where
  pub quiet : (step : ℕ) → step < length us → RailsAgree P (at_step us step) → ⊥
  pub right : (step : ℕ) → step < length us → IsRightAt N P vs us step

-- so are two runs graded
abbrev pub AreGraded : Circuit → CodePlan → List (List Bool) → List (List Bool) → Grade → Type 0
AreGraded N P vs us (AlarmAt step) = IsAlarmAt N P vs us step
AreGraded N P vs us (SilentAt step) = IsSilentAt N P vs us step
AreGraded N P vs us Unseen = IsUnseen N P vs us

-- the grade of a fault over the inputs xs: that of a run with the fault at every step beside a run without one
pub record IsGrade (N : Circuit) (P : CodePlan) (f : StuckAt) (xs : List (List Bool)) (grade : Grade) : Type 0 where
  pub right : List (List Bool)
  pub faulty : List (List Bool)
  pub right_runs : Runs N NoFault (every_step xs) xs right
  pub faulty_runs : Runs N f (every_step xs) xs faulty
  pub graded : AreGraded N P right faulty grade

-- the same grade, one step later
abbrev pub later : Grade → Grade
later (AlarmAt step) = AlarmAt (suc step)
later (SilentAt step) = SilentAt (suc step)
later Unseen = Unseen

-- the grade as it is worked out, step by step: the rails are looked at before the outputs
abbrev pub grade_of : Circuit → CodePlan → List (List Bool) → List (List Bool) → Grade
grade_of N P [] us = Unseen
grade_of N P (v ∷ vs) [] = Unseen
grade_of N P (v ∷ vs) (u ∷ us) =
    if same (bit u P.rail1) (bit u P.rail2) then AlarmAt 0
    else if equal_bits (outputs_in N P u) (outputs_in N P v) then later (grade_of N P vs us)
    else SilentAt 0
