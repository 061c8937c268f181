-- The laws of grades: their statements.
use Rattle.std.specs.Prelude.{◌≡◌, ◌↔◌, ℕ, ◌+◌, ◌<◌, ◌≤◌, Bool, List, ◌++◌, length, Some, IsTrue}
use Rattle.fault_secure.specs.Circuit.{Circuit, latch_net, bit}
use Rattle.fault_secure.specs.StuckAt.{StuckAt, NoFault, Stem, Pin, is_listed}
use Rattle.fault_secure.specs.Settle.{Acyclic}
use Rattle.fault_secure.specs.Run.{init_state, Runs}
use Rattle.fault_secure.specs.CodePlan.{CodePlan, IsPlanOf}
use Rattle.fault_secure.specs.Logic.{Logic}
use Rattle.fault_secure.specs.FaultSecure.{state_at, states_from, at_step, IsFaultSecure}
use Rattle.fault_secure.specs.CellSecure.{IsCellSecure}
use Rattle.fault_secure.specs.Exposing.{Exposes}
use Rattle.point_laws.specs.Heard.{IsAlarmSecure, AllowsOneOutput}
use Rattle.register_laws.specs.RegisterPlan.{RegisterPlan}
use Rattle.register_laws.specs.RegisterSecure.{IsRegisterSecure}
use Rattle.register_laws.specs.RegisterMapping.{IsRegisterAlarmSecure}
use Rattle.grading_laws.specs.Grades.{Grade, AlarmAt, SilentAt, Unseen, every_step, IsFirstAlarm, AreGraded, IsGrade, grade_of}

-- ---- one grade

-- exactly one grade
pub record HasOneGrade (N : Circuit) (P : CodePlan) (f : StuckAt) (xs : List (List Bool)) : Type 0 where
  pub grade : Grade
  pub is_grade : IsGrade N P f xs grade
  pub only : (other : Grade) → IsGrade N P f xs other → other ≡ grade

-- without a ring each fault has exactly one grade over each list of inputs
abbrev pub EachHasOneGrade : Type 0
EachHasOneGrade = (N : Circuit) (P : CodePlan) (f : StuckAt) (xs : List (List Bool)) → Acyclic N → HasOneGrade N P f xs

-- two runs of as many steps have the grade that is worked out, and no other
abbrev pub GradesAreWorkedOut : Type 0
GradesAreWorkedOut = (N : Circuit) (P : CodePlan) (vs us : List (List Bool)) (grade : Grade) → length us ≡ length vs
    → AreGraded N P vs us grade ↔ (grade_of N P vs us ≡ grade)

-- without a ring a fault that has an alarm or is silent keeps its grade, whatever inputs follow
abbrev pub DecidedStays : Type 0
DecidedStays = (N : Circuit) (P : CodePlan) (f : StuckAt) (xs ys : List (List Bool)) (grade : Grade) → Acyclic N → (grade ≡ Unseen → ⊥)
    → IsGrade N P f xs grade → IsGrade N P f (xs ++ ys) grade

-- ---- what is secure has no silent fault

-- no listed fault is silent, over whatever inputs
abbrev pub NoneIsSilent : Circuit → CodePlan → Type 0
NoneIsSilent N P = (f : StuckAt) (xs : List (List Bool)) (step : ℕ) → IsTrue (is_listed N f) → IsGrade N P f xs (SilentAt step) → ⊥

abbrev pub FaultSecureHasNoSilent : Type 0
FaultSecureHasNoSilent = (M : Logic) (N : Circuit) (P : CodePlan) → IsFaultSecure M N P → NoneIsSilent N P

abbrev pub CellSecureHasNoSilent : Type 0
CellSecureHasNoSilent = (M : Logic) (N : Circuit) (P : CodePlan) → IsCellSecure M N P → NoneIsSilent N P

-- where the source allows one list of outputs, a wrong output is one that it doesn't allow
abbrev pub AlarmSecureHasNoSilent : Type 0
AlarmSecureHasNoSilent = (M : Logic) (N : Circuit) (P : CodePlan) → AllowsOneOutput M P.version → IsAlarmSecure M N P → NoneIsSilent N P

abbrev pub RegisterSecureHasNoSilent : Type 0
RegisterSecureHasNoSilent = (S N : Circuit) (P : RegisterPlan) → IsRegisterSecure S N P → NoneIsSilent N P.plan

abbrev pub RegisterAlarmSecureHasNoSilent : Type 0
RegisterAlarmSecureHasNoSilent = (S N : Circuit) (P : RegisterPlan) → IsRegisterAlarmSecure S N P → NoneIsSilent N P.plan

-- ---- simulations, and test vectors

-- without a ring the run with the fault from the first step on has its first alarm at the step of the grade
abbrev pub AlarmsAreShown : Type 0
AlarmsAreShown = (N : Circuit) (P : CodePlan) (f : StuckAt) (xs us : List (List Bool)) (step : ℕ) → Acyclic N
    → IsGrade N P f xs (AlarmAt step) → Runs N f (every_step xs) xs us → IsFirstAlarm P us step

-- at the step the run without a fault (vs) is at this state, with this input
pub record ComesTo (N : Circuit) (P : CodePlan) (xs vs : List (List Bool)) (q : ℕ) (x : List Bool) (step : ℕ) : Type 0 where
  pub inside : step < length xs
  pub state : state_at P (at_step (states_from N (init_state N) vs) step) ≡ Some q
  pub input : at_step xs step ≡ x

-- the grade is an alarm at this step or an earlier one
pub record AlarmsBy (N : Circuit) (P : CodePlan) (f : StuckAt) (xs : List (List Bool)) (step : ℕ) : Type 0 where
  pub at : ℕ
  pub in_time : at ≤ step
  pub is_grade : IsGrade N P f xs (AlarmAt at)

-- in a fault-secure netlist, where the run without a fault comes at a later step than the first to a point that exposes the fault, as its
-- test vector does, the fault has its alarm by then
abbrev pub VectorsAlarm : Type 0
VectorsAlarm = (M : Logic) (N : Circuit) (P : CodePlan) (f : StuckAt) (q : ℕ) (x : List Bool) (w : List Bool) (xs vs : List (List Bool)) (step : ℕ)
    → Acyclic N → IsPlanOf N P → IsFaultSecure M N P → IsTrue (is_listed N f) → Exposes N P f q x
    → Runs N NoFault w xs vs → 0 < step → ComesTo N P xs vs q x step → AlarmsBy N P f xs step

-- ---- faults of latches

-- from the first step on the stem of a latch has the held bit
abbrev pub LatchStemsHold : Type 0
LatchStemsHold = (N : Circuit) (l : ℕ) (held : Bool) (xs us : List (List Bool)) (step : ℕ) → l < length N.latches
    → Runs N (Stem (latch_net N l) held) (every_step xs) xs us → step < length xs → bit (at_step us step) (latch_net N l) ≡ held

-- with its pin held it has the held bit from the second step on
abbrev pub LatchPinsHoldLater : Type 0
LatchPinsHoldLater = (N : Circuit) (l : ℕ) (held : Bool) (xs us : List (List Bool)) (step : ℕ) → l < length N.latches
    → Runs N (Pin (latch_net N l) 0 held) (every_step xs) xs us → step + 1 < length xs → bit (at_step us (step + 1)) (latch_net N l) ≡ held

-- and the first step is as without a fault
abbrev pub LatchPinsBeginRight : Type 0
LatchPinsBeginRight = (N : Circuit) (l : ℕ) (held : Bool) (w : List Bool) (xs vs us : List (List Bool)) → Acyclic N → l < length N.latches
    → Runs N NoFault w xs vs → Runs N (Pin (latch_net N l) 0 held) (every_step xs) xs us → at_step us 0 ≡ at_step vs 0
