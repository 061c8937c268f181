-- Grades and simulations: the alarm of a grade is that of the run, and the points of test vectors give alarms.
use Rattle.std.proofs.Common.{◌≡◌, ℕ, zero, suc, ◌+◌, ◌<◌, ◌≤◌, Bool, true, false, List, [], length, IsTrue, sym, subst, ◌∙◌, inl, inr, arith}
use Rattle.std.proofs.lemmas.Bool.{cases_lt}
use Rattle.std.proofs.lemmas.List.{get_or-map}
use Rattle.fault_secure.specs.Circuit.{Circuit, bit}
use Rattle.fault_secure.specs.StuckAt.{StuckAt, NoFault, is_listed}
use Rattle.fault_secure.specs.Settle.{Acyclic}
use Rattle.fault_secure.specs.Run.{init_state, Runs}
use Rattle.fault_secure.specs.CodePlan.{CodePlan, IsPlanOf, RailsAgree}
use Rattle.fault_secure.specs.Logic.{Logic}
use Rattle.fault_secure.specs.FaultSecure.{at_step, IsFaultSecure}
use Rattle.fault_secure.specs.Exposing.{Exposes}
use Rattle.structure_laws.proofs.FirstErrors.{clean_from}
use Rattle.structure_laws.proofs.TestPoints.{exposed_faults_alarm}
use Rattle.point_laws.proofs.Arrivals.{marked}
use Rattle.grading_laws.specs.Grades.{Grade, AlarmAt, SilentAt, Unseen, every_step, IsFirstAlarm, IsGrade}
use Rattle.grading_laws.specs.GradeLaws.{AlarmsAreShown, ComesTo, AlarmsBy, VectorsAlarm}
use Rattle.grading_laws.proofs.OneGrade.{run_sized, one_faulty, each_has_one_grade}
use Rattle.grading_laws.proofs.NoSilent.{fault_secure_has_no_silent}

-- without a ring the run with the fault from the first step on has its first alarm at the step of the grade
pub alarms_are_shown : AlarmsAreShown
alarms_are_shown N P f xs us step acyclic h run =
    let one = one_faulty N f xs acyclic in
    subst (λ z. IsFirstAlarm P z step) (one.only h.faulty h.faulty_runs ∙ sym (one.only us run)) h.graded.alarm

-- a fault is present at each step
present_at : (xs : List (List Bool)) (step : ℕ) → step < length xs → bit (every_step xs) step ≡ true
present_at xs step low = get_or-map (λ _. true) xs step [] false low

module _ (M : Logic) (N : Circuit) (P : CodePlan) (f : StuckAt) (q : ℕ) (x w : List Bool) (xs vs : List (List Bool)) (last : ℕ) (acyclic : Acyclic N)
    (plan : IsPlanOf N P) (secure : IsFaultSecure M N P) (listed : IsTrue (is_listed N f)) (exposes : Exposes N P f q x)
    (run : Runs N NoFault w xs vs) (comes : ComesTo N P xs vs q x (last + 1)) where
  -- at a point that exposes the fault the alarm comes, where none came before
  alarm_there : (us : List (List Bool)) → Runs N f (every_step xs) xs us → ((step : ℕ) → step ≤ last → RailsAgree P (at_step us step) → ⊥)
      → RailsAgree P (at_step us (last + 1))
  alarm_there us held quiet =
      exposed_faults_alarm M N P f q last (every_step xs) xs vs us acyclic plan secure listed (subst (Exposes N P f q) (sym comes.input) exposes)
      (marked N (init_state N) xs vs (clean_from N (init_state N) w xs vs run)) held comes.inside
      (present_at xs last (let low = comes.inside in omega arith)) (present_at xs (last + 1) comes.inside) comes.state quiet

  -- so the grade is an alarm by then
  by_grade : (grade : Grade) → IsGrade N P f xs grade → AlarmsBy N P f xs (last + 1)
  by_grade (AlarmAt at) h = record { at = at; in_time = elim (cases_lt (last + 1) at) [ inl late ↦ absurd (too_late late) | inr by ↦ by ]; is_grade = h }
    where
      too_late : last + 1 < at → ⊥
      too_late late = h.graded.alarm.first (last + 1) late (alarm_there h.faulty h.faulty_runs (λ step low. h.graded.alarm.first step (omega arith)))
  by_grade (SilentAt at) h = absurd (fault_secure_has_no_silent M N P secure f xs at listed h)
  by_grade Unseen h =
      let long = run_sized N f (init_state N) (every_step xs) xs h.faulty h.faulty_runs in
      let low = comes.inside in
      absurd (h.graded.quiet (last + 1) (omega arith) (alarm_there h.faulty h.faulty_runs (λ step by. h.graded.quiet step (omega arith))))

-- where the run without a fault comes at a later step than the first to a point that exposes the fault, its grade is an alarm by then
pub vectors_alarm : VectorsAlarm
vectors_alarm M N P f q x w xs vs zero acyclic plan secure listed exposes run late comes = absurd (omega arith)
vectors_alarm M N P f q x w xs vs (suc last) acyclic plan secure listed exposes run late comes =
    let next : suc last ≡ last + 1 = omega arith in
    let one = each_has_one_grade N P f xs acyclic in
    subst (AlarmsBy N P f xs) (sym next)
    (by_grade M N P f q x w xs vs last acyclic plan secure listed exposes run (subst (ComesTo N P xs vs q x) next comes) one.grade one.is_grade)
