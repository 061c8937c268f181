-- More inputs after those over which a fault has its grade.
use Rattle.std.proofs.Common.{◌≡◌, ℕ, ◌<◌, ◌≤◌, ◌++◌, Bool, List, [], ◌∷◌, length, take, refl, sym, ap, subst, ◌∙◌, arith, get_or-take, length-append}
use Rattle.fault_secure.specs.Circuit.{Circuit}
use Rattle.fault_secure.specs.StuckAt.{StuckAt, NoFault}
use Rattle.fault_secure.specs.Settle.{Acyclic}
use Rattle.fault_secure.specs.Run.{init_state, next_state, RunsFrom, HasOneRun}
use Rattle.fault_secure.specs.CodePlan.{CodePlan, RailsAgree}
use Rattle.fault_secure.specs.FaultSecure.{outputs_in, at_step}
use Rattle.grading_laws.specs.Grades.{Grade, AlarmAt, SilentAt, Unseen, every_step, IsRightAt, AreGraded}
use Rattle.grading_laws.specs.GradeLaws.{DecidedStays}
use Rattle.grading_laws.proofs.OneGrade.{run_sized, one_faulty}

-- the first part of a run is a run over the first inputs
first_part : (N : Circuit) (f : StuckAt) (s : List Bool) (xs ys us : List (List Bool)) → RunsFrom N f s (every_step (xs ++ ys)) (xs ++ ys) us
    → RunsFrom N f s (every_step xs) xs (take (length xs) us)
first_part N f s [] ys us run = tt
first_part N f s (x ∷ xs) ys [] run = absurd run
first_part N f s (x ∷ xs) ys (u ∷ us) run = (run.0, first_part N f (next_state N f u) xs ys us run.1)

-- the same valuations at the steps below n
abbrev AreSameBelow : ℕ → List (List Bool) → List (List Bool) → Type 0
AreSameBelow n us us' = (k : ℕ) → k < n → at_step us k ≡ at_step us' k

-- a run over the first inputs is the first part of the run over all
same_below : (N : Circuit) (f : StuckAt) (xs ys us : List (List Bool)) → Acyclic N → RunsFrom N f (init_state N) (every_step xs) xs us
    → (more : HasOneRun N f (every_step (xs ++ ys)) (xs ++ ys)) → AreSameBelow (length xs) us more.run
same_below N f xs ys us acyclic run more k low =
    let one = one_faulty N f xs acyclic in
    ap (λ z. at_step z k) (one.only us run ∙ sym (one.only (take (length xs) more.run) (first_part N f (init_state N) xs ys more.run more.runs)))
    ∙ get_or-take (length xs) more.run k [] low

module _ (N : Circuit) (P : CodePlan) (n : ℕ) (vs us vs' us' : List (List Bool)) (same_right : AreSameBelow n vs vs') (same_faulty : AreSameBelow n us us')
    (sized : length us ≡ n) (longer : n ≤ length us') where
  still_right : (k : ℕ) → k < n → IsRightAt N P vs us k → IsRightAt N P vs' us' k
  still_right k low right = ap (outputs_in N P) (sym (same_faulty k low)) ∙ right ∙ ap (outputs_in N P) (same_right k low)

  was_right : (k : ℕ) → k < n → IsRightAt N P vs' us' k → IsRightAt N P vs us k
  was_right k low right = ap (outputs_in N P) (same_faulty k low) ∙ right ∙ ap (outputs_in N P) (sym (same_right k low))

  agreed : (k : ℕ) → k < n → RailsAgree P (at_step us' k) → RailsAgree P (at_step us k)
  agreed k low agree = subst (RailsAgree P) (sym (same_faulty k low)) agree

  still_graded : (grade : Grade) → (grade ≡ Unseen → ⊥) → AreGraded N P vs us grade → AreGraded N P vs' us' grade
  still_graded (AlarmAt step) decided h =
      let low : step < n = (let k = h.alarm.inside in omega arith) in
      record {
        alarm = record {
          inside = omega arith;
          agree = subst (RailsAgree P) (same_faulty step low) h.alarm.agree;
          first = λ earlier less agree. h.alarm.first earlier less (agreed earlier (omega arith) agree);
        };
        right = λ earlier less. still_right earlier (omega arith) (h.right earlier less);
      }
  still_graded (SilentAt step) decided h =
      let low : step < n = (let k = h.error.inside in omega arith) in
      record {
        error = record {
          inside = omega arith;
          wrong = λ right. h.error.wrong (was_right step low right);
          first = λ earlier less. still_right earlier (omega arith) (h.error.first earlier less);
        };
        quiet = λ by less agree. h.quiet by less (agreed by (omega arith) agree);
      }
  still_graded Unseen decided h = absurd (decided refl)

-- a fault that has an alarm or is silent keeps its grade, whatever inputs follow
pub decided_stays : DecidedStays
decided_stays N P f xs ys grade acyclic decided h = record {
  right = right.run;
  faulty = faulty.run;
  right_runs = right.runs;
  faulty_runs = faulty.runs;
  graded = still_graded N P (length xs) h.right h.faulty right.run faulty.run (same_below N NoFault xs ys h.right acyclic h.right_runs right)
      (same_below N f xs ys h.faulty acyclic h.faulty_runs faulty) (run_sized N f (init_state N) (every_step xs) xs h.faulty h.faulty_runs)
      (omega (arith, run_sized N f (init_state N) (every_step (xs ++ ys)) (xs ++ ys) faulty.run faulty.runs, length-append xs ys)) grade decided h.graded;
}
  where
    right : HasOneRun N NoFault (every_step (xs ++ ys)) (xs ++ ys)
    right = one_faulty N NoFault (xs ++ ys) acyclic

    faulty : HasOneRun N f (every_step (xs ++ ys)) (xs ++ ys)
    faulty = one_faulty N f (xs ++ ys) acyclic
