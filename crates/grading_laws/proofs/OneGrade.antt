-- Each fault has one grade, the one that is worked out.
use Rattle.std.proofs.Common.{◌≡◌, ℕ, zero, suc, ◌<◌, if◌then◌else◌, Bool, true, false, List, [], ◌∷◌, length, refl, sym, ap, subst, subst₂, ◌∙◌, inl, inr, arith}
use Rattle.std.proofs.lemmas.Bool.{cases_Bool, cases_lt, cond-true, cond-false, true≢false}
use Rattle.std.proofs.lemmas.List.{length-map}
use Rattle.tsc_bits.specs.Bits.{same}
use Rattle.tsc_bits.proofs.Bools.{same_is}
use Rattle.fault_secure.specs.Circuit.{Circuit, bit}
use Rattle.fault_secure.specs.StuckAt.{StuckAt, NoFault, present}
use Rattle.fault_secure.specs.Settle.{Acyclic}
use Rattle.fault_secure.specs.Run.{init_state, next_state, RunsFrom, HasOneRun}
use Rattle.fault_secure.specs.CodePlan.{CodePlan, RailsAgree}
use Rattle.fault_secure.specs.FaultSecure.{outputs_in, equal_bits, at_step}
use Rattle.fault_secure.proofs.EqualBits.{same_bits, bits_same}
use Rattle.fault_secure.proofs.OneRun.{one_run}
use Rattle.grading_laws.specs.Grades.{Grade, AlarmAt, SilentAt, Unseen, every_step, IsRightAt, IsAlarmAt, IsSilentAt, AreGraded, later, grade_of}
use Rattle.grading_laws.specs.GradeLaws.{EachHasOneGrade, GradesAreWorkedOut}

-- a run has one valuation per step
pub run_sized : (N : Circuit) (f : StuckAt) (s w : List Bool) (xs us : List (List Bool)) → RunsFrom N f s w xs us → length us ≡ length xs
run_sized N f s [] [] [] h = refl
run_sized N f s [] [] (u ∷ us) h = absurd h
run_sized N f s [] (x ∷ xs) us h = absurd h
run_sized N f s (here ∷ w) [] us h = absurd h
run_sized N f s (here ∷ w) (x ∷ xs) [] h = absurd h
run_sized N f s (here ∷ w) (x ∷ xs) (u ∷ us) h = ap suc (run_sized N f (next_state N (present here f) u) w xs us h.1)

-- what holds of the first step and of each later one holds of all
one_more : (Q : ℕ → Type 0) (n : ℕ) → Q 0 → ((k : ℕ) → k < n → Q (suc k)) → (k : ℕ) → k < suc n → Q k
one_more Q n here rest zero low = here
one_more Q n here rest (suc k) low = rest k (omega arith)

neither_less : (a b : ℕ) → (a < b → ⊥) → (b < a → ⊥) → a ≡ b
neither_less a b below above = elim (cases_lt a b) [
  | inl low ↦ absurd (below low)
  | inr high ↦ elim (cases_lt b a) [ inl low ↦ absurd (above low) | inr same ↦ omega arith ]
]

module _ (N : Circuit) (P : CodePlan) where
  -- ---- the grade that is worked out is one

  rails_apart : (u : List Bool) → same (bit u P.rail1) (bit u P.rail2) ≡ false → RailsAgree P u → ⊥
  rails_apart u e agree = true≢false (sym (same_self (bit u P.rail2)) ∙ ap (λ b. same b (bit u P.rail2)) (sym agree) ∙ e)
    where
      same_self : (b : Bool) → same b b ≡ true
      same_self true = refl
      same_self false = refl

  outputs_differ : (v u : List Bool) → equal_bits (outputs_in N P u) (outputs_in N P v) ≡ false → outputs_in N P u ≡ outputs_in N P v → ⊥
  outputs_differ v u e right = true≢false (sym (bits_same (outputs_in N P v)) ∙ ap (λ bits. equal_bits bits (outputs_in N P v)) (sym right) ∙ e)

  module _ (v u : List Bool) (vs us : List (List Bool)) (quiet : RailsAgree P u → ⊥) (right : outputs_in N P u ≡ outputs_in N P v) where
    still_quiet : (n : ℕ) → ((k : ℕ) → k < n → RailsAgree P (at_step us k) → ⊥) → (k : ℕ) → k < suc n → RailsAgree P (at_step (u ∷ us) k) → ⊥
    still_quiet n rest = one_more (λ k. RailsAgree P (at_step (u ∷ us) k) → ⊥) n quiet rest

    still_right : (n : ℕ) → ((k : ℕ) → k < n → IsRightAt N P vs us k) → (k : ℕ) → k < suc n → IsRightAt N P (v ∷ vs) (u ∷ us) k
    still_right n rest = one_more (IsRightAt N P (v ∷ vs) (u ∷ us)) n right rest

    -- after a step in which nothing is seen the grade comes one step later
    graded_later : (grade : Grade) → AreGraded N P vs us grade → AreGraded N P (v ∷ vs) (u ∷ us) (later grade)
    graded_later (AlarmAt step) h = record {
      alarm = record { inside = (let k = h.alarm.inside in omega arith); agree = h.alarm.agree; first = still_quiet step h.alarm.first };
      right = still_right step h.right;
    }
    graded_later (SilentAt step) h = record {
      error = record { inside = (let k = h.error.inside in omega arith); wrong = h.error.wrong; first = still_right step h.error.first };
      quiet = λ by low. still_quiet (suc step) (λ k less. h.quiet k (omega arith)) by (omega arith);
    }
    graded_later Unseen h = record { quiet = still_quiet (length us) h.quiet; right = still_right (length us) h.right }

  alarm_first : (v u : List Bool) (vs us : List (List Bool)) → RailsAgree P u → IsAlarmAt N P (v ∷ vs) (u ∷ us) 0
  alarm_first v u vs us agree = record {
    alarm = record { inside = omega arith; agree = agree; first = λ earlier low. absurd (omega arith) };
    right = λ earlier low. absurd (omega arith);
  }

  silent_first : (v u : List Bool) (vs us : List (List Bool)) → (RailsAgree P u → ⊥) → (outputs_in N P u ≡ outputs_in N P v → ⊥) → IsSilentAt N P (v ∷ vs) (u ∷ us) 0
  silent_first v u vs us quiet wrong = record {
    error = record { inside = omega arith; wrong = wrong; first = λ earlier low. absurd (omega arith) };
    quiet = λ by low. one_more (λ k. RailsAgree P (at_step (u ∷ us) k) → ⊥) 0 quiet (λ k less. absurd (omega arith)) by (omega arith);
  }

  -- where the rails differ at the first step, the grade is by its outputs and by the steps after it
  by_outputs : (v u : List Bool) (vs us : List (List Bool)) (rest : Grade) → (RailsAgree P u → ⊥) → AreGraded N P vs us rest
      → AreGraded N P (v ∷ vs) (u ∷ us) (if equal_bits (outputs_in N P u) (outputs_in N P v) then later rest else SilentAt 0)
  by_outputs v u vs us rest quiet is = elim (cases_Bool (equal_bits (outputs_in N P u) (outputs_in N P v))) [
    | inl right ↦ subst (AreGraded N P (v ∷ vs) (u ∷ us)) (sym (cond-true _ _ _ right)) (graded_later v u vs us quiet (same_bits _ _ right) rest is)
    | inr wrong ↦ subst (AreGraded N P (v ∷ vs) (u ∷ us)) (sym (cond-false _ _ _ wrong)) (silent_first v u vs us quiet (outputs_differ v u wrong))
  ]

  -- what is worked out is a grade of the runs
  graded : (vs us : List (List Bool)) → length us ≡ length vs → AreGraded N P vs us (grade_of N P vs us)
  graded [] [] long = record { quiet = λ step low. absurd (omega arith); right = λ step low. absurd (omega arith) }
  graded [] (u ∷ us) long = absurd (omega arith)
  graded (v ∷ vs) [] long = absurd (omega arith)
  graded (v ∷ vs) (u ∷ us) long = elim (cases_Bool (same (bit u P.rail1) (bit u P.rail2))) [
    | inl agree ↦ subst (AreGraded N P (v ∷ vs) (u ∷ us)) (sym (cond-true _ _ _ agree)) (alarm_first v u vs us (same_is _ _ agree))
    | inr apart ↦ subst (AreGraded N P (v ∷ vs) (u ∷ us)) (sym (cond-false _ _ _ apart))
        (by_outputs v u vs us (grade_of N P vs us) (rails_apart u apart) (graded vs us (omega arith)))
  ]

  -- ---- two runs have one grade

  alarm_or_silent : (vs us : List (List Bool)) (a b : ℕ) → IsAlarmAt N P vs us a → IsSilentAt N P vs us b → ⊥
  alarm_or_silent vs us a b alarm silent = elim (cases_lt b a) [
    | inl before ↦ silent.error.wrong (alarm.right b before)
    | inr by ↦ silent.quiet a by alarm.alarm.agree
  ]

  same_grade : (vs us : List (List Bool)) (g h : Grade) → AreGraded N P vs us g → AreGraded N P vs us h → g ≡ h
  same_grade vs us (AlarmAt a) (AlarmAt b) first second =
      ap AlarmAt (neither_less a b (λ low. second.alarm.first a low first.alarm.agree) (λ low. first.alarm.first b low second.alarm.agree))
  same_grade vs us (AlarmAt a) (SilentAt b) first second = absurd (alarm_or_silent vs us a b first second)
  same_grade vs us (AlarmAt a) Unseen first second = absurd (second.quiet a first.alarm.inside first.alarm.agree)
  same_grade vs us (SilentAt a) (AlarmAt b) first second = absurd (alarm_or_silent vs us b a second first)
  same_grade vs us (SilentAt a) (SilentAt b) first second =
      ap SilentAt (neither_less a b (λ low. first.error.wrong (second.error.first a low)) (λ low. second.error.wrong (first.error.first b low)))
  same_grade vs us (SilentAt a) Unseen first second = absurd (first.error.wrong (second.right a first.error.inside))
  same_grade vs us Unseen (AlarmAt b) first second = absurd (first.quiet b second.alarm.inside second.alarm.agree)
  same_grade vs us Unseen (SilentAt b) first second = absurd (second.error.wrong (first.right b second.error.inside))
  same_grade vs us Unseen Unseen first second = refl

-- two runs of as many steps have the grade that is worked out, and no other
pub grades_are_worked_out : GradesAreWorkedOut
grades_are_worked_out N P vs us grade long = (
  λ h. same_grade N P vs us (grade_of N P vs us) grade (graded N P vs us long) h,
  λ e. subst (AreGraded N P vs us) e (graded N P vs us long),
)

-- without a ring there is one run with the fault at every step
pub one_faulty : (N : Circuit) (f : StuckAt) (xs : List (List Bool)) → Acyclic N → HasOneRun N f (every_step xs) xs
one_faulty N f xs acyclic = one_run N f (every_step xs) xs acyclic (length-map xs (λ _. true))

-- without a ring each fault has exactly one grade over each list of inputs
pub each_has_one_grade : EachHasOneGrade
each_has_one_grade N P f xs acyclic = record {
  grade = grade_of N P right.run faulty.run;
  is_grade = record { right = right.run; faulty = faulty.run; right_runs = right.runs; faulty_runs = faulty.runs; graded = is };
  only = λ other h. same_grade N P right.run faulty.run other (grade_of N P right.run faulty.run)
      (subst₂ (λ vs us. AreGraded N P vs us other) (right.only h.right h.right_runs) (faulty.only h.faulty h.faulty_runs) h.graded) is;
}
  where
    right : HasOneRun N NoFault (every_step xs) xs
    right = one_faulty N NoFault xs acyclic

    faulty : HasOneRun N f (every_step xs) xs
    faulty = one_faulty N f xs acyclic

    is : AreGraded N P right.run faulty.run (grade_of N P right.run faulty.run)
    is = graded N P right.run faulty.run
        (run_sized N f (init_state N) (every_step xs) xs faulty.run faulty.runs ∙ sym (run_sized N NoFault (init_state N) (every_step xs) xs right.run right.runs))
