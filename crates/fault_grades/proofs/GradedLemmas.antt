-- How far faults are graded.
use Rattle.std.proofs.Common.{◌≡◌, ℕ, zero, suc, ◌+◌, ◌<◌, ◌≤◌, Bool, true, false, List, [], ◌∷◌, ◌++◌, length, take, drop, map, refl, sym, ap, subst, subst₂, ◌∙◌, inl, inr, arith}
use Rattle.std.specs.Prelude.{slice_index, slice_index_or}
use Rattle.std.proofs.lemmas.Bool.{cases_lt, cases_Bool, both_ways}
use Rattle.std.proofs.lemmas.List.{length-map, get_or-take, take-take, take-append-drop, take_all}
use Rattle.fault_secure.specs.Circuit.{Circuit}
use Rattle.fault_secure.specs.StuckAt.{StuckAt, NoFault, present}
use Rattle.fault_secure.specs.Settle.{Acyclic}
use Rattle.fault_secure.specs.Listed.{listed_faults}
use Rattle.fault_secure.specs.Run.{init_state, next_state, RunsFrom}
use Rattle.fault_secure.specs.CodePlan.{CodePlan}
use Rattle.fault_secure.proofs.OneRun.{one_run}
use Rattle.tsc_net.specs.declared.fault.Fault.{Fault}
use Rattle.grading_laws.specs.Grades.{Grade, Unseen, every_step, IsGrade}
use Rattle.grading_laws.specs.GradeLaws.{GradesAreWorkedOut, DecidedStays}
use Rattle.grading_laws.specs.Counts.{is_unseen, AreGrades}
use Rattle.fault_grades.specs.Grade.{grade_as, grade_at, is_left, IsGradeOf}
use Rattle.fault_grades.specs.Batch.{kept_fault, IsBatch, AreWritten, Takes, Stays, AreGraded, AreGradedTo}
use Rattle.fault_grades.specs.declared.grade.Grade.{Grade as Kept}
use Rattle.fault_grades.specs.declared.grade.Grade.TheVariants.{Unseen as Neither}

-- a run has one valuation per step
run_sized : (N : Circuit) (f : StuckAt) (s w : List Bool) (xs us : List (List Bool)) → RunsFrom N f s w xs us → length us ≡ length xs
run_sized N f s [] [] [] h = refl
run_sized N f s [] [] (u ∷ us) h = absurd h
run_sized N f s [] (x ∷ xs) us h = absurd h
run_sized N f s (here ∷ w) [] us h = absurd h
run_sized N f s (here ∷ w) (x ∷ xs) [] h = absurd h
run_sized N f s (here ∷ w) (x ∷ xs) (u ∷ us) h = ap suc (run_sized N f (next_state N (present here f) u) w xs us h.1)

-- without a ring, what is worked out of all runs is the grade
pub is_grade : (N : Circuit) (P : CodePlan) (f : StuckAt) (xs : List (List Bool)) (grade : Grade) → Acyclic N → GradesAreWorkedOut → IsGradeOf N P f xs grade → IsGrade N P f xs grade
is_grade N P f xs grade acyclic worked is =
    let right = one_run N NoFault (every_step xs) xs acyclic (length-map xs (λ _. true)) in
    let faulty = one_run N f (every_step xs) xs acyclic (length-map xs (λ _. true)) in
    record {
      right = right.run;
      faulty = faulty.run;
      right_runs = right.runs;
      faulty_runs = faulty.runs;
      graded = (worked N P right.run faulty.run grade
          (run_sized N f (init_state N) (every_step xs) xs faulty.run faulty.runs ∙ sym (run_sized N NoFault (init_state N) (every_step xs) xs right.run right.runs))).1
          (is right.run faulty.run right.runs faulty.runs);
    }

-- over no inputs a fault is unseen
pub unseen_first : (N : Circuit) (P : CodePlan) (f : StuckAt) (grade : Grade) → grade ≡ Unseen → IsGrade N P f [] grade
unseen_first N P f grade is = subst (IsGrade N P f []) (sym is) (record {
  right = [];
  faulty = [];
  right_runs = tt;
  faulty_runs = tt;
  graded = record { quiet = λ step low. absurd (omega arith); right = λ step low. absurd (omega arith) };
})

seen_apart : (grade : Grade) → is_unseen grade ≡ false → grade ≡ Unseen → ⊥
seen_apart grade seen is = both_ways (is_unseen grade) seen (ap is_unseen is)

-- more steps leave a decided grade as it is
pub decided_more : (N : Circuit) (P : CodePlan) (f : StuckAt) (xs : List (List Bool)) (less more : ℕ) (grade : Grade) → Acyclic N → DecidedStays → less ≤ more → is_unseen grade ≡ false
    → IsGrade N P f (take less xs) grade → IsGrade N P f (take more xs) grade
decided_more N P f xs less more grade acyclic stays low decided is =
    let longer : take less xs ++ drop less (take more xs) ≡ take more xs =
    ap (λ (ys : List (List Bool)). ys ++ drop less (take more xs)) (sym (take-take less more xs low)) ∙ take-append-drop less (take more xs) in
    subst (λ (ys : List (List Bool)). IsGrade N P f ys grade) longer
    (stays N P f (take less xs) (drop less (take more xs)) grade acyclic (seen_apart grade decided) is)

module _ (N : Circuit) (P : CodePlan) (faults : List StuckAt) (xs : List (List Bool)) (less more : ℕ) (from count next : ℕ) (places : List ℕ) (listed : List Fault) (marks old new : List Kept)
    (acyclic : Acyclic N) (worked : GradesAreWorkedOut) (stays : DecidedStays) (low : less ≤ more) (on : from < next) (end : next ≤ length old) (sized : length old ≡ length faults)
    (batch : IsBatch faults old from count next places listed) (written : AreWritten (take count places) marks count old new)
    (graded : (at : ℕ) → at < count → IsGradeOf N P (kept_fault listed at) (take more xs) (grade_at marks (at + 1)))
    (before : AreGradedTo N P faults (take less xs) (take more xs) from old) where
  listed_place : (at : ℕ) → at < count → slice_index (take count places) at ≡ slice_index places at
  listed_place at below = get_or-take count places at 0 below

  -- a fault of the batch
  taken : (place : ℕ) → Takes (take count places) marks count new place → IsGrade N P (slice_index_or faults place NoFault) (take more xs) (grade_at new place)
  taken place takes =
      let at = takes.at in
      let fault : kept_fault listed at ≡ slice_index_or faults place NoFault =
      batch.same at takes.below ∙ ap (λ (p : ℕ). slice_index_or faults p NoFault) (sym (listed_place at takes.below) ∙ takes.is) in
      subst (λ (f : StuckAt). IsGrade N P f (take more xs) (grade_at new place)) fault
      (subst (IsGrade N P (kept_fault listed at) (take more xs)) (sym takes.marked)
      (is_grade N P (kept_fault listed at) (take more xs) (grade_at marks (at + 1)) acyclic worked (graded at takes.below)))

  -- one that was decided before
  decided : (place : ℕ) → from ≤ place → place < next → Stays (take count places) count old new place → is_left (slice_index_or old place Neither) ≡ false
  decided place above below stay = elim (cases_Bool (is_left (slice_index_or old place Neither))) [
    | inl left ↦ (let among = batch.whole place above below left in absurd (stay.apart among.at among.below (listed_place among.at among.below ∙ among.is)))
    | inr done ↦ done
  ]

  stayed : (place : ℕ) → place < next → place < length faults → Stays (take count places) count old new place → IsGrade N P (slice_index_or faults place NoFault) (take more xs) (grade_at new place)
  stayed place below inside stay = subst (IsGrade N P (slice_index_or faults place NoFault) (take more xs)) (sym stay.same) (elim (cases_lt place from) [
    | inl first ↦ before.done place first inside
    | inr above ↦ decided_more N P (slice_index_or faults place NoFault) xs less more (grade_at old place) acyclic stays low (decided place above below stay) (before.rest place above inside)
  ])

  pub batch_graded : AreGradedTo N P faults (take less xs) (take more xs) next new
  batch_graded = record {
    done = λ place below inside. elim (written place (omega arith)) [ inl takes ↦ taken place takes | inr stay ↦ stayed place below inside stay ];
    rest = λ place above inside. elim (written place (omega arith)) [
      | inl takes ↦ (let h = batch.before takes.at takes.below in
          let e : slice_index places takes.at ≡ place = sym (listed_place takes.at takes.below) ∙ takes.is in
          absurd (omega arith))
      | inr stay ↦ subst (IsGrade N P (slice_index_or faults place NoFault) (take less xs)) (sym stay.same) (before.rest place (omega arith) inside)
    ];
  }

-- before the first batch, and after the last
pub graded_begin : (N : Circuit) (P : CodePlan) (faults : List StuckAt) (less more : List (List Bool)) (grades : List Kept) → AreGraded N P faults less grades → AreGradedTo N P faults less more 0 grades
graded_begin N P faults less more grades is = record { done = λ place below inside. absurd (omega arith); rest = λ place above inside. is place inside }

pub graded_end : (N : Circuit) (P : CodePlan) (faults : List StuckAt) (less more : List (List Bool)) (from : ℕ) (grades : List Kept) → length faults ≤ from → AreGradedTo N P faults less more from grades → AreGraded N P faults more grades
graded_end N P faults less more from grades high is = λ place inside. is.done place (omega arith) inside

-- before the first round, and after the last
pub graded_first : (N : Circuit) (P : CodePlan) (faults : List StuckAt) (grades : List Kept) → ((place : ℕ) → slice_index_or grades place Neither ≡ Neither) → AreGraded N P faults [] grades
graded_first N P faults grades unseen = λ place inside. unseen_first N P (slice_index_or faults place NoFault) (grade_at grades place) (ap grade_as (unseen place))

pub graded_last : (N : Circuit) (P : CodePlan) (faults : List StuckAt) (xs : List (List Bool)) (done : ℕ) (grades : List Kept) → length xs ≤ done → AreGraded N P faults (take done xs) grades → AreGraded N P faults xs grades
graded_last N P faults xs done grades high is = subst (λ (ys : List (List Bool)). AreGraded N P faults ys grades) (take_all done xs high) is

-- the grade at a place
mapped : (grades : List Kept) (place : ℕ) → slice_index_or (map grade_as grades) place Unseen ≡ grade_at grades place
mapped [] place = refl
mapped (g ∷ grades) zero = refl
mapped (g ∷ grades) (suc place) = mapped grades place

pub are_grades : (N : Circuit) (P : CodePlan) (faults listed : List StuckAt) (xs : List (List Bool)) (grades : List Kept) → faults ≡ listed → length grades ≡ length faults → AreGraded N P faults xs grades
    → (place : ℕ) → place < length listed → IsGrade N P (slice_index_or listed place NoFault) xs (slice_index_or (map grade_as grades) place Unseen)
are_grades N P faults listed xs grades same sized is place inside =
    subst (IsGrade N P (slice_index_or listed place NoFault) xs) (sym (mapped grades place))
    (subst (λ (fs : List StuckAt). IsGrade N P (slice_index_or fs place NoFault) xs (grade_at grades place)) same
    (is place (subst (λ (fs : List StuckAt). place < length fs) (sym same) inside)))

-- the same fault of the same circuit
pub same_grade : (N N' : Circuit) (P : CodePlan) (f f' : StuckAt) (xs : List (List Bool)) (grade : Grade) → N' ≡ N → f' ≡ f → IsGradeOf N' P f' xs grade → IsGradeOf N P f xs grade
same_grade N N' P f f' xs grade same_circuit same_fault is = subst₂ (λ (C : Circuit) (g : StuckAt). IsGradeOf C P g xs grade) same_circuit same_fault is

pub all_graded : (N : Circuit) (P : CodePlan) (faults : List StuckAt) (xs : List (List Bool)) (grades : List Kept) → faults ≡ listed_faults N → length grades ≡ length faults → AreGraded N P faults xs grades → AreGrades N P xs (map grade_as grades)
all_graded N P faults xs grades same sized is = record {
  sized = length-map grades grade_as ∙ sized ∙ ap length same;
  each = are_grades N P faults (listed_faults N) xs grades same sized is;
}
