-- The grades of all listed faults, and how many of each there are.
use Rattle.std.proofs.Common.{◌≡◌, ℕ, suc, ◌+◌, ◌<◌, Bool, true, false, cond, List, [], ◌∷◌, length, map, count_by, slice_index_or, IsTrue, refl, sym, subst, ◌∙◌, arith, ext_get_or, true≢false}
use Rattle.std.proofs.lemmas.List.{length-map, get_or-map, get_or_default}
use Rattle.std.proofs.lemmas.List.Sums.{sum_by-cons}
use Rattle.fault_secure.specs.Circuit.{Circuit}
use Rattle.fault_secure.specs.StuckAt.{StuckAt, NoFault, is_listed}
use Rattle.fault_secure.specs.Listed.{listed_faults}
use Rattle.fault_secure.specs.CodePlan.{CodePlan}
use Rattle.structure_laws.proofs.FaultList.{holds_the_listed}
use Rattle.grading_laws.specs.Grades.{Grade, AlarmAt, SilentAt, Unseen, IsGrade}
use Rattle.grading_laws.specs.GradeLaws.{NoneIsSilent}
use Rattle.grading_laws.specs.Counts.{is_alarm, is_silent, is_unseen, EachHasOneGrading, CountsAddUp, NoSilentIsCounted}
use Rattle.grading_laws.proofs.OneGrade.{each_has_one_grade}

count_more : (p : Grade → Bool) (grade : Grade) (grades : List Grade) → count_by p (grade ∷ grades) ≡ cond (p grade) 1 0 + count_by p grades
count_more p grade grades = sum_by-cons (λ g. cond (p g) 1 0) grade grades

-- a grade is one of the three
one_of_three : (grade : Grade) → cond (is_alarm grade) 1 0 + cond (is_silent grade) 1 0 + cond (is_unseen grade) 1 0 ≡ 1
one_of_three (AlarmAt step) = refl
one_of_three (SilentAt step) = refl
one_of_three Unseen = refl

counts : (grades : List Grade) → count_by is_alarm grades + count_by is_silent grades + count_by is_unseen grades ≡ length grades
counts [] = refl
counts (grade ∷ grades) =
    let alarm = count_more is_alarm grade grades in
    let silent = count_more is_silent grade grades in
    let unseen = count_more is_unseen grade grades in
    let one = one_of_three grade in
    let rest = counts grades in
    omega arith

pub counts_add_up : CountsAddUp
counts_add_up N P xs grades are = counts grades ∙ are.sized

none_more : (b : Bool) (n : ℕ) → b ≡ false → cond b 1 0 + n ≡ n
none_more true n e = absurd (true≢false e)
none_more false n e = omega arith

none_counted : (grades : List Grade) → ((place : ℕ) → place < length grades → is_silent (slice_index_or grades place Unseen) ≡ false) → count_by is_silent grades ≡ 0
none_counted [] none = refl
none_counted (grade ∷ grades) none =
    count_more is_silent grade grades ∙ none_more (is_silent grade) (count_by is_silent grades) (none 0 (omega arith))
    ∙ none_counted grades (λ place low. none (suc place) (omega arith))

not_silent : (N : Circuit) (P : CodePlan) (f : StuckAt) (xs : List (List Bool)) (grade : Grade) → NoneIsSilent N P → IsTrue (is_listed N f) → IsGrade N P f xs grade
    → is_silent grade ≡ false
not_silent N P f xs (AlarmAt step) none listed h = refl
not_silent N P f xs (SilentAt step) none listed h = absurd (none f xs step listed h)
not_silent N P f xs Unseen none listed h = refl

pub no_silent_is_counted : NoSilentIsCounted
no_silent_is_counted N P xs grades none are = none_counted grades (λ place low.
    let inside : place < length (listed_faults N) = (let sized = are.sized in omega arith) in
    not_silent N P (slice_index_or (listed_faults N) place NoFault) xs (slice_index_or grades place Unseen) none
    ((holds_the_listed N (slice_index_or (listed_faults N) place NoFault)).0 (place, inside, get_or_default (listed_faults N) place _ NoFault inside)) (are.each place inside))

-- without a ring the listed faults have exactly one list of grades
pub each_has_one_grading : EachHasOneGrading
each_has_one_grading N P xs acyclic = record {
  grades = map grade_at (listed_faults N);
  are = record { sized = length-map (listed_faults N) grade_at; each = graded };
  only = λ others are. ext_get_or Unseen others (map grade_at (listed_faults N)) (are.sized ∙ sym (length-map (listed_faults N) grade_at))
      (λ place low. let inside : place < length (listed_faults N) = (let sized = are.sized in omega arith) in
      (each_has_one_grade N P (slice_index_or (listed_faults N) place NoFault) xs acyclic).only (slice_index_or others place Unseen) (are.each place inside)
      ∙ sym (get_or-map grade_at (listed_faults N) place NoFault Unseen inside));
}
  where
    grade_at : StuckAt → Grade
    grade_at f = (each_has_one_grade N P f xs acyclic).grade

    graded : (place : ℕ) → place < length (listed_faults N)
        → IsGrade N P (slice_index_or (listed_faults N) place NoFault) xs (slice_index_or (map grade_at (listed_faults N)) place Unseen)
    graded place low = subst (IsGrade N P (slice_index_or (listed_faults N) place NoFault) xs) (sym (get_or-map grade_at (listed_faults N) place NoFault Unseen low))
        (each_has_one_grade N P (slice_index_or (listed_faults N) place NoFault) xs acyclic).is_grade
