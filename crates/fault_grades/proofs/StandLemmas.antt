-- Two runs, step by step: what is decided so far, and what is left of them.
use Rattle.std.proofs.Common.{◌≡◌, ℕ, zero, suc, ◌+◌, ◌<◌, ◌≤◌, Bool, true, false, not, if◌then◌else◌, List, [], ◌∷◌, length, drop, refl, sym, ap, subst, subst₂, ◌∙◌, arith}
use Rattle.std.proofs.Math.Seq.{drop-cons}
use Rattle.std.proofs.lemmas.List.{drop_all}
use Rattle.fault_secure.specs.Circuit.{Circuit, bit}
use Rattle.fault_secure.specs.StuckAt.{StuckAt, NoFault}
use Rattle.fault_secure.specs.Settle.{Acyclic, Settles}
use Rattle.fault_secure.specs.Run.{init_state, next_state, RunsFrom, Runs}
use Rattle.fault_secure.specs.CodePlan.{CodePlan}
use Rattle.fault_secure.specs.FaultSecure.{outputs_in, equal_bits, at_step}
use Rattle.fault_secure.proofs.OneRun.{one_valuation}
use Rattle.grading_laws.specs.Grades.{Grade, AlarmAt, SilentAt, Unseen, every_step, later, grade_of}
use Rattle.grading_laws.specs.Counts.{is_unseen}
use Rattle.fault_grades.specs.Grade.{IsGradeOf, agree_in, wrong_in, marked}

-- the same grade, so many steps later
abbrev pub shifted : ℕ → Grade → Grade
shifted zero grade = grade
shifted (suc k) grade = shifted k (later grade)

-- what was decided in k steps, or else the grade of what is left
abbrev pub joined : ℕ → Grade → Grade → Grade
joined k (AlarmAt step) rest = AlarmAt step
joined k (SilentAt step) rest = SilentAt step
joined k Unseen rest = shifted k rest

-- what is left of two runs after k steps
pub record IsLeft (N : Circuit) (P : CodePlan) (f : StuckAt) (xs : List (List Bool)) (k : ℕ) (s t : List Bool) (grade : Grade) (vs us : List (List Bool)) : Type 0 where
  pub right : RunsFrom N NoFault s (every_step (drop k xs)) (drop k xs) (drop k vs)
  pub faulty : RunsFrom N f t (every_step (drop k xs)) (drop k xs) (drop k us)
  pub graded : grade_of N P vs us ≡ joined k grade (grade_of N P (drop k vs) (drop k us))

-- after k steps without a fault the state bits are s, with the fault they are t, and the grade so far is this one
pub record Stands (N : Circuit) (P : CodePlan) (f : StuckAt) (xs : List (List Bool)) (k : ℕ) (s t : List Bool) (grade : Grade) : Type 0 where
  pub rest : (vs us : List (List Bool)) → Runs N NoFault (every_step xs) xs vs → Runs N f (every_step xs) xs us → IsLeft N P f xs k s t grade vs us

-- before the first step
pub stands_first : (N : Circuit) (P : CodePlan) (f : StuckAt) (xs : List (List Bool)) (s t : List Bool) (grade : Grade) → s ≡ init_state N → t ≡ init_state N → grade ≡ Unseen → Stands N P f xs 0 s t grade
stands_first N P f xs s t grade is_s is_t is = record {
  rest = λ vs us right faulty. record {
    right = subst (λ (z : List Bool). RunsFrom N NoFault z (every_step xs) xs vs) (sym is_s) right;
    faulty = subst (λ (z : List Bool). RunsFrom N f z (every_step xs) xs us) (sym is_t) faulty;
    graded = sym (ap (λ (g : Grade). joined 0 g (grade_of N P vs us)) is);
  };
}

drop-suc : (k : ℕ) (xs : List (List Bool)) → drop (suc k) xs ≡ drop 1 (drop k xs)
drop-suc zero xs = refl
drop-suc (suc k) [] = refl
drop-suc (suc k) (x ∷ xs) = drop-suc k xs

-- the grade of runs by their first step and that of the rest
step_grade : Bool → Bool → Grade → Grade
step_grade agree right rest = if agree then AlarmAt 0 else (if right then later rest else SilentAt 0)

shifted-alarm : (k j : ℕ) → shifted k (AlarmAt j) ≡ AlarmAt (k + j)
shifted-alarm zero j = ap AlarmAt (omega arith)
shifted-alarm (suc k) j = shifted-alarm k (suc j) ∙ ap AlarmAt (omega arith)

shifted-silent : (k j : ℕ) → shifted k (SilentAt j) ≡ SilentAt (k + j)
shifted-silent zero j = ap SilentAt (omega arith)
shifted-silent (suc k) j = shifted-silent k (suc j) ∙ ap SilentAt (omega arith)

shifted-unseen : (k : ℕ) → shifted k Unseen ≡ Unseen
shifted-unseen zero = refl
shifted-unseen (suc k) = shifted-unseen k

-- a step more is decided
joined_more : (k : ℕ) (grade rest : Grade) (agree right : Bool) → joined k grade (step_grade agree right rest) ≡ joined (suc k) (marked k agree (not right) grade) rest
unfolding step_grade
joined_more k (AlarmAt step) rest agree right = refl
joined_more k (SilentAt step) rest agree right = refl
joined_more k Unseen rest true right = shifted-alarm k 0 ∙ ap AlarmAt (omega arith)
joined_more k Unseen rest false true = refl
joined_more k Unseen rest false false = shifted-silent k 0 ∙ ap SilentAt (omega arith)

same_valuation : (N : Circuit) (f : StuckAt) (x s : List Bool) (v u : List Bool) → Acyclic N → Settles N f (bit x) (bit s) v → Settles N f (bit x) (bit s) u → v ≡ u
same_valuation N f x s v u acyclic first second =
    let one = one_valuation N f (bit x) (bit s) acyclic in one.only v first ∙ sym (one.only u second)

-- what is left after the first of the steps that are left
record IsRest (N : Circuit) (P : CodePlan) (f : StuckAt) (xs : List (List Bool)) (v u : List Bool) (vs us : List (List Bool)) : Type 0 where
  right : RunsFrom N NoFault (next_state N NoFault v) (every_step xs) xs (drop 1 vs)
  faulty : RunsFrom N f (next_state N f u) (every_step xs) xs (drop 1 us)
  graded : grade_of N P vs us ≡ step_grade (agree_in P u) (equal_bits (outputs_in N P u) (outputs_in N P v)) (grade_of N P (drop 1 vs) (drop 1 us))

rest_of : (N : Circuit) (P : CodePlan) (f : StuckAt) (x : List Bool) (xs : List (List Bool)) (s t v u : List Bool) (vs us : List (List Bool)) → Acyclic N
    → Settles N NoFault (bit x) (bit s) v → Settles N f (bit x) (bit t) u
    → RunsFrom N NoFault s (every_step (x ∷ xs)) (x ∷ xs) vs → RunsFrom N f t (every_step (x ∷ xs)) (x ∷ xs) us → IsRest N P f xs v u vs us
unfolding step_grade
rest_of N P f x xs s t v u [] us acyclic first second right faulty = absurd right
rest_of N P f x xs s t v u (w ∷ vs) [] acyclic first second right faulty = absurd faulty
rest_of N P f x xs s t v u (w ∷ vs) (z ∷ us) acyclic first second right faulty =
    let same_right : w ≡ v = same_valuation N NoFault x s w v acyclic right.0 first in
    let same_faulty : z ≡ u = same_valuation N f x t z u acyclic faulty.0 second in
    record {
      right = subst (λ (y : List Bool). RunsFrom N NoFault (next_state N NoFault y) (every_step xs) xs vs) same_right right.1;
      faulty = subst (λ (y : List Bool). RunsFrom N f (next_state N f y) (every_step xs) xs us) same_faulty faulty.1;
      graded = λ i. step_grade (agree_in P (same_faulty i)) (equal_bits (outputs_in N P (same_faulty i)) (outputs_in N P (same_right i))) (grade_of N P vs us);
    }

-- one step more
pub stands_more : (N : Circuit) (P : CodePlan) (f : StuckAt) (xs : List (List Bool)) (k : ℕ) (x s t v u s' t' : List Bool) (grade grade' : Grade) → Acyclic N → k < length xs → at_step xs k ≡ x
    → Settles N NoFault (bit x) (bit s) v → Settles N f (bit x) (bit t) u → s' ≡ next_state N NoFault v → t' ≡ next_state N f u
    → grade' ≡ marked k (agree_in P u) (wrong_in N P v u) grade
    → Stands N P f xs k s t grade → Stands N P f xs (suc k) s' t' grade'
stands_more N P f xs k x s t v u s' t' grade grade' acyclic low here first second is_s is_t is before = record {
  rest = λ vs us right faulty.
      let left = before.rest vs us right faulty in
      let begins : drop k xs ≡ x ∷ drop (suc k) xs = drop-cons xs k [] low ∙ ap (λ (y : List Bool). y ∷ drop (suc k) xs) here in
      let after = rest_of N P f x (drop (suc k) xs) s t v u (drop k vs) (drop k us) acyclic first second
      (subst (λ (ys : List (List Bool)). RunsFrom N NoFault s (every_step ys) ys (drop k vs)) begins left.right)
      (subst (λ (ys : List (List Bool)). RunsFrom N f t (every_step ys) ys (drop k us)) begins left.faulty) in
      record {
        right = subst₂ (λ (z : List Bool) (ws : List (List Bool)). RunsFrom N NoFault z (every_step (drop (suc k) xs)) (drop (suc k) xs) ws) (sym is_s) (sym (drop-suc k vs)) after.right;
        faulty = subst₂ (λ (z : List Bool) (ws : List (List Bool)). RunsFrom N f z (every_step (drop (suc k) xs)) (drop (suc k) xs) ws) (sym is_t) (sym (drop-suc k us)) after.faulty;
        graded = left.graded ∙ ap (joined k grade) after.graded
            ∙ joined_more k grade (grade_of N P (drop 1 (drop k vs)) (drop 1 (drop k us))) (agree_in P u) (equal_bits (outputs_in N P u) (outputs_in N P v))
            ∙ (λ i. joined (suc k) (sym is i) (grade_of N P (sym (drop-suc k vs) i) (sym (drop-suc k us) i)));
      };
}

-- a run over no inputs
none_left : (N : Circuit) (P : CodePlan) (f : StuckAt) (s : List Bool) (vs us : List (List Bool)) → RunsFrom N f s [] [] vs → grade_of N P vs us ≡ Unseen
none_left N P f s [] us right = refl
none_left N P f s (v ∷ vs) us right = absurd right

joined-unseen : (k : ℕ) (grade : Grade) → joined k grade Unseen ≡ grade
joined-unseen k (AlarmAt step) = refl
joined-unseen k (SilentAt step) = refl
joined-unseen k Unseen = shifted-unseen k

-- after all steps the grade so far is the fault's
pub stands_last : (N : Circuit) (P : CodePlan) (f : StuckAt) (xs : List (List Bool)) (k : ℕ) (s t : List Bool) (grade : Grade) → length xs ≤ k → Stands N P f xs k s t grade → IsGradeOf N P f xs grade
stands_last N P f xs k s t grade high is = λ vs us right faulty.
    (let left = is.rest vs us right faulty in
    let ends = drop_all k xs high in
    left.graded ∙ ap (joined k grade) (none_left N P NoFault s (drop k vs) (drop k us) (subst (λ (ys : List (List Bool)). RunsFrom N NoFault s (every_step ys) ys (drop k vs)) ends left.right))
    ∙ joined-unseen k grade)

-- and so it is once it is decided
pub stands_decided : (N : Circuit) (P : CodePlan) (f : StuckAt) (xs : List (List Bool)) (k : ℕ) (s t : List Bool) (grade : Grade) → is_unseen grade ≡ false → Stands N P f xs k s t grade → IsGradeOf N P f xs grade
stands_decided N P f xs k s t (AlarmAt step) decided is = λ vs us right faulty. (is.rest vs us right faulty).graded
stands_decided N P f xs k s t (SilentAt step) decided is = λ vs us right faulty. (is.rest vs us right faulty).graded
stands_decided N P f xs k s t Unseen decided is = absurd (true_false decided)
  where
    true_false : true ≡ false → ⊥
    true_false e = cc
