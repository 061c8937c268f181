-- The first wrong point with one output more.
use Rattle.std.proofs.Common.{◌≡◌, ℕ, ◌+◌, ◌<◌, ◌⊎◌, inl, inr, Bool, true, List, length, Option, Some, None, sym, ◌∙◌, subst, arith}
use Rattle.std.proofs.lemmas.Bool.{cases_lt, cases_Bool}
use Rattle.std.proofs.Math.Logic.{⊎_elim}
use Rattle.diagrams.specs.Cofactors.{Function, Same}
use Rattle.diagrams.specs.Least.{IsUpTo, IsLeast}
use Rattle.wide_audit.specs.FirstWrong.{IsWrongAt, IsFirstAt, IsFirstPoint}
use Rattle.wide_audit.proofs.Orders.{UpTo-trans}

-- what is wrong with one output more was wrong without it, or that output differs
wrong_cases : (rails : Function) (differs : ℕ → Function) (n : ℕ) (x : List Bool) → IsWrongAt rails differs (n + 1) x → IsWrongAt rails differs n x ⊎ (differs n x ≡ true)
wrong_cases rails differs n x (inl word) = inl (inl word)
wrong_cases rails differs n x (inr (place, below, e)) = ⊎_elim
    (λ before. inl (inr (place, before, e)))
    (λ last. let here : place ≡ n = omega arith in inr (subst (λ (k : ℕ). differs k x ≡ true) here e))
    (cases_lt place n)

first_at_more : (rails : Function) (differs : ℕ → Function) (n : ℕ) (x : List Bool) (output : Option ℕ) → IsFirstAt rails differs n x output → IsFirstAt rails differs (n + 1) x output
first_at_more rails differs n x None here = here
first_at_more rails differs n x (Some place) here = (here.0, let below : place < n = here.1 in omega arith, here.2, here.3)

pub point_more : (inputs : ℕ) (rails : Function) (differs : ℕ → Function) (n : ℕ) (x : List Bool) (output : Option ℕ) → IsFirstPoint inputs rails differs n x output →
    ((y : List Bool) → length y ≡ inputs → differs n y ≡ true → IsUpTo x y) → IsFirstPoint inputs rails differs (n + 1) x output
point_more inputs rails differs n x output point later = record {
  sized = point.sized;
  here = first_at_more rails differs n x output point.here;
  first = λ y sized wrong. ⊎_elim (λ before. point.first y sized before) (λ here. later y sized here) (wrong_cases rails differs n y wrong);
}

-- an output that differs before all that was wrong
pub new_point : (inputs : ℕ) (rails : Function) (differs : ℕ → Function) (n : ℕ) (x : List Bool) → IsLeast inputs (differs n) true x → (IsWrongAt rails differs n x → ⊥) →
    ((y : List Bool) → length y ≡ inputs → IsWrongAt rails differs n y → IsUpTo x y) → IsFirstPoint inputs rails differs (n + 1) x (Some n)
new_point inputs rails differs n x least right before = record {
  sized = least.sized;
  here = (
    ⊎_elim (λ t. t) (λ f. absurd (right (inl f))) (cases_Bool (rails x)),
    omega arith,
    least.has,
    λ other below. ⊎_elim (λ t. absurd (right (inr (other, below, t)))) (λ f. f) (cases_Bool (differs other x)),
  );
  first = λ y sized wrong. ⊎_elim (λ old. before y sized old) (λ here. least.least y sized here) (wrong_cases rails differs n y wrong);
}

-- beside a point that was the first one
pub kept_point : (inputs : ℕ) (rails : Function) (differs : ℕ → Function) (n : ℕ) (x bits : List Bool) (output : Option ℕ) → IsFirstPoint inputs rails differs n x output → IsLeast inputs (differs n) true bits → IsUpTo x bits →
    IsFirstPoint inputs rails differs (n + 1) x output
kept_point inputs rails differs n x bits output point least up =
    point_more inputs rails differs n x output point (λ y sized here. UpTo-trans x bits y up (least.least y sized here))

pub earlier_point : (inputs : ℕ) (rails : Function) (differs : ℕ → Function) (n : ℕ) (x bits : List Bool) (output : Option ℕ) → IsFirstPoint inputs rails differs n x output → IsLeast inputs (differs n) true bits → IsUpTo bits x →
    (IsUpTo x bits → ⊥) → IsFirstPoint inputs rails differs (n + 1) bits (Some n)
earlier_point inputs rails differs n x bits output point least up strictly =
    new_point inputs rails differs n bits least (λ wrong. strictly (point.first bits least.sized wrong)) (λ y sized wrong. UpTo-trans bits x y up (point.first y sized wrong))

-- the least input of a row is that of its function
pub least_same : (inputs : ℕ) (f g : Function) (wanted : Bool) (x : List Bool) → Same inputs f g → IsLeast inputs f wanted x → IsLeast inputs g wanted x
least_same inputs f g wanted x same least = record {
  sized = least.sized;
  has = sym (same.at x least.sized) ∙ least.has;
  least = λ y sized has. least.least y sized (same.at y sized ∙ has);
}
