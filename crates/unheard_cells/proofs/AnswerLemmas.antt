-- From the first place with a reason to the first point.
use Rattle.std.proofs.Common.{◌≡◌, ℕ, suc, ◌+◌, ◌*◌, ◌/◌, ◌%◌, ◌^◌, ◌<◌, ◌≤◌, ◌⊎◌, Bool, List, length, Option, Some, None, sym, ap, subst, ◌∙◌, arith, inl, inr}
use Rattle.std.proofs.Math.Nat.{mod-lt, mod-add-div, mul_comm}
use Rattle.std.proofs.lemmas.Nat.{mul-add-lt, div-mul-add, mod-mul-add, pow_pos, mul-le}
use Rattle.tsc_bits.specs.Bits.{bits_of, binary}
use Rattle.tsc_bits.proofs.Bits.{bits_of-binary, binary-bits_of, binary-lt}
use Rattle.fault_secure.specs.Circuit.{Circuit}
use Rattle.fault_secure.specs.CodePlan.{CodePlan}
use Rattle.fault_secure.specs.Exposing.{listed_states, point_count}
use Rattle.fault_secure.proofs.ListedStates.{is_listed_state}
use Rattle.point_laws.specs.Points.{IsStepAt}
use Rattle.unheard_cells.specs.PointReason.{IsWrongAt, AreRightBefore, IsFirstOfPoints, IsPointAnswer}
use Rattle.unheard_cells.specs.Trial.{IsWrongPlace, IsFirstReason, IsFirstAnswer}
use Rattle.unheard_cells.specs.declared.reason.PointReason.{PointReason}
use Rattle.unheard_cells.specs.declared.reason.PointReason.TheVariants.{Quiet, Alarm}

module _ (N : Circuit) (P : CodePlan) where
  -- a point at which something is wrong is a listed state and an input of as many bits as inputs
  step_of : (q : ℕ) (x : List Bool) → IsWrongAt N P q x → (v : List Bool) × IsStepAt N P q x v
  step_of q x (inl alarm) = (alarm.valuation, alarm.step)
  step_of q x (inr (cell, is, at)) = (at.right, at.step)

  -- it stands at this place
  abbrev place_of : ℕ → List Bool → ℕ
  place_of q x = q * 2 ^ N.inputs + binary x

  small : (x : List Bool) → length x ≡ N.inputs → binary x < 2 ^ N.inputs
  small x sized = subst (λ n. binary x < 2 ^ n) sized (binary-lt x)

  back : (x : List Bool) → length x ≡ N.inputs → bits_of N.inputs (binary x) ≡ x
  back x sized = subst (λ n. bits_of n (binary x) ≡ x) sized (bits_of-binary x)

  wrong_place : (q : ℕ) (x : List Bool) → length x ≡ N.inputs → IsWrongAt N P q x → IsWrongPlace N P (place_of q x)
  wrong_place q x sized wrong =
      let below = small x sized in
      let state : place_of q x / 2 ^ N.inputs ≡ q = div-mul-add q (2 ^ N.inputs) (binary x) below in
      let input : place_of q x % 2 ^ N.inputs ≡ binary x = mod-mul-add q (2 ^ N.inputs) (binary x) below in
      subst (λ (r : ℕ). IsWrongAt N P r (bits_of N.inputs (place_of q x % 2 ^ N.inputs))) (sym state)
      (subst (λ (y : List Bool). IsWrongAt N P q y) (sym (ap (bits_of N.inputs) input ∙ back x sized)) wrong)

  inside : (q : ℕ) (x : List Bool) → q < listed_states P → length x ≡ N.inputs → place_of q x < point_count N P
  inside q x listed sized =
      let below = mul-add-lt q (2 ^ N.inputs) (binary x) (listed_states P) listed (small x sized) in
      turned (2 ^ N.inputs) (listed_states P) (place_of q x) below
    where
      turned : (w s p : ℕ) → p < w * s → p < s * w
      turned w s p h = omega (arith, h)

  before_place : (r q w a b p : ℕ) → a < w → p ≡ q * w + b → (r < q) ⊎ ((r ≡ q) × (a < b)) → r * w + a < p
  before_place r q w a b p below is (inl h) = let most : suc r * w ≤ q * w = mul-le (suc r) w q w (omega arith) (omega arith) in grind arith
  before_place r q w a b p below is (inr h) = let same : r * w ≡ q * w = ap (λ k. k * w) h.0 in let less : a < b = h.1 in omega arith

  -- where nothing is wrong at any place, nothing is at any point
  right_everywhere : IsFirstAnswer N P 0 (point_count N P) None → (q : ℕ) (x : List Bool) → IsWrongAt N P q x → ⊥
  right_everywhere none q x wrong =
      let step = (step_of q x wrong).1 in
      none (place_of q x) (omega arith) (inside q x (is_listed_state P q step.word step.is_state) step.sized) (wrong_place q x step.sized wrong)

  rest_small : (p : ℕ) → p % 2 ^ N.inputs < 2 ^ N.inputs
  rest_small p = mod-lt p (pow_pos N.inputs)

  -- and so it is before the first place at which something is
  right_before : (p : ℕ) → ((other : ℕ) → 0 ≤ other → other < p → IsWrongPlace N P other → ⊥) → AreRightBefore N P (p / 2 ^ N.inputs) (bits_of N.inputs (p % 2 ^ N.inputs))
  right_before p none r y before wrong =
      let w : ℕ = 2 ^ N.inputs in
      let step = (step_of r y wrong).1 in
      let rest : p % w < w = mod-lt p (pow_pos N.inputs) in
      let whole : p ≡ p / w * w + p % w = omega (arith, mod-add-div p w, mul_comm (p / w) w) in
      let number : binary (bits_of N.inputs (p % w)) ≡ p % w = binary-bits_of N.inputs (p % w) rest in
      none (place_of r y) (omega arith)
      (before_place r (p / w) w (binary y) (p % w) p (small y step.sized) whole (subst (λ n. (r < p / w) ⊎ ((r ≡ p / w) × (binary y < n))) number before))
      (wrong_place r y step.sized wrong)

  first_reason : (reason : PointReason) → IsFirstReason N P 0 (point_count N P) reason → IsFirstOfPoints N P reason
  first_reason (Quiet q input) first =
      let p : ℕ = first.place in
      subst (λ (r : ℕ). IsFirstOfPoints N P (Quiet r input)) (sym first.here.0)
      (subst (λ (i : ℕ). IsFirstOfPoints N P (Quiet (p / 2 ^ N.inputs) i)) (sym first.here.1) (rest_small p, right_before p first.before, first.here.2))
  first_reason (Alarm net value q input) first =
      let p : ℕ = first.place in
      subst (λ (r : ℕ). IsFirstOfPoints N P (Alarm net value r input)) (sym first.here.0)
      (subst (λ (i : ℕ). IsFirstOfPoints N P (Alarm net value (p / 2 ^ N.inputs) i)) (sym first.here.1)
      (rest_small p, right_before p first.before, first.here.2, first.here.3))

  pub answer_of : (found : Option PointReason) → IsFirstAnswer N P 0 (point_count N P) found → IsPointAnswer N P found
  answer_of None none = record {
    quiet = λ q x alarm. right_everywhere none q x (inl alarm);
    heard = λ cell q x is at. right_everywhere none q x (inr (cell, is, at));
  }
  answer_of (Some reason) first = first_reason reason first
