-- There is at most one answer.
use Rattle.std.proofs.Common.{◌≡◌, ℕ, ◌^◌, ◌<◌, Bool, true, false, not, List, Option, Some, None, refl, sym, ap, ap₂, ◌∙◌, subst, arith, inl, inr}
use Rattle.std.proofs.lemmas.Bool.{cases_order}
use Rattle.tsc_bits.specs.Bits.{bits_of, binary}
use Rattle.tsc_bits.proofs.Bits.{binary-bits_of}
use Rattle.fault_secure.specs.Circuit.{Circuit, bit}
use Rattle.fault_secure.specs.CodePlan.{CodePlan}
use Rattle.fault_secure.specs.Exposing.{ComesBefore}
use Rattle.tsc_net.specs.declared.ids.NetId.{NetId}
use Rattle.point_laws.specs.Points.{IsFalseAlarmAt}
use Rattle.point_laws.specs.Heard.{IsHeardAtPoints}
use Rattle.unheard_cells.specs.PointReason.{IsWrongAt, AreRightBefore, IsLeastUnheard, IsFirstOfPoints, IsPointAnswer, OnePointAnswer}
use Rattle.unheard_cells.specs.declared.reason.PointReason.{PointReason}
use Rattle.unheard_cells.specs.declared.reason.PointReason.TheVariants.{Quiet, Alarm}

not_same : (a b : Bool) → not a ≡ not b → a ≡ b
not_same true true e = refl
not_same true false e = sym e
not_same false true e = sym e
not_same false false e = refl

same_net : (a b : NetId) → a.number ≡ b.number → a ≡ b
same_net a b e = ap (λ (n : ℕ). the_net n) e
  where
    the_net : ℕ → NetId
    the_net n = record { number = n }

module _ (N : Circuit) (P : CodePlan) where
  -- ---- what is heard has no reason

  none_or_some : (reason : PointReason) → IsHeardAtPoints N P → IsFirstOfPoints N P reason → ⊥
  none_or_some (Quiet q input) heard first = heard.quiet q (bits_of N.inputs input) first.2
  none_or_some (Alarm net value q input) heard first = heard.heard net.number q (bits_of N.inputs input) first.3.is_cell first.3.unheard

  -- ---- one point comes before the other, or they are the same

  data Order (q i r j : ℕ) : Type 0 where
    Before : ComesBefore q (bits_of N.inputs i) r (bits_of N.inputs j) → Order q i r j
    Behind : ComesBefore r (bits_of N.inputs j) q (bits_of N.inputs i) → Order q i r j
    Same : q ≡ r → i ≡ j → Order q i r j

  number : (i : ℕ) → i < 2 ^ N.inputs → binary (bits_of N.inputs i) ≡ i
  number i small = binary-bits_of N.inputs i small

  order : (q i r j : ℕ) → i < 2 ^ N.inputs → j < 2 ^ N.inputs → Order q i r j
  order q i r j first second = elim (cases_order q r) [
    | inl same ↦ elim (cases_order i j) [
      | inl alike ↦ Same same alike
      | inr (inl less) ↦ (let a = number i first in let b = number j second in Before (inr (same, omega arith)))
      | inr (inr more) ↦ (let a = number i first in let b = number j second in Behind (inr (sym same, omega arith)))
    ]
    | inr (inl less) ↦ Before (inl less)
    | inr (inr more) ↦ Behind (inl more)
  ]

  one_point : (q i r j : ℕ) → i < 2 ^ N.inputs → j < 2 ^ N.inputs → IsWrongAt N P q (bits_of N.inputs i) → IsWrongAt N P r (bits_of N.inputs j)
      → AreRightBefore N P q (bits_of N.inputs i) → AreRightBefore N P r (bits_of N.inputs j) → (q ≡ r) × (i ≡ j)
  one_point q i r j first second here there before behind = elim (order q i r j first second) [
    | Before less ↦ absurd (behind q (bits_of N.inputs i) less here)
    | Behind more ↦ absurd (before r (bits_of N.inputs j) more there)
    | Same states inputs ↦ (states, inputs)
  ]

  wrong_cell : (net q : ℕ) (value : Bool) (x : List Bool) → IsLeastUnheard N P net value q x → IsWrongAt N P q x
  wrong_cell net q value x least = inr (net, least.is_cell, least.unheard)

  -- at one point there is one least cell, with one bit
  one_cell : (a b : NetId) (v u : Bool) (q : ℕ) (x : List Bool) → IsLeastUnheard N P a.number v q x → IsLeastUnheard N P b.number u q x → (a ≡ b) × (v ≡ u)
  one_cell a b v u q x first second = elim (cases_order a.number b.number) [
    | inl same ↦ (
      same_net a b same,
      not_same v u (sym (first.other_bit first.unheard.right first.unheard.step) ∙ (ap (bit first.unheard.right) same ∙ second.other_bit first.unheard.right first.unheard.step)),
    )
    | inr (inl less) ↦ absurd (second.least a.number less first.is_cell first.unheard)
    | inr (inr more) ↦ absurd (first.least b.number more second.is_cell second.unheard)
  ]

  -- the same of another way of writing the point
  moved : (net q r i j : ℕ) (value : Bool) → q ≡ r → i ≡ j → IsLeastUnheard N P net value q (bits_of N.inputs i) → IsLeastUnheard N P net value r (bits_of N.inputs j)
  moved net q r i j value states inputs least = subst (λ (s : ℕ). IsLeastUnheard N P net value s (bits_of N.inputs j)) states
      (subst (λ (k : ℕ). IsLeastUnheard N P net value q (bits_of N.inputs k)) inputs least)

  moved_alarm : (q r i j : ℕ) → q ≡ r → i ≡ j → IsFalseAlarmAt N P q (bits_of N.inputs i) → IsFalseAlarmAt N P r (bits_of N.inputs j)
  moved_alarm q r i j states inputs alarm = subst (λ (s : ℕ). IsFalseAlarmAt N P s (bits_of N.inputs j)) states
      (subst (λ (k : ℕ). IsFalseAlarmAt N P q (bits_of N.inputs k)) inputs alarm)

  one_reason : (a b : PointReason) → IsFirstOfPoints N P a → IsFirstOfPoints N P b → a ≡ b
  one_reason (Quiet q i) (Quiet r j) first second =
      let same = one_point q i r j first.0 second.0 (inl first.2) (inl second.2) first.1 second.1 in ap₂ (λ (s k : ℕ). Quiet s k) same.0 same.1
  one_reason (Quiet q i) (Alarm net value r j) first second =
      let same = one_point q i r j first.0 second.0 (inl first.2) (wrong_cell net.number r value (bits_of N.inputs j) second.3) first.1 second.1 in
      absurd (second.2 (moved_alarm q r i j same.0 same.1 first.2))
  one_reason (Alarm net value q i) (Quiet r j) first second =
      let same = one_point q i r j first.0 second.0 (wrong_cell net.number q value (bits_of N.inputs i) first.3) (inl second.2) first.1 second.1 in
      absurd (first.2 (moved_alarm r q j i (sym same.0) (sym same.1) second.2))
  one_reason (Alarm net value q i) (Alarm other held r j) first second =
      let same = one_point q i r j first.0 second.0 (wrong_cell net.number q value (bits_of N.inputs i) first.3) (wrong_cell other.number r held (bits_of N.inputs j) second.3)
      first.1 second.1 in
      let cells = one_cell net other value held r (bits_of N.inputs j) (moved net.number q r i j value same.0 same.1 first.3) second.3 in
      ap₂ (λ (s k : ℕ). Alarm net value s k) same.0 same.1 ∙ ap₂ (λ (n : NetId) (b : Bool). Alarm n b r j) cells.0 cells.1

  pub the_same : (a b : Option PointReason) → IsPointAnswer N P a → IsPointAnswer N P b → a ≡ b
  the_same None None first second = refl
  the_same None (Some b) first second = absurd (none_or_some b first second)
  the_same (Some a) None first second = absurd (none_or_some a second first)
  the_same (Some a) (Some b) first second = ap (λ (r : PointReason). Some r) (one_reason a b first second)

-- there is at most one answer: two are the same
pub one_point_answer : OnePointAnswer
one_point_answer N P a b first second = the_same N P a b first second
