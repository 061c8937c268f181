-- There is at most one answer.
use Rattle.std.proofs.Common.{◌≡◌, ℕ, ◌^◌, ◌<◌, Bool, List, Option, Some, None, refl, sym, ap, ap₂, ◌∙◌, subst, arith, inl, inr}
use Rattle.std.proofs.lemmas.Bool.{cases_order}
use Rattle.tsc_bits.specs.Bits.{bits_of, binary}
use Rattle.tsc_bits.proofs.Bits.{binary-bits_of}
use Rattle.fault_secure.specs.Circuit.{Circuit}
use Rattle.fault_secure.specs.CodePlan.{CodePlan, IsPlanOf, IsWellMade}
use Rattle.fault_secure.specs.Logic.{Logic, AllowsNext, AllowsOutputs}
use Rattle.fault_secure.specs.FaultSecure.{outputs_in, state_at, StepFollows}
use Rattle.fault_secure.specs.Behaviour.{FollowsSource}
use Rattle.fault_secure.specs.Exposing.{ComesBefore}
use Rattle.behaviour_audit.specs.Breaks.{IsStepAt, BreaksNext, BreaksWord, BreaksOutput}
use Rattle.behaviour_audit.specs.Reason.{BreaksShown, NoneBefore, IsFirstOfBehaviour, IsBehaviourAnswer, OneAnswer}
use Rattle.behaviour_audit.specs.declared.reason.BehaviourReason.{BehaviourReason}
use Rattle.behaviour_audit.specs.declared.reason.BehaviourReason.TheVariants.{Reset, Next, Word, Output}
use Rattle.behaviour_audit.proofs.StateLemmas.{state_of_word}
use Rattle.behaviour_audit.proofs.StepLemmas.{many_outputs}
use Rattle.behaviour_audit.proofs.SourceLemmas.{allowed_bits, bits_are_counted}

module _ (M : Logic) (N : Circuit) (P : CodePlan) (of : IsPlanOf N P) (made : IsWellMade P) where
  -- ---- what follows its source breaks nothing

  held : (q : ℕ) (x v : List Bool) → (step : IsStepAt N P q x v) → state_at P step.word ≡ Some q
  held q x v step = state_of_word P q step.word made.states.distinct step.is_state

  the_step : FollowsSource M N P → (q : ℕ) (x v : List Bool) → (step : IsStepAt N P q x v) → StepFollows M N P step.word x v
  the_step follows q x v step = follows.steps q step.word x v (held q x v step) step.settles

  here_is : (follows : FollowsSource M N P) → (q : ℕ) (x v : List Bool) → (step : IsStepAt N P q x v) → (the_step follows q x v step).here ≡ q
  here_is follows q x v step = some_of (the_step follows q x v step).here q (sym (the_step follows q x v step).traced ∙ held q x v step)
    where
      some_of : (a b : ℕ) → Some a ≡ Some b → a ≡ b
      some_of a b e = cc

  follows_next : FollowsSource M N P → (q : ℕ) (x : List Bool) → BreaksNext M N P q x → ⊥
  follows_next follows q x breaks =
      let step = breaks.step in
      let taken = the_step follows q x breaks.valuation step in
      breaks.wrong
      (record {
        next = taken.next;
        arrives = taken.arrives;
        allowed = subst (λ (r : ℕ). AllowsNext M P.version r x taken.next) (here_is follows q x breaks.valuation step) taken.next_allowed;
      })

  follows_word : FollowsSource M N P → (q : ℕ) (x : List Bool) → BreaksWord N P q x → ⊥
  follows_word follows q x breaks =
      let step = breaks.step in
      breaks.wrong (follows.codewords q step.word x breaks.valuation (held q x breaks.valuation step) step.settles)

  follows_output : FollowsSource M N P → (q : ℕ) (x : List Bool) (place : ℕ) → BreaksOutput M N P q x place → ⊥
  follows_output follows q x place breaks =
      let step = breaks.step in
      let taken = the_step follows q x breaks.valuation step in
      let allowed : AllowsOutputs M P.version q x (outputs_in N P breaks.valuation)
      = subst (λ (r : ℕ). AllowsOutputs M P.version r x (outputs_in N P breaks.valuation)) (here_is follows q x breaks.valuation step) taken.outputs in
      let many = many_outputs N P breaks.valuation of in
      let is_output = breaks.is_output in
      breaks.wrong
      (allowed_bits M P.version q x (outputs_in N P breaks.valuation) place
      (subst (λ (n : ℕ). place < n) (bits_are_counted M P.version q x (outputs_in N P breaks.valuation) allowed) (omega arith)) allowed)

  none_or_some : (reason : BehaviourReason) → FollowsSource M N P → IsFirstOfBehaviour M N P reason → ⊥
  none_or_some Reset follows first = first follows.starts
  none_or_some (Next q input) follows first = follows_next follows q (bits_of N.inputs input) first.2
  none_or_some (Word q input) follows first = follows_word follows q (bits_of N.inputs input) first.3
  none_or_some (Output q input place) follows first = follows_output follows q (bits_of N.inputs input) place first.4

  -- ---- one point comes before the other, or they are the same

  data Order (q i r j : ℕ) : Type 0 where
    Before : ComesBefore q (bits_of N.inputs i) r (bits_of N.inputs j) → Order q i r j
    Behind : ComesBefore r (bits_of N.inputs j) q (bits_of N.inputs i) → Order q i r j
    Same : q ≡ r → i ≡ j → Order q i r j

  number : (i : ℕ) → i < 2 ^ N.inputs → binary (bits_of N.inputs i) ≡ i
  number i small = binary-bits_of N.inputs i small

  order : (q i r j : ℕ) → i < 2 ^ N.inputs → j < 2 ^ N.inputs → Order q i r j
  order q i r j first second = elim (cases_order q r) [
    | inl same ↦ elim (cases_order i j) [
      | inl alike ↦ Same same alike
      | inr (inl less) ↦ (let a = number i first in let b = number j second in Before (inr (same, omega arith)))
      | inr (inr more) ↦ (let a = number i first in let b = number j second in Behind (inr (sym same, omega arith)))
    ]
    | inr (inl less) ↦ Before (inl less)
    | inr (inr more) ↦ Behind (inl more)
  ]

  -- two first points are the same
  one_point : (B : ℕ → List Bool → Type 0) (q i r j : ℕ) → i < 2 ^ N.inputs → j < 2 ^ N.inputs → B q (bits_of N.inputs i) → B r (bits_of N.inputs j)
      → NoneBefore B q (bits_of N.inputs i) → NoneBefore B r (bits_of N.inputs j) → (q ≡ r) × (i ≡ j)
  one_point B q i r j first second here there before behind = elim (order q i r j first second) [
    | Before less ↦ absurd (behind q (bits_of N.inputs i) less here)
    | Behind more ↦ absurd (before r (bits_of N.inputs j) more there)
    | Same states inputs ↦ (states, inputs)
  ]

  one_place : (q r i j a b : ℕ) → q ≡ r → i ≡ j → BreaksOutput M N P q (bits_of N.inputs i) a → BreaksOutput M N P r (bits_of N.inputs j) b
      → ((other : ℕ) → other < a → BreaksOutput M N P q (bits_of N.inputs i) other → ⊥) → ((other : ℕ) → other < b → BreaksOutput M N P r (bits_of N.inputs j) other → ⊥) → a ≡ b
  one_place q r i j a b states inputs here there before behind = elim (cases_order a b) [
    | inl same ↦ same
    | inr (inl less) ↦ absurd (behind a less (subst (λ (s : ℕ). BreaksOutput M N P s (bits_of N.inputs j) a) states (subst (λ (k : ℕ). BreaksOutput M N P q (bits_of N.inputs k) a) inputs here)))
    | inr (inr more) ↦ absurd (before b more (subst (λ (s : ℕ). BreaksOutput M N P s (bits_of N.inputs i) b) (sym states) (subst (λ (k : ℕ). BreaksOutput M N P r (bits_of N.inputs k) b) (sym inputs) there)))
  ]

  word_and_output : (q i r j place : ℕ) → q ≡ r → i ≡ j → BreaksWord N P q (bits_of N.inputs i) → (BreaksWord N P r (bits_of N.inputs j) → ⊥) → ⊥
  word_and_output q i r j place states inputs here none = none (subst (λ (s : ℕ). BreaksWord N P s (bits_of N.inputs j)) states (subst (λ (k : ℕ). BreaksWord N P q (bits_of N.inputs k)) inputs here))

  one_reason : (a b : BehaviourReason) → IsFirstOfBehaviour M N P a → IsFirstOfBehaviour M N P b → a ≡ b
  one_reason Reset Reset first second = refl
  one_reason Reset (Next r j) first second = absurd (first second.0)
  one_reason Reset (Word r j) first second = absurd (first second.0)
  one_reason Reset (Output r j b) first second = absurd (first second.0)
  one_reason (Next q i) Reset first second = absurd (second first.0)
  one_reason (Word q i) Reset first second = absurd (second first.0)
  one_reason (Output q i a) Reset first second = absurd (second first.0)
  one_reason (Next q i) (Next r j) first second =
      let same = one_point (BreaksNext M N P) q i r j first.1 second.1 first.2 second.2 first.3 second.3 in ap₂ (λ (s k : ℕ). Next s k) same.0 same.1
  one_reason (Next q i) (Word r j) first second = absurd (second.2 q (bits_of N.inputs i) first.2)
  one_reason (Next q i) (Output r j b) first second = absurd (second.2 q (bits_of N.inputs i) first.2)
  one_reason (Word q i) (Next r j) first second = absurd (first.2 r (bits_of N.inputs j) second.2)
  one_reason (Output q i a) (Next r j) first second = absurd (first.2 r (bits_of N.inputs j) second.2)
  one_reason (Word q i) (Word r j) first second =
      let same = one_point (BreaksShown M N P) q i r j first.1 second.1 (inl first.3) (inl second.3) first.4 second.4 in ap₂ (λ (s k : ℕ). Word s k) same.0 same.1
  one_reason (Word q i) (Output r j b) first second =
      let same = one_point (BreaksShown M N P) q i r j first.1 second.1 (inl first.3) (inr (b, second.4)) first.4 second.5 in
      absurd (word_and_output q i r j b same.0 same.1 first.3 second.3)
  one_reason (Output q i a) (Word r j) first second =
      let same = one_point (BreaksShown M N P) q i r j first.1 second.1 (inr (a, first.4)) (inl second.3) first.5 second.4 in
      absurd (word_and_output r j q i a (sym same.0) (sym same.1) second.3 first.3)
  one_reason (Output q i a) (Output r j b) first second =
      let same = one_point (BreaksShown M N P) q i r j first.1 second.1 (inr (a, first.4)) (inr (b, second.4)) first.5 second.5 in
      let place = one_place q r i j a b same.0 same.1 first.4 second.4 first.6 second.6 in
      let states = same.0 in
      let inputs = same.1 in
      ap₂ (λ (s k : ℕ). Output s k a) states inputs ∙ ap (λ (p : ℕ). Output r j p) place

  pub the_same : (a b : Option BehaviourReason) → IsBehaviourAnswer M N P a → IsBehaviourAnswer M N P b → a ≡ b
  the_same None None first second = refl
  the_same None (Some b) first second = absurd (none_or_some b first second)
  the_same (Some a) None first second = absurd (none_or_some a second first)
  the_same (Some a) (Some b) first second = ap (λ (r : BehaviourReason). Some r) (one_reason a b first second)

-- of a source and a netlist with a well-made plan of it there is at most one answer: two are the same
pub one_answer : OneAnswer
one_answer M N P a b of made first second = the_same M N P of made a b first second
