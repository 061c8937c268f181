-- From the points by their places to the answer.
use Rattle.std.proofs.Common.{◌≡◌, ℕ, suc, ◌+◌, ◌*◌, ◌/◌, ◌%◌, ◌^◌, ◌<◌, ◌≤◌, ◌⊎◌, Bool, true, false, List, length, Option, Some, None, sym, ap, ap₂, subst, arith, inl, inr}
use Rattle.std.specs.Option.{is_some}
use Rattle.std.proofs.Math.Nat.{mod-lt, mod-add-div, mul_comm}
use Rattle.std.proofs.lemmas.Nat.{mul-add-lt, div-mul-add, mod-mul-add, pow_pos, mul-le}
use Rattle.std.proofs.lemmas.Bool.{false≢true, cases_lt}
use Rattle.std.proofs.Math.Logic.{⊎_elim}
use Rattle.std.proofs.Math.Pow.{pow_mono}
use Rattle.tsc_bits.specs.Bits.{bits_of, binary}
use Rattle.tsc_bits.proofs.Bits.{bits_of-binary, binary-bits_of, binary-lt}
use Rattle.fault_secure.specs.Circuit.{Circuit, bit}
use Rattle.fault_secure.specs.StuckAt.{NoFault}
use Rattle.fault_secure.specs.Settle.{Settles}
use Rattle.fault_secure.specs.CodePlan.{CodePlan, word, IsCodeword, IsPlanOf, IsWellMade}
use Rattle.fault_secure.specs.Logic.{Logic, Network, States, Loose, states_of, inputs_of, outputs_count}
use Rattle.fault_secure.specs.FaultSecure.{outputs_in, state_at, StepFollows}
use Rattle.fault_secure.specs.Behaviour.{FollowsSource}
use Rattle.fault_secure.specs.Exposing.{ComesBefore, listed_states, point_count}
use Rattle.tsc_net.specs.SourceView.{logic_of}
use Rattle.behaviour_audit.specs.Breaks.{IsStepAt, BreaksNext}
use Rattle.behaviour_audit.specs.Reason.{Starts, AllArrive, BreaksShown, IsFirstOfBehaviour, IsBehaviourAnswer}
use Rattle.behaviour_audit.specs.Trial.{IsSoundSource, IsMatch, IsRight, IsAnswerAt, IsFirstOf, IsFirstAnswer}
use Rattle.behaviour_audit.specs.declared.trial.Audited.{Audited}
use Rattle.behaviour_audit.specs.declared.condition.Condition.{Condition}
use Rattle.behaviour_audit.specs.declared.condition.Condition.TheVariants.{NextState, WordAndOutputs}
use Rattle.lane_sim.specs.declared.point.Point.{Point}
use Rattle.behaviour_audit.specs.declared.reason.BehaviourReason.{BehaviourReason}
use Rattle.behaviour_audit.specs.declared.reason.BehaviourReason.TheVariants.{Reset, Next, Word, Output}
use Rattle.behaviour_audit.proofs.BitLemmas.{clip, length-clip, bit-clip}
use Rattle.behaviour_audit.proofs.StateLemmas.{has_word_like}
use Rattle.behaviour_audit.proofs.SourceLemmas.{allowed_bits, next_alike, outputs_alike}
use Rattle.behaviour_audit.proofs.WatchLemmas.{settles_alike}
use Rattle.fault_secure.proofs.ListedStates.{is_listed_state}
use Rattle.lane_sim.specs.Places.{point_at}

-- a source has a state
pub some_state : (M : Logic) → IsSoundSource M → 0 < states_of M
some_state (Network C) sound = omega arith
some_state (States M) table = let reset = table.reset in omega arith
some_state (Loose V F) sound = omega arith

-- so few points have few inputs
pub few_inputs : (states n : ℕ) → 0 < states → states * 2 ^ n ≤ 1048576 → n ≤ 20
few_inputs states n some few = ⊎_elim
    (λ (more : 20 < n).
    let far : 21 ≤ n = omega arith in
    let most : 2 ^ 21 ≤ 2 ^ n = pow_mono far in
    let product : 1 * 2 ^ n ≤ states * 2 ^ n = mul-le 1 (2 ^ n) states (2 ^ n) (omega arith) (omega arith) in
    absurd (omega arith))
    (λ (less : n ≤ 20). less)
    (cases_lt 20 n)

pub belong_together : (M : Logic) (N : Circuit) (P : CodePlan) → IsPlanOf N P → IsWellMade P → IsSoundSource M → N.inputs ≡ inputs_of M → P.outputs ≡ outputs_count M
    → listed_states P ≡ states_of M → length N.latches ≤ 64 → states_of M * 2 ^ inputs_of M ≤ 1048576 → IsMatch M N P
belong_together M N P plan made sound inputs outputs states latches few = record {
  plan = plan;
  made = made;
  sound = sound;
  inputs = inputs;
  outputs = outputs;
  states = states;
  latches = latches;
  few_inputs = subst (λ (n : ℕ). n ≤ 20) (sym inputs) (few_inputs (states_of M) (inputs_of M) (some_state M sound) few);
}

module _ (A : Audited) (fit : IsMatch (logic_of A.source.now) A.net.now.circuit A.plan.now) where
  abbrev M : Logic
  M = logic_of A.source.now

  abbrev N : Circuit
  N = A.net.now.circuit

  abbrev P : CodePlan
  P = A.plan.now

  -- ---- places

  abbrev place_of : ℕ → List Bool → ℕ
  place_of q x = q * 2 ^ N.inputs + binary x

  small : (x : List Bool) → length x ≡ N.inputs → binary x < 2 ^ N.inputs
  small x sized = subst (λ n. binary x < 2 ^ n) sized (binary-lt x)

  there : (q : ℕ) (x : List Bool) → length x ≡ N.inputs → point_at N.inputs (place_of q x) ≡ record { state = q; input = binary x }
  there q x sized =
      ap₂ (λ (a b : ℕ). the_point a b) (div-mul-add q (2 ^ N.inputs) (binary x) (small x sized)) (mod-mul-add q (2 ^ N.inputs) (binary x) (small x sized))
    where
      the_point : ℕ → ℕ → Point
      the_point a b = record { state = a; input = b }

  back : (x : List Bool) → length x ≡ N.inputs → bits_of N.inputs (binary x) ≡ x
  back x sized = subst (λ n. bits_of n (binary x) ≡ x) sized (bits_of-binary x)

  inside : (q : ℕ) (x : List Bool) → q < listed_states P → length x ≡ N.inputs → place_of q x < point_count N P
  inside q x listed sized =
      let below = mul-add-lt q (2 ^ N.inputs) (binary x) (listed_states P) listed (small x sized) in
      turned (2 ^ N.inputs) (listed_states P) (place_of q x) below
    where
      turned : (w s p : ℕ) → p < w * s → p < s * w
      turned w s p h = omega (arith, h)

  before_place : (r q w a b p : ℕ) → a < w → p ≡ q * w + b → (r < q) ⊎ ((r ≡ q) × (a < b)) → r * w + a < p
  before_place r q w a b p below is (inl h) = let most : suc r * w ≤ q * w = mul-le (suc r) w q w (omega arith) (omega arith) in grind arith
  before_place r q w a b p below is (inr h) = let same : r * w ≡ q * w = ap (λ k. k * w) h.0 in let less : a < b = h.1 in omega arith

  right_there : (condition : Condition) (q : ℕ) (x : List Bool) → length x ≡ N.inputs → IsAnswerAt condition A (point_at N.inputs (place_of q x)) None → IsRight condition M N P q x
  right_there condition q x sized right =
      let at : IsAnswerAt condition A (record { state = q; input = binary x }) None
      = subst (λ (point : Point). IsAnswerAt condition A point None) (there q x sized) right in
      subst (λ (y : List Bool). IsRight condition M N P q y) (back x sized) at

  -- where no place has a reason all is right
  right_everywhere : (condition : Condition) → IsFirstAnswer condition A 0 (point_count N P) None → (q : ℕ) (x v : List Bool) → IsStepAt N P q x v → IsRight condition M N P q x
  right_everywhere condition none q x v step =
      right_there condition q x step.sized (none (place_of q x) (omega arith) (inside q x (is_listed_state P q step.word step.is_state) step.sized))

  -- and so it is before the first place that has one
  right_before : (condition : Condition) (p : ℕ) → ((other : ℕ) → 0 ≤ other → other < p → IsAnswerAt condition A (point_at N.inputs other) None)
      → (r : ℕ) (y v : List Bool) → ComesBefore r y (p / 2 ^ N.inputs) (bits_of N.inputs (p % 2 ^ N.inputs)) → IsStepAt N P r y v → IsRight condition M N P r y
  right_before condition p none r y v before step =
      let w : ℕ = 2 ^ N.inputs in
      let rest : p % w < w = mod-lt p (pow_pos N.inputs) in
      let whole : p ≡ p / w * w + p % w = omega (arith, mod-add-div p w, mul_comm (p / w) w) in
      let number : binary (bits_of N.inputs (p % w)) ≡ p % w = binary-bits_of N.inputs (p % w) rest in
      right_there condition r y step.sized
      (none (place_of r y) (omega arith)
      (before_place r (p / w) w (binary y) (p % w) p (small y step.sized) whole (subst (λ n. (r < p / w) ⊎ ((r ≡ p / w) × (binary y < n))) number before)))

  -- ---- what is right breaks nothing

  next_unbroken : (q : ℕ) (x : List Bool) → ((v : List Bool) → IsStepAt N P q x v → IsRight NextState M N P q x) → BreaksNext M N P q x → ⊥
  next_unbroken q x right breaks = breaks.wrong (right breaks.valuation breaks.step breaks.valuation breaks.step)

  shown_unbroken : (q : ℕ) (x : List Bool) → ((v : List Bool) → IsStepAt N P q x v → IsRight WordAndOutputs M N P q x) → BreaksShown M N P q x → ⊥
  shown_unbroken q x right (inl breaks) = breaks.wrong (right breaks.valuation breaks.step breaks.valuation breaks.step).codeword
  shown_unbroken q x right (inr found) =
      let breaks = found.1 in
      breaks.wrong
      (allowed_bits M P.version q x (outputs_in N P breaks.valuation) found.0 (subst (λ (n : ℕ). found.0 < n) fit.outputs breaks.is_output)
      (right breaks.valuation breaks.step breaks.valuation breaks.step).outputs)

  -- ---- the answers

  rest_small : (p : ℕ) → p % 2 ^ N.inputs < 2 ^ N.inputs
  rest_small p = mod-lt p (pow_pos N.inputs)

  next_reason : (starts : Starts M N P) (reason : BehaviourReason) → IsFirstOf NextState A 0 (point_count N P) reason → IsFirstOfBehaviour M N P reason
  next_reason starts Reset first = absurd first.here
  next_reason starts (Word q input) first = absurd first.here
  next_reason starts (Output q input place) first = absurd first.here
  next_reason starts (Next q input) first =
      let p : ℕ = first.place in
      subst (λ (r : ℕ). IsFirstOfBehaviour M N P (Next r input)) (sym first.here.0)
      (subst (λ (i : ℕ). IsFirstOfBehaviour M N P (Next (p / 2 ^ N.inputs) i)) (sym first.here.1) (
        starts,
        rest_small p,
        first.here.2,
        λ r y before breaks. next_unbroken r y (λ v step. right_before NextState p first.before r y v before step) breaks,
      ))

  all_arrive : IsFirstAnswer NextState A 0 (point_count N P) None → AllArrive M N P
  all_arrive none r y breaks = next_unbroken r y (λ v step. right_everywhere NextState none r y v step) breaks

  shown_reason : (starts : Starts M N P) → IsFirstAnswer NextState A 0 (point_count N P) None → (reason : BehaviourReason)
      → IsFirstOf WordAndOutputs A 0 (point_count N P) reason → IsFirstOfBehaviour M N P reason
  shown_reason starts none Reset first = absurd first.here
  shown_reason starts none (Next q input) first = absurd first.here
  shown_reason starts none (Word q input) first =
      let p : ℕ = first.place in
      subst (λ (r : ℕ). IsFirstOfBehaviour M N P (Word r input)) (sym first.here.0)
      (subst (λ (i : ℕ). IsFirstOfBehaviour M N P (Word (p / 2 ^ N.inputs) i)) (sym first.here.1) (
        starts,
        rest_small p,
        all_arrive none,
        first.here.2,
        λ r y before breaks. shown_unbroken r y (λ v step. right_before WordAndOutputs p first.before r y v before step) breaks,
      ))
  shown_reason starts none (Output q input place) first =
      let p : ℕ = first.place in
      subst (λ (r : ℕ). IsFirstOfBehaviour M N P (Output r input place)) (sym first.here.0)
      (subst (λ (i : ℕ). IsFirstOfBehaviour M N P (Output (p / 2 ^ N.inputs) i place)) (sym first.here.1) (
        starts,
        rest_small p,
        all_arrive none,
        first.here.2,
        first.here.3,
        (λ r y before breaks. shown_unbroken r y (λ v step. right_before WordAndOutputs p first.before r y v before step) breaks),
        first.here.4,
      ))

  -- ---- where nothing is wrong the netlist follows its source, whatever bits more an input list has

  module _ (q : ℕ) (s x v : List Bool) (is : state_at P s ≡ Some q) (settles : Settles N NoFault (bit x) (bit s) v) where
    abbrev y : List Bool
    y = clip N.inputs x

    y_bits : (k : ℕ) → k < inputs_of M → bit y k ≡ bit x k
    y_bits k below = bit-clip N.inputs x k (subst (λ (n : ℕ). k < n) (sym fit.inputs) below)

    step : IsStepAt N P q y v
    step =
        let found = has_word_like P s q is in
        record {
          word = found.word;
          is_state = found.is_state;
          sized = length-clip N.inputs x;
          settles = settles_alike N (bit x) (bit y) (bit s) (bit found.word) v (λ k below. sym (bit-clip N.inputs x k below))
              (λ l below.
              let latches = fit.plan.latches in
              sym (ap (λ (w : List Bool). bit w l) (found.alike (omega arith)))) settles;
        }

    follows_step : IsFirstAnswer NextState A 0 (point_count N P) None → IsFirstAnswer WordAndOutputs A 0 (point_count N P) None → StepFollows M N P s x v
    follows_step none right =
        let arrives = right_everywhere NextState none q y v step v step in
        record {
          here = q;
          next = arrives.next;
          traced = is;
          arrives = arrives.arrives;
          outputs = outputs_alike M P.version q y x (outputs_in N P v) fit.sound y_bits (right_everywhere WordAndOutputs right q y v step v step).outputs;
          next_allowed = next_alike M P.version q arrives.next y x fit.sound y_bits arrives.allowed;
        }

    follows_word : IsFirstAnswer WordAndOutputs A 0 (point_count N P) None → IsCodeword P (word N P v)
    follows_word right = (right_everywhere WordAndOutputs right q y v step v step).codeword

  follows : Starts M N P → IsFirstAnswer NextState A 0 (point_count N P) None → IsFirstAnswer WordAndOutputs A 0 (point_count N P) None → FollowsSource M N P
  follows starts none right = record {
    starts = starts;
    steps = λ q s x v is settles. follows_step q s x v is settles none right;
    codewords = λ q s x v is settles. follows_word q s x v is settles right;
  }

  pub first_pass_answers : (starts : Starts M N P) (answer : Option BehaviourReason) → IsFirstAnswer NextState A 0 (point_count N P) answer → is_some answer ≡ true
      → IsBehaviourAnswer M N P answer
  first_pass_answers starts None none some = absurd (false≢true some)
  first_pass_answers starts (Some reason) first some = next_reason starts reason first

  pub second_pass_answers : (starts : Starts M N P) (before answer : Option BehaviourReason) → IsFirstAnswer NextState A 0 (point_count N P) before → is_some before ≡ false
      → IsFirstAnswer WordAndOutputs A 0 (point_count N P) answer → IsBehaviourAnswer M N P answer
  second_pass_answers starts (Some reason) answer first some right = absurd (false≢true (sym some))
  second_pass_answers starts None None none some right = follows starts none right
  second_pass_answers starts None (Some reason) none some right = shown_reason starts none reason right
