-- The word of a step, and what is right or wrong there.
use Rattle.std.proofs.Common.{◌≡◌, ℕ, ◌<◌, ◌≤◌, Bool, List, ◌++◌, length, map, take, drop, Some, None, sym, ap, ◌∙◌, subst, arith, append_assoc}
use Rattle.std.proofs.lemmas.List.{length-map, length-take-le, map-append}
use Rattle.tsc_bits.specs.Bits.{bits_of}
use Rattle.tsc_bits.proofs.Bits.{length-bits_of}
use Rattle.tsc_bits.proofs.Lists.{front, back}
use Rattle.fault_secure.specs.Circuit.{Circuit, bit}
use Rattle.fault_secure.specs.StuckAt.{NoFault}
use Rattle.fault_secure.specs.Settle.{Settles}
use Rattle.fault_secure.specs.CodePlan.{CodePlan, next_nets, word, outputs_of, next_of, IsCodeword, IsPlanOf}
use Rattle.fault_secure.specs.Logic.{Logic, inputs_of, AllowsNext, AllowsOutputs}
use Rattle.fault_secure.specs.FaultSecure.{outputs_in, next_in, state_at}
use Rattle.lane_sim.specs.Bench.{BenchState}
use Rattle.behaviour_audit.specs.Breaks.{IsStepAt, Arrives, AllowsBit, BreaksNext, BreaksWord, BreaksOutput}
use Rattle.behaviour_audit.specs.Points.{HasWord, AreChosen, ArrivesAt, ShowsStep, input_of}
use Rattle.behaviour_audit.specs.Trial.{IsMatch, IsShownRight, IsFirstWrong}
use Rattle.lane_sim.specs.declared.point.Point.{Point}
use Rattle.behaviour_audit.proofs.SourceLemmas.{bits_are_allowed}

-- ---- the parts of a word

module _ (N : Circuit) (P : CodePlan) (v : List Bool) (of : IsPlanOf N P) where
  split : word N P v ≡ outputs_in N P v ++ (map (bit v) P.checks ++ next_in N v)
  split =
      map-append (bit v) (take P.outputs N.outputs ++ P.checks) (next_nets N)
      ∙ (ap (λ (l : List Bool). l ++ next_in N v) (map-append (bit v) (take P.outputs N.outputs) P.checks)
      ∙ append_assoc (outputs_in N P v) (map (bit v) P.checks) (next_in N v))

  pub many_outputs : length (outputs_in N P v) ≡ P.outputs
  many_outputs =
      let most : P.outputs ≤ length N.outputs = omega (arith, of.outputs) in
      length-map (take P.outputs N.outputs) (bit v) ∙ length-take-le P.outputs N.outputs most

  pub outputs_part : outputs_of P (word N P v) ≡ outputs_in N P v
  outputs_part = ap (take P.outputs) split ∙ front P.outputs (outputs_in N P v) (map (bit v) P.checks ++ next_in N v) many_outputs

  pub next_part : next_of P (word N P v) ≡ next_in N v
  next_part =
      ap (λ (w : List Bool). drop (length P.checks) (drop P.outputs w)) split
      ∙ (ap (drop (length P.checks)) (back P.outputs (outputs_in N P v) (map (bit v) P.checks ++ next_in N v) many_outputs)
      ∙ back (length P.checks) (map (bit v) P.checks) (next_in N v) (length-map P.checks (bit v)))

-- ---- what a bench shows of a step

pub has_word : (N : Circuit) (P : CodePlan) (bench : BenchState) (slot : ℕ) (point : Point) (w : List Bool) → (step : ShowsStep N P bench slot point)
    → w ≡ word N P step.shows.valuation → HasWord N P point.state (input_of N.inputs point) w
has_word N P bench slot point w step is = record {
  valuation = step.shows.valuation;
  step = record { word = step.word; is_state = step.is_state; sized = length-bits_of N.inputs point.input; settles = step.shows.settles };
  only = λ v other. step.shows.only v
      (subst (λ (s : List Bool). Settles N NoFault (bit (input_of N.inputs point)) (bit s) v) (same_word other.word step.word (sym other.is_state ∙ step.is_state)) other.settles);
  is_word = is;
}
  where
    same_word : (a b : List Bool) → Some a ≡ Some b → a ≡ b
    same_word a b e = cc

-- ---- what is right or wrong at a point

module _ (M : Logic) (N : Circuit) (P : CodePlan) (point : Point) (w : List Bool) (fit : IsMatch M N P) (has : HasWord N P point.state (input_of N.inputs point) w) where
  abbrev x : List Bool
  x = input_of N.inputs point

  same_input : bits_of (inputs_of M) point.input ≡ x
  same_input = ap (λ (n : ℕ). bits_of n point.input) (sym fit.inputs)

  word_is : (v : List Bool) → IsStepAt N P point.state x v → w ≡ word N P v
  word_is v step = has.is_word ∙ ap (word N P) (sym (has.only v step))

  next_is : (v : List Bool) → IsStepAt N P point.state x v → next_of P w ≡ next_in N v
  next_is v step = ap (next_of P) (word_is v step) ∙ next_part N P v fit.plan

  outputs_are : (v : List Bool) → IsStepAt N P point.state x v → outputs_of P w ≡ outputs_in N P v
  outputs_are v step = ap (outputs_of P) (word_is v step) ∙ outputs_part N P v fit.plan

  pub next_holds : (next : List Bool) → next ≡ next_of P w → ArrivesAt M P point.state (bits_of (inputs_of M) point.input) next → (v : List Bool) → IsStepAt N P point.state x v
      → Arrives M N P point.state x v
  next_holds next is arrives v step = record {
    next = arrives.state;
    arrives = ap (state_at P) (sym (is ∙ next_is v step)) ∙ arrives.arrives;
    allowed = subst (λ (y : List Bool). AllowsNext M P.version point.state y arrives.state) same_input arrives.allowed;
  }

  pub next_fails : (next : List Bool) → next ≡ next_of P w → (ArrivesAt M P point.state (bits_of (inputs_of M) point.input) next → ⊥) → BreaksNext M N P point.state x
  next_fails next is wrong = record {
    valuation = has.valuation;
    step = has.step;
    wrong = λ arrives. wrong
        (record {
          state = arrives.next;
          arrives = ap (state_at P) (is ∙ next_is has.valuation has.step) ∙ arrives.arrives;
          allowed = subst (λ (y : List Bool). AllowsNext M P.version point.state y arrives.next) (sym same_input) arrives.allowed;
        });
  }

  pub word_fails : (IsCodeword P w → ⊥) → BreaksWord N P point.state x
  word_fails wrong = record { valuation = has.valuation; step = has.step; wrong = λ codeword. wrong (subst (IsCodeword P) (sym has.is_word) codeword) }

  pub word_holds : IsCodeword P w → BreaksWord N P point.state x → ⊥
  word_holds codeword breaks = breaks.wrong (subst (IsCodeword P) (word_is breaks.valuation breaks.step) codeword)

  abbrev Allowed : List Bool → ℕ → Type 0
  Allowed ys place = AllowsBit M P.version point.state (bits_of (inputs_of M) point.input) place (bit ys place)

  allowed_in : (ys : List Bool) (place : ℕ) → ys ≡ outputs_of P w → (v : List Bool) → IsStepAt N P point.state x v → Allowed ys place
      → AllowsBit M P.version point.state x place (bit (outputs_in N P v) place)
  allowed_in ys place is v step allowed =
      subst (λ (y : List Bool). AllowsBit M P.version point.state y place (bit (outputs_in N P v) place)) same_input
      (subst (λ (l : List Bool). AllowsBit M P.version point.state (bits_of (inputs_of M) point.input) place (bit l place)) (is ∙ outputs_are v step) allowed)

  allowed_out : (ys : List Bool) (place : ℕ) → ys ≡ outputs_of P w → (v : List Bool) → IsStepAt N P point.state x v
      → AllowsBit M P.version point.state x place (bit (outputs_in N P v) place) → Allowed ys place
  allowed_out ys place is v step allowed =
      subst (λ (l : List Bool). AllowsBit M P.version point.state (bits_of (inputs_of M) point.input) place (bit l place)) (sym (is ∙ outputs_are v step))
      (subst (λ (y : List Bool). AllowsBit M P.version point.state y place (bit (outputs_in N P v) place)) (sym same_input) allowed)

  pub output_fails : (ys : List Bool) (place : ℕ) → ys ≡ outputs_of P w → length ys ≡ P.outputs → IsFirstWrong M P.version point.state (bits_of (inputs_of M) point.input) ys (Some place)
      → BreaksOutput M N P point.state x place
  output_fails ys place is sized wrong = record {
    valuation = has.valuation;
    step = has.step;
    is_output = subst (λ (n : ℕ). place < n) sized wrong.0;
    wrong = λ allowed. wrong.1 (allowed_out ys place is has.valuation has.step allowed);
  }

  pub outputs_before_hold : (ys : List Bool) (place : ℕ) → ys ≡ outputs_of P w → IsFirstWrong M P.version point.state (bits_of (inputs_of M) point.input) ys (Some place)
      → (other : ℕ) → other < place → BreaksOutput M N P point.state x other → ⊥
  outputs_before_hold ys place is wrong other less breaks = breaks.wrong (allowed_in ys other is breaks.valuation breaks.step (wrong.2 other less))

  pub all_allowed : IsCodeword P w → AllowsOutputs M P.version point.state (bits_of (inputs_of M) point.input) (outputs_of P w) → (v : List Bool) → IsStepAt N P point.state x v
      → IsShownRight M N P point.state x v
  all_allowed codeword allowed v step = record {
    codeword = subst (IsCodeword P) (word_is v step) codeword;
    outputs = subst (λ (y : List Bool). AllowsOutputs M P.version point.state y (outputs_in N P v)) same_input
        (subst (λ (l : List Bool). AllowsOutputs M P.version point.state (bits_of (inputs_of M) point.input) l) (outputs_are v step) allowed);
  }

  pub all_hold : (ys chosen : List Bool) → ys ≡ outputs_of P w → length ys ≡ P.outputs → IsCodeword P w → AreChosen M point.state (bits_of (inputs_of M) point.input) chosen
      → length chosen ≡ P.outputs → IsFirstWrong M P.version point.state (bits_of (inputs_of M) point.input) ys None
      → (v : List Bool) → IsStepAt N P point.state x v → IsShownRight M N P point.state x v
  all_hold ys chosen is sized codeword are room right =
      all_allowed codeword
      (subst (λ (l : List Bool). AllowsOutputs M P.version point.state (bits_of (inputs_of M) point.input) l) is
      (bits_are_allowed M P.version point.state (bits_of (inputs_of M) point.input) chosen ys are (sized ∙ fit.outputs) (sized ∙ sym room) right))
