-- The plan of a machine's netlist is well made, and its state words are few and short.
use Rattle.std.proofs.Common.{◌≡◌, ℕ, ◌*◌, ◌<◌, ◌≤◌, inr, [], map, length, refl, sym, ◌∙◌, ap, ap₂, subst, arith}
use Rattle.std.proofs.lemmas.List.{length-map}
use Rattle.tsc_bits.specs.Bits.{bits_of}
use Rattle.fault_secure.specs.declared.code.Code.{Code}
use Rattle.fault_secure.specs.CodePlan.{CodePlan, HasWidth, HasStates, IsUnorderedCode, IsWellMade}
use Rattle.fault_secure.specs.Logic.{StateTable}
use Rattle.code_checkers.specs.declared.word_sizes.WordSizes.{WordSizes}
use Rattle.code_checkers.specs.SizedWords.{HasPlan}
use Rattle.code_checkers.proofs.SizedWords.{plan_with, has_plan}
use Rattle.state_code.specs.Words.{AreStateWords, IsLeastWeight, binomial, state_words}
use Rattle.state_code.specs.declared.words.StateCode.{StateCode}
use Rattle.state_code.proofs.Weights.{state_words_fit}
use Rattle.unate_synth.proofs.PlanLemmas.{shape_of, width_with}
use Rattle.machine_synth.specs.MachineFunction.{IsMachinePlan}
use Rattle.machine_synth.specs.MachineParts.{IsCodeOf}
use Rattle.machine_synth.proofs.MachineJoin.{words_fit, state_count}

-- the plan that is made of the parts that it is to have
pub made_plan : (M : StateTable) (codes : StateCode) (P : CodePlan) → IsCodeOf M.states codes → P.version ≡ 2 → IsUnorderedCode P.code → P.outputs ≡ M.outputs
    → HasWidth P.code P.outputs (length P.checks) → P.groups ≡ [] → P.latches ≡ codes.n → P.weight ≡ codes.m → P.states ≡ map (bits_of codes.n) codes.words.words → IsMachinePlan M P
made_plan M codes P is version unordered outputs width groups latches weight states = record {
  version = version;
  code = unordered;
  outputs = outputs;
  width = width;
  groupless = groups;
  half = latches ∙ is.half ∙ ap (λ m. 2 * m) (sym weight);
  least = subst (IsLeastWeight M.states) (sym weight) is.least;
  states = states ∙ ap (map (bits_of codes.n)) is.words ∙ ap₂ (λ n m. map (bits_of n) (state_words n m M.states)) (sym latches) (sym weight);
}

module _ (M : StateTable) (P : CodePlan) (plan : IsMachinePlan M P) (some : 0 < M.states) where
  fit : AreStateWords P.latches P.weight M.states P.states
  fit = subst (AreStateWords P.latches P.weight M.states) (sym plan.states) (words_fit M P plan)

  has_states : HasStates P
  has_states =
      let half : P.latches ≡ 2 * P.weight = plan.half in
      let least : 1 ≤ P.weight = plan.least.some in
      record {
        none = λ e. absurd (omega (arith, half, least, e));
        some = λ h. (omega (arith, state_count M P plan, some), omega (arith, least), omega (arith, half, least));
        sized = fit.sized;
        weighed = fit.weighed;
        distinct = fit.distinct;
      }

  pub plan_well_made : 0 < P.outputs → P.outputs ≤ 64 → IsWellMade P
  plan_well_made outputs most = record {
    versioned = inr plan.version;
    some_output = outputs;
    most_outputs = most;
    shape = shape_of P.code P plan.groupless plan.width;
    states = has_states;
  }

-- so some plan has a word of the machine's sizes
pub machine_has_plan : (M : StateTable) (codes : StateCode) (code : Code) (outputs checks : ℕ) → 0 < M.states → IsCodeOf M.states codes → IsUnorderedCode code → HasWidth code M.outputs checks → outputs ≡ M.outputs
    → 0 < outputs → outputs ≤ 64 → HasPlan (record { code = code; outputs = outputs; checks = checks; latches = codes.n; weight = codes.m }) []
machine_has_plan M codes code outputs checks some is unordered width shown low high =
    let S : WordSizes = record { code = code; outputs = outputs; checks = checks; latches = codes.n; weight = codes.m } in
    let states = map (bits_of codes.n) codes.words.words in
    let P : CodePlan = plan_with S 2 states in
    has_plan S 2 states
    (plan_well_made M P (made_plan M codes P is refl unordered shown (width_with S 2 states (subst (λ (n : ℕ). HasWidth code n checks) (sym shown) width)) refl refl refl refl) some low high)

-- the words of few states have at most 12 bits
pub most_bits : (states n m : ℕ) → states ≤ 924 → IsLeastWeight states m → n ≡ 2 * m → n ≤ 12
most_bits states n m few least half =
    let most : m ≤ 6 = least.least 6 (omega arith) (few_words few) in
    omega (arith, most, half)
  where
    few_words : states ≤ 924 → states ≤ binomial (2 * 6) 6
    few_words h = h

-- there is a word for each state
pub word_count : (states : ℕ) (codes : StateCode) → IsCodeOf states codes → length codes.words.words ≡ states
word_count states codes is =
    let fit : AreStateWords codes.n codes.m states (map (bits_of codes.n) (state_words codes.n codes.m states))
    = state_words_fit codes.n codes.m states (subst (λ n. states ≤ binomial n codes.m) (sym is.half) is.least.enough) in
    ap length is.words ∙ sym (length-map (state_words codes.n codes.m states) (bits_of codes.n)) ∙ fit.count
