-- A machine's netlist with its checker has sound structure and follows its machine.
use Rattle.std.proofs.Common.{◌≡◌, ℕ, ◌+◌, ◌*◌, ◌<◌, ◌≤◌, Bool, false, List, [], ◌++◌, map, take, drop, length, slice_index_or, Some, inl, inr, refl, sym, ◌∙◌, ap, subst, arith, length-append, length-take-le}
use Rattle.std.proofs.lemmas.List.{length-map, map-append, get_or-map, ext_get_or, append_assoc}
use Rattle.std.proofs.lemmas.List.Elements.{All-get_or}
use Rattle.std.proofs.lemmas.List.FromFn.{length-map-range_with_len, get_or-map-range_with_len}
use Rattle.tsc_bits.specs.Bits.{bits_of}
use Rattle.tsc_bits.specs.Counting.{ones}
use Rattle.tsc_bits.proofs.Lists.{front, back}
use Rattle.fault_secure.specs.Circuit.{Circuit, bit}
use Rattle.mofn_code.specs.CheckBits.{check_bits}
use Rattle.fault_secure.specs.StuckAt.StuckAt.{NoFault}
use Rattle.fault_secure.specs.Closed.{IsClosed}
use Rattle.fault_secure.specs.Settle.{Settles, Acyclic}
use Rattle.fault_secure.specs.Run.{init_state}
use Rattle.fault_secure.specs.CodePlan.{CodePlan, next_nets, monitored, word, next_of, IsChecked, IsWellMade, IsPlanOf, IsCodeword}
use Rattle.fault_secure.specs.Logic.{StateTable, answering, outputs_of_rows, next_of_rows, IsStateTable}
use Rattle.fault_secure.specs.Logic.Logic.{States}
use Rattle.fault_secure.specs.FaultSecure.{state_at, next_in, outputs_in, StepFollows}
use Rattle.fault_secure.specs.Behaviour.{FollowsSource}
use Rattle.gate_net.specs.Signal.{values}
use Rattle.gate_net.proofs.Realised.{all_values}
use Rattle.code_checkers.specs.Block.{RailsRealise}
use Rattle.code_checkers.specs.SelfChecking.{IsSelfChecking}
use Rattle.state_code.specs.Words.{binomial, AreStateWords}
use Rattle.state_code.proofs.Weights.{state_words_fit}
use Rattle.state_code.proofs.Codewords.{selected_at}
use Rattle.machine_lines.specs.MachineLines.{answer_word, bits_of_states}
use Rattle.unate_synth.proofs.StatedChecks.{checks_sized, stated_checked}
use Rattle.unate_synth.proofs.UnateJoin.{unate_structure}
use Rattle.machine_synth.specs.MachineFunction.{words_of, chosen_bit, IsMachinePlan, IsMachineFunction}
use Rattle.machine_synth.proofs.StateWords.{held_word, word_held}
use Rattle.machine_synth.proofs.Answers.{answer_outputs, answer_next, answer_sized}

-- the words of a machine's plan
module _ (M : StateTable) (P : CodePlan) (plan : IsMachinePlan M P) where
  pub words_fit : AreStateWords P.latches P.weight M.states (map (bits_of P.latches) (words_of M P))
  words_fit = state_words_fit P.latches P.weight M.states (subst (λ n. M.states ≤ binomial n P.weight) (sym plan.half) plan.least.enough)

  pub word_count : length (words_of M P) ≡ M.states
  word_count = sym (length-map (words_of M P) (bits_of P.latches)) ∙ words_fit.count

  -- the plan has as many state words as the machine has states
  pub state_count : length P.states ≡ M.states
  state_count = ap length plan.states ∙ words_fit.count

  pub word_at : (q : ℕ) → q < M.states → slice_index_or P.states q [] ≡ bits_of P.latches (slice_index_or (words_of M P) q 0)
  word_at q low = ap (λ (l : List (List Bool)). slice_index_or l q []) plan.states ∙ get_or-map (bits_of P.latches) (words_of M P) q 0 [] (omega (arith, word_count))

  -- on the word of a state the chosen bit is that of its answer
  pub chosen_here : (x : List Bool) (q place : ℕ) → q < M.states
      → chosen_bit M P x (bit (bits_of P.latches (slice_index_or (words_of M P) q 0))) place ≡ bit (answer_word P.code (length P.checks) P.latches (words_of M P) M x q) place
  chosen_here x q place low =
      let f : ℕ → Bool = λ k. bit (answer_word P.code (length P.checks) P.latches (words_of M P) M x k) place in
      selected_at P.latches P.weight (words_of M P) (subst (λ n. AreStateWords P.latches P.weight n (map (bits_of P.latches) (words_of M P))) (sym word_count) words_fit)
      (bits_of_states P.code (length P.checks) P.latches (words_of M P) M x place) q
      (length-map-range_with_len f 0 M.states ∙ sym word_count) (omega (arith, word_count))
      ∙ get_or-map-range_with_len f 0 M.states q q false low (omega arith)

module _ (M : StateTable) (N : Circuit) (P : CodePlan) (hi : ℕ) (table : IsStateTable M) (acyclic : Acyclic N) (closed : IsClosed N) (made : IsWellMade P) (plan : IsPlanOf N P)
    (f : IsMachineFunction M N P hi) (stated : RailsRealise N P) where
  latched : 0 < P.latches
  latched = let half : P.latches ≡ 2 * P.weight = f.plan.half in let some : 1 ≤ P.weight = f.plan.least.some in omega (arith, half, some)

  -- the parts of the monitored nets
  front_sized : length (take P.outputs N.outputs) ≡ P.outputs
  front_sized = let e : length N.outputs ≡ P.outputs + 2 = plan.outputs in length-take-le P.outputs N.outputs (omega arith)

  checked_sized : length (take P.outputs N.outputs ++ P.checks) ≡ P.outputs + length P.checks
  checked_sized = length-append (take P.outputs N.outputs) P.checks ∙ ap (λ n. n + length P.checks) front_sized

  monitored_sized : length (monitored N P) ≡ M.outputs + length P.checks + P.latches
  monitored_sized =
      let whole = length-append (take P.outputs N.outputs ++ P.checks) (next_nets N) in
      let next : length (next_nets N) ≡ length N.latches = length-map N.latches (λ l. l.reads) in
      omega (arith, whole, checked_sized, next, plan.latches, f.plan.outputs)

  answer : List Bool → ℕ → List Bool
  answer x q = answer_word P.code (length P.checks) P.latches (words_of M P) M x q

  -- on the word of a state each place has the bit of its answer
  word_is : (q : ℕ) (s x v : List Bool) → q < M.states → s ≡ bits_of P.latches (slice_index_or (words_of M P) q 0) → Settles N NoFault (bit x) (bit s) v → word N P v ≡ answer x q
  unfolding answer
  word_is q s x v low is settles =
      let all : word N P v ≡ values (bit x) (bit s) f.signals = all_values N hi (bit x) (bit s) v f.signals (monitored N P) settles f.stand in
      let count : length (word N P v) ≡ length (monitored N P) = length-map (monitored N P) (bit v) in
      let total = answer_sized M table q x P.code (length P.checks) P.latches (words_of M P) f.plan.code in
      let signals : length (values (bit x) (bit s) f.signals) ≡ length f.signals = length-map f.signals _ in
      ext_get_or false (word N P v) (answer_word P.code (length P.checks) P.latches (words_of M P) M x q) (omega (arith, count, total, monitored_sized))
      (λ place h.
      let within : place < length f.signals = omega (arith, h, ap length all, signals) in
      ap (λ bits. bit bits place) all ∙ f.chosen x (bit s) place within
      ∙ ap (λ (bits : List Bool). chosen_bit M P x (bit bits) place) is
      ∙ chosen_here M P f.plan x q place low)

  -- the three parts of the word
  outputs_are : (q : ℕ) (s x v : List Bool) → q < M.states → s ≡ bits_of P.latches (slice_index_or (words_of M P) q 0) → Settles N NoFault (bit x) (bit s) v
      → outputs_in N P v ≡ outputs_of_rows M (answering M q x)
  unfolding answer
  outputs_are q s x v low is settles =
      let ys : List Bool = outputs_of_rows M (answering M q x) in
      let cs : List Bool = check_bits P.code (length P.checks) ys in
      let ns : List Bool = bits_of P.latches (slice_index_or (words_of M P) (next_of_rows M (answering M q x)) 0) in
      let sized : length ys ≡ P.outputs = answer_outputs M table q x ∙ sym f.plan.outputs in
      let front_here : length (outputs_in N P v) ≡ P.outputs = length-map (take P.outputs N.outputs) (bit v) ∙ front_sized in
      sym (front P.outputs (outputs_in N P v) (map (bit v) P.checks ++ next_in N v) front_here)
      ∙ ap (take P.outputs) (sym (append_assoc (outputs_in N P v) (map (bit v) P.checks) (next_in N v)) ∙ sym (parts v) ∙ word_is q s x v low is settles ∙ append_assoc ys cs ns)
      ∙ front P.outputs ys (cs ++ ns) sized
    where
      parts : (v : List Bool) → word N P v ≡ (outputs_in N P v ++ map (bit v) P.checks) ++ next_in N v
      parts v = map-append (bit v) (take P.outputs N.outputs ++ P.checks) (next_nets N) ∙ ap (λ l. l ++ next_in N v) (map-append (bit v) (take P.outputs N.outputs) P.checks)

  next_is : (q : ℕ) (s x v : List Bool) → q < M.states → s ≡ bits_of P.latches (slice_index_or (words_of M P) q 0) → Settles N NoFault (bit x) (bit s) v
      → next_in N v ≡ bits_of P.latches (slice_index_or (words_of M P) (next_of_rows M (answering M q x)) 0)
  unfolding answer
  next_is q s x v low is settles =
      let ys : List Bool = outputs_of_rows M (answering M q x) in
      let cs : List Bool = check_bits P.code (length P.checks) ys in
      let ns : List Bool = bits_of P.latches (slice_index_or (words_of M P) (next_of_rows M (answering M q x)) 0) in
      let n : ℕ = P.outputs + length P.checks in
      let here : length (map (bit v) (take P.outputs N.outputs ++ P.checks)) ≡ n = length-map (take P.outputs N.outputs ++ P.checks) (bit v) ∙ checked_sized in
      let sized : length (ys ++ cs) ≡ n =
      omega (arith, length-append ys cs, answer_outputs M table q x, f.plan.outputs, checks_sized P.code (length P.checks) ys f.plan.code) in
      sym (back n (map (bit v) (take P.outputs N.outputs ++ P.checks)) (next_in N v) here)
      ∙ ap (drop n) (sym (map-append (bit v) (take P.outputs N.outputs ++ P.checks) (next_nets N)) ∙ word_is q s x v low is settles)
      ∙ back n (ys ++ cs) ns sized

  held : (q : ℕ) (s : List Bool) → state_at P s ≡ Some q → (q < M.states) × (s ≡ bits_of P.latches (slice_index_or (words_of M P) q 0))
  held q s at =
      let found = held_word P latched s q at in
      let low : q < M.states = omega (arith, found.0, state_count M P f.plan) in
      (low, found.1 ∙ word_at M P f.plan q low)

  arrives : (q : ℕ) (s : List Bool) → q < M.states → s ≡ bits_of P.latches (slice_index_or (words_of M P) q 0) → state_at P s ≡ Some q
  arrives q s low is = word_held P latched s q made.states.distinct (omega (arith, state_count M P f.plan)) (is ∙ sym (word_at M P f.plan q low))

  step : (q : ℕ) (s x v : List Bool) → state_at P s ≡ Some q → Settles N NoFault (bit x) (bit s) v → StepFollows (States M) N P s x v
  step q s x v at settles =
      let here = held q s at in
      let outs : outputs_in N P v ≡ outputs_of_rows M (answering M q x) = outputs_are q s x v here.0 here.1 settles in
      record {
        here = q;
        next = next_of_rows M (answering M q x);
        traced = at;
        arrives = arrives (next_of_rows M (answering M q x)) (next_in N v) (answer_next M table q x) (next_is q s x v here.0 here.1 settles);
        outputs = record { sized = ap length outs ∙ answer_outputs M table q x; each = λ place low. inr (ap (λ bits. bit bits place) outs) };
        next_allowed = inl refl;
      }

  codeword : (q : ℕ) (s x v : List Bool) → state_at P s ≡ Some q → Settles N NoFault (bit x) (bit s) v → IsCodeword P (word N P v)
  unfolding answer
  codeword q s x v at settles =
      let here = held q s at in
      let ys : List Bool = outputs_of_rows M (answering M q x) in
      let cs : List Bool = check_bits P.code (length P.checks) ys in
      let next : ℕ = next_of_rows M (answering M q x) in
      let ns : List Bool = bits_of P.latches (slice_index_or (words_of M P) next 0) in
      let is : word N P v ≡ (ys ++ cs) ++ ns = word_is q s x v here.0 here.1 settles in
      let sized : length ys ≡ P.outputs = answer_outputs M table q x ∙ sym f.plan.outputs in
      let low : next < M.states = answer_next M table q x in
      let rest : next_of P ((ys ++ cs) ++ ns) ≡ ns
      = ap (drop (length P.checks)) (ap (drop P.outputs) (append_assoc ys cs ns) ∙ back P.outputs ys (cs ++ ns) sized)
      ∙ back (length P.checks) cs ns (checks_sized P.code (length P.checks) ys f.plan.code) in
      record {
        checked = subst (IsChecked P.code P) (sym is) (stated_checked P.code P ys ns f.plan.code sized f.plan.width);
        weighed =
            ap (λ w. ones (next_of P w)) is ∙ ap ones (rest ∙ sym (word_at M P f.plan next low))
            ∙ All-get_or (λ state. ones state ≡ P.weight) P.states next [] (omega (arith, low, state_count M P f.plan)) made.states.weighed;
      }

  follows : FollowsSource (States M) N P
  follows = record {
    starts = arrives M.reset (init_state N) table.reset (f.reset ∙ word_at M P f.plan M.reset table.reset);
    steps = step;
    codewords = codeword;
  }

  pub self_checking : IsSelfChecking (States M) N P
  self_checking = record {
    structure = unate_structure N P hi f.signals acyclic closed made plan f.plan.code f.negate f.stand stated;
    rails = stated;
    follows = follows;
  }
