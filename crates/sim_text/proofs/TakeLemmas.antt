-- Steps of a run that are taken and printed, one after the other.
use Rattle.std.proofs.Common.{◌≡◌, ℕ, ◌+◌, ◌<◌, Bool, List, [], ◌∷◌, ◌++◌, length, drop, get_or, Result, Ok, Err, IsErrAnd, refl, sym, ap, ◌∙◌, subst, append_assoc, append-nil, arith}
use Rattle.std.proofs.lemmas.List.{drop_more, drop_all}
use Rattle.tsc_bits.specs.Bits.{bits_of}
use Rattle.fault_secure.specs.Circuit.{Circuit, bit}
use Rattle.fault_secure.specs.StuckAt.{StuckAt, present}
use Rattle.fault_secure.specs.Settle.{Settles}
use Rattle.fault_secure.specs.Run.{next_state, RunsFrom}
use Rattle.fault_secure.specs.CodePlan.{CodePlan}
use Rattle.fault_sim.specs.Outcomes.{outcome_answer}
use Rattle.fault_sim.specs.declared.outcome.Outcome.{Outcome}
use Rattle.buffered_sink.specs.Output.{Output, IsPrinted, IsCut, Prints}
use Rattle.buffered_sink.proofs.PrintLemmas.{IsPrinted-nil, IsPrinted-then, IsCut-then, IsCut-more}
use Rattle.fault_sim.specs.Sim.{SimState, StepAnswer, IsStill, IsCall}
use Rattle.sim_text.specs.StepLine.{StepBits, line_of, run_lines}
use Rattle.sim_text.specs.Widths.{AreWidthsOf}
use Rattle.sim_text.specs.Printed.{answer_bits, RunsOn, lines_on, TakesTo, FailsIn, TakesOrFails}
use Rattle.sim_text.specs.Tables.{sim_at}
use Rattle.sim_text.specs.declared.widths.Widths.{Widths}
use Rattle.sim_text.proofs.LineLemmas.{answer_is}
use Rattle.sim_text.proofs.TableLemmas.{sim_start}

-- ---- runs

-- the first step of a run
record RunStep (N : Circuit) (f : StuckAt) (s : List Bool) (here : Bool) (w : List Bool) (x : List Bool) (xs vs : List (List Bool)) : Type 0 where
  first : List Bool
  later : List (List Bool)
  are : vs ≡ first ∷ later
  settles : Settles N (present here f) (bit x) (bit s) first
  runs : RunsFrom N f (next_state N (present here f) first) w xs later

run_step : (N : Circuit) (f : StuckAt) (s : List Bool) (here : Bool) (w : List Bool) (x : List Bool) (xs vs : List (List Bool)) → RunsFrom N f s (here ∷ w) (x ∷ xs) vs
    → RunStep N f s here w x xs vs
run_step N f s here w x xs [] runs = elim runs [ ]
run_step N f s here w x xs (v ∷ vs) runs = record { first = v; later = vs; are = refl; settles = runs.0; runs = runs.1 }

none_left : (N : Circuit) (f : StuckAt) (s : List Bool) (vs : List (List Bool)) → RunsFrom N f s [] [] vs → vs ≡ []
none_left N f s [] runs = refl
none_left N f s (v ∷ vs) runs = elim runs [ ]

-- ---- one step

-- what is left of a run after a step, and the lines of the run
record StepOn (widths : Widths) (old new : SimState) (rest vs : List (List Bool)) (answer : StepAnswer) : Type 0 where
  left : List (List Bool)
  runs : RunsOn new rest left
  whole : line_of old.step (answer_bits widths answer) ++ lines_on new left ≡ lines_on old vs

step_on : (widths : Widths) (old new : SimState) (x : List Bool) (rest vs : List (List Bool)) (answer : StepAnswer) → AreWidthsOf old.bench.circuit old.plan widths
    → IsCall old x answer new → RunsOn old (x ∷ rest) vs → StepOn widths old new rest vs answer
step_on widths old new x rest vs answer are call runs =
    let N = old.bench.circuit in
    let P = old.plan in
    let one = run_step N old.fault old.state _ _ x rest vs runs in
    let shown = answer_is N P widths one.first answer are (call.answers one.first one.settles) in
    let ours : line_of old.step (answer_bits widths answer) ++ run_lines N P (old.step + 1) one.later ≡ run_lines N P old.step vs
    = ap (λ (bits : StepBits). line_of old.step bits ++ run_lines N P (old.step + 1) one.later) shown ∙ ap (run_lines N P old.step) (sym one.are) in
    record {
      left = one.later;
      runs = rw (call.same.circuit, call.same.fault, call.same.when, call.step, call.state one.first one.settles) one.runs;
      whole = rw (call.same.circuit, call.same.plan, call.step) ours;
    }

module _ (widths : Widths) (old new : SimState) (x : List Bool) (rest : List (List Bool)) (answer : StepAnswer) (before after : Output)
    (are : AreWidthsOf old.bench.circuit old.plan widths) (call : IsCall old x answer new) where
  pub step_takes : IsPrinted before after (line_of old.step (answer_bits widths answer)) → TakesTo old new (x ∷ rest) rest before after
  step_takes printed vs runs =
      let on = step_on widths old new x rest vs answer are call runs in
      record { left = on.left; runs = on.runs; text = line_of old.step (answer_bits widths answer); printed = printed; whole = on.whole }

  pub step_fails : IsCut before after (line_of old.step (answer_bits widths answer)) → FailsIn old (x ∷ rest) before after
  step_fails cut vs runs =
      let on = step_on widths old new x rest vs answer are call runs in
      subst (IsCut before after) on.whole (IsCut-more (lines_on new on.left) cut)

  pub step_ends : {T E : Type 0} (result : Result T E) (number : ℕ) → number ≡ old.step → Prints result before after (line_of number (answer_bits widths answer))
      → TakesOrFails result old new (x ∷ rest) rest before after
  step_ends (Ok done) number is printed = step_takes (subst (λ (n : ℕ). IsPrinted before after (line_of n (answer_bits widths answer))) is printed)
  step_ends (Err fault) number is cut = step_fails (subst (λ (n : ℕ). IsCut before after (line_of n (answer_bits widths answer))) is cut)

-- the line of an outcome, whose width is the number of latches
module _ (N : Circuit) (P : CodePlan) (widths : Widths) (are : AreWidthsOf N P widths) (outcome : Outcome) (step : ℕ) (before after : Output) where
  pub printed_width : IsPrinted before after (line_of step (answer_bits widths (outcome_answer widths.next outcome)))
      → IsPrinted before after (line_of step (answer_bits widths (outcome_answer (length N.latches) outcome)))
  printed_width printed = subst (λ (n : ℕ). IsPrinted before after (line_of step (answer_bits widths (outcome_answer n outcome)))) are.next printed

  pub cut_width : IsCut before after (line_of step (answer_bits widths (outcome_answer widths.next outcome)))
      → IsCut before after (line_of step (answer_bits widths (outcome_answer (length N.latches) outcome)))
  cut_width cut = subst (λ (n : ℕ). IsCut before after (line_of step (answer_bits widths (outcome_answer n outcome)))) are.next cut

-- ---- steps one after the other

pub takes_none : (sim : SimState) (xs : List (List Bool)) (out : Output) → TakesTo sim sim xs xs out out
takes_none sim xs out vs runs = record { left = vs; runs = runs; text = []; printed = IsPrinted-nil out; whole = refl }

pub takes_on : (a b c : SimState) (xs ys zs : List (List Bool)) (before mid after : Output) → TakesTo a b xs ys before mid → TakesTo b c ys zs mid after
    → TakesTo a c xs zs before after
takes_on a b c xs ys zs before mid after first later vs runs =
    let p = first vs runs in
    let q = later p.left p.runs in
    record {
      left = q.left;
      runs = q.runs;
      text = p.text ++ q.text;
      printed = IsPrinted-then p.printed q.printed;
      whole = append_assoc p.text q.text (lines_on c q.left) ∙ (ap (λ (text : List ℕ). p.text ++ text) q.whole ∙ p.whole);
    }

pub fails_on : (a b : SimState) (xs ys : List (List Bool)) (before mid after : Output) → TakesTo a b xs ys before mid → FailsIn b ys mid after → FailsIn a xs before after
fails_on a b xs ys before mid after first later vs runs =
    let p = first vs runs in
    subst (IsCut before after) p.whole (IsCut-then p.printed (later p.left p.runs))

-- at the first step
pub takes_start : (sim : SimState) (state : ℕ) (xs : List (List Bool)) (out : Output) → sim.step ≡ 0 → bits_of (length sim.bench.circuit.latches) state ≡ sim.state
    → TakesTo sim (sim_at sim 0 state) xs xs out out
takes_start sim state xs out first bits =
    subst (λ (s : SimState). TakesTo sim s xs xs out out) (sym (sim_start sim state first bits)) (takes_none sim xs out)

-- one more step
pub next_left : (xs : List (List Bool)) (i : ℕ) (x : List Bool) → i < length xs → x ≡ get_or xs i [] → drop i xs ≡ x ∷ drop (i + 1) xs
next_left xs i x inside is = drop_more xs i [] inside ∙ ap (λ (y : List Bool). y ∷ drop (i + 1) xs) (sym is)

module _ (first now next : SimState) (xs left later : List (List Bool)) (x : List Bool) (before mid after : Output) (are : left ≡ x ∷ later)
    (took : TakesTo first now xs left before mid) where
  took_here : TakesTo first now xs (x ∷ later) before mid
  took_here = subst (λ (ys : List (List Bool)). TakesTo first now xs ys before mid) are took

  pub takes_more : TakesTo now next (x ∷ later) later mid after → TakesTo first next xs later before after
  takes_more one = takes_on first now next xs (x ∷ later) later before mid after took_here one

  pub fails_more : FailsIn now (x ∷ later) mid after → FailsIn first xs before after
  fails_more one = fails_on first now xs (x ∷ later) before mid after took_here one

-- nothing is left
pub takes_all : (a b : SimState) (xs : List (List Bool)) (before after : Output) → TakesTo a b xs [] before after → (vs : List (List Bool)) → RunsOn a xs vs
    → IsPrinted before after (lines_on a vs)
takes_all a b xs before after takes vs runs =
    let p = takes vs runs in
    let none : p.left ≡ [] = none_left b.bench.circuit b.fault b.state p.left p.runs in
    subst (IsPrinted before after) (sym (append-nil p.text) ∙ (ap (λ (left : List (List Bool)). p.text ++ lines_on b left) (sym none) ∙ p.whole)) p.printed

pub takes_ends : (a b : SimState) (xs left : List (List Bool)) (before after : Output) → left ≡ [] → TakesTo a b xs left before after → (vs : List (List Bool)) → RunsOn a xs vs
    → IsPrinted before after (lines_on a vs)
takes_ends a b xs left before after none takes =
    takes_all a b xs before after (subst (λ (ys : List (List Bool)). TakesTo a b xs ys before after) none takes)

-- the exit of a `?`
pub exits_steps : {T E : Type 0} (Q : E → Type 0) (result : Result T E) (first now : SimState) (xs rest : List (List Bool)) (before after : Output) → IsErrAnd result Q
    → FailsIn first xs before after → TakesOrFails result first now xs rest before after
exits_steps Q (Ok done) first now xs rest before after err fails = absurd err
exits_steps Q (Err fault) first now xs rest before after err fails = fails

-- ---- the steps of a batch

pub takes_none_at : (sim : SimState) (first : ℕ) (xs : List (List Bool)) (out : Output) → TakesTo (sim_at sim first 0) (sim_at sim (first + 0) 0) xs xs out out
takes_none_at sim first xs out =
    let same : first ≡ first + 0 = omega arith in
    subst (λ (n : ℕ). TakesTo (sim_at sim first 0) (sim_at sim n 0) xs xs out out) same (takes_none (sim_at sim first 0) xs out)

pub takes_whole : (first sim : SimState) (at place : ℕ) (ys rest : List (List Bool)) (before after : Output) → place ≡ length ys
    → TakesTo first (sim_at sim (at + place) 0) (ys ++ rest) (drop place ys ++ rest) before after → TakesTo first (sim_at sim (at + length ys) 0) (ys ++ rest) rest before after
takes_whole first sim at place ys rest before after all takes =
    let none : drop place ys ≡ [] = drop_all place ys (omega arith) in
    let P : List (List Bool) → Type 0 = λ left. TakesTo first (sim_at sim (at + place) 0) (ys ++ rest) (left ++ rest) before after in
    let Q : ℕ → Type 0 = λ n. TakesTo first (sim_at sim (at + n) 0) (ys ++ rest) rest before after in
    subst Q all (subst P none takes)

-- ---- simulations that stand

module _ (old new : SimState) (j k s t : ℕ) (xs rest : List (List Bool)) (before after : Output) (still : IsStill old new) where
  pub takes_still : TakesTo (sim_at new j s) (sim_at new k t) xs rest before after → TakesTo (sim_at old j s) (sim_at old k t) xs rest before after
  takes_still takes vs runs =
      let p = takes vs (rw (still.same.circuit, still.same.fault, still.same.when) runs) in
      record {
        left = p.left;
        runs = rw (still.same.circuit, still.same.fault, still.same.when) at p.runs;
        text = p.text;
        printed = p.printed;
        whole = rw (still.same.circuit, still.same.plan) at p.whole;
      }

  pub fails_still : FailsIn (sim_at new j s) xs before after → FailsIn (sim_at old j s) xs before after
  fails_still fails vs runs =
      let p : IsCut before after (lines_on (sim_at new j s) vs) = fails vs (rw (still.same.circuit, still.same.fault, still.same.when) runs) in
      rw (still.same.circuit, still.same.plan) at p

-- a batch after the steps before it
module _ (initial sim : SimState) (first n : ℕ) (xs ys : List (List Bool)) (before mid after : Output) (still : IsStill initial sim)
    (are : drop first xs ≡ ys ++ drop (first + length ys) xs) (took : TakesTo initial (sim_at initial first 0) xs (drop first xs) before mid) where
  pub batch_takes : n ≡ length ys → TakesTo (sim_at sim first 0) (sim_at sim (first + length ys) 0) (ys ++ drop (first + length ys) xs) (drop (first + length ys) xs) mid after
      → TakesTo initial (sim_at initial (first + n) 0) xs (drop (first + n) xs) before after
  batch_takes same takes =
      let P : List (List Bool) → Type 0 = λ all. TakesTo (sim_at sim first 0) (sim_at sim (first + length ys) 0) all (drop (first + length ys) xs) mid after in
      let Q : ℕ → Type 0 = λ k. TakesTo initial (sim_at initial (first + k) 0) xs (drop (first + k) xs) before after in
      subst Q (sym same)
      (takes_on initial (sim_at initial first 0) (sim_at initial (first + length ys) 0) xs (drop first xs) (drop (first + length ys) xs) before mid after took
      (takes_still initial sim first (first + length ys) 0 0 (drop first xs) (drop (first + length ys) xs) mid after still (subst P (sym are) takes)))

  pub batch_fails : FailsIn (sim_at sim first 0) (ys ++ drop (first + length ys) xs) mid after → FailsIn initial xs before after
  batch_fails fails =
      let P : List (List Bool) → Type 0 = λ all. FailsIn (sim_at sim first 0) all mid after in
      fails_on initial (sim_at initial first 0) xs (drop first xs) before mid after took
      (fails_still initial sim first first 0 0 (drop first xs) (drop first xs) mid after still (subst P (sym are) fails))
