-- The lines that are written, and those of a run.
use Rattle.std.proofs.Common.{◌≡◌, ℕ, suc, ◌+◌, ◌-◌, ◌<◌, Bool, List, [], ◌∷◌, codes, length, map, take, Result, Ok, Err, refl, sym, ap, ap₂, ◌∙◌, subst, arith}
use Rattle.std.proofs.lemmas.List.{length-map}
use Rattle.tsc_bits.specs.Bits.{bit_worth, bits_of}
use Rattle.tsc_bits.proofs.Bits.{bits_of-binary}
use Rattle.fault_secure.specs.Circuit.{Circuit, bit}
use Rattle.fault_secure.specs.StuckAt.{StuckAt}
use Rattle.fault_secure.specs.Settle.{Acyclic}
use Rattle.fault_secure.specs.Run.{init_state, RunsFrom, HasOneRun}
use Rattle.fault_secure.specs.CodePlan.{CodePlan, next_nets}
use Rattle.fault_secure.proofs.OneRun.{one_run}
use Rattle.buffered_sink.specs.Output.{Output}
use Rattle.tsc_net.specs.declared.when.Span.{Span}
use Rattle.fault_sim.specs.Sim.{SimState, StepAnswer, number_at, IsAnswerOf, IsOpened}
use Rattle.fault_sim.specs.Calls.{steps_held}
use Rattle.fault_sim.proofs.RunLemmas.{length-steps_held}
use Rattle.sim_text.specs.StepLine.{digit, bits_word, word_width, step_bits, run_lines}
use Rattle.sim_text.specs.Widths.{AreWidthsOf}
use Rattle.sim_text.specs.Printed.{answer_bits, IsRunText, Ends, RunEnds, RunsOn, RunsEnd, lines_on}
use Rattle.sim_text.specs.declared.run_error.RunError.{RunError}
use Rattle.sim_text.specs.declared.run_error.RunError.TheVariants.{NotListed, Memory, WriteFault}
use Rattle.sim_text.specs.declared.widths.Widths.{Widths}

-- ---- bits

pub no_bits : (n x : ℕ) → n ≡ 0 → bits_word (bits_of n x) ≡ codes "."
no_bits n x none = ap (λ k. bits_word (bits_of k x)) none

some_of : (n x : ℕ) → bits_word (bits_of (suc n) x) ≡ map digit (bits_of (suc n) x)
some_of n x = refl

pub some_bits : (n x : ℕ) → 0 < n → bits_word (bits_of n x) ≡ map digit (bits_of n x)
some_bits n x some =
    let e : n ≡ suc (n - 1) = omega arith in
    ap (λ k. bits_word (bits_of k x)) e ∙ (some_of (n - 1) x ∙ ap (λ k. map digit (bits_of k x)) (sym e))

-- the word of no bits, and how many characters it has
pub word_of_none : (bits : List Bool) → length bits ≡ 0 → bits_word bits ≡ codes "."
word_of_none [] none = refl
word_of_none (b ∷ bits) none = absurd (omega arith)

pub width_of_none : (bits : List Bool) → length bits ≡ 0 → word_width (length bits) ≡ 1
width_of_none bits none = ap word_width none

pub bits_more : (n place x : ℕ) → place < n → bits_of (n - place) x ≡ bit_worth (n - 1 - place) x ∷ bits_of (n - (place + 1)) x
bits_more n place x below =
    let e : n - place ≡ suc (n - (place + 1)) = omega arith in
    let k : n - (place + 1) ≡ n - 1 - place = omega arith in
    ap (λ j. bits_of j x) e ∙ ap (λ j. bit_worth j x ∷ bits_of (n - (place + 1)) x) k

-- ---- what is shown of a valuation

bits_back : (bits : ℕ → Bool) (nets : List ℕ) (n number : ℕ) → n ≡ length nets → number ≡ number_at bits nets → bits_of n number ≡ map bits nets
bits_back bits nets n number sized is = ap₂ bits_of (sized ∙ sym (length-map nets bits)) is ∙ bits_of-binary (map bits nets)

pub answer_is : (N : Circuit) (P : CodePlan) (widths : Widths) (v : List Bool) (answer : StepAnswer) → AreWidthsOf N P widths → IsAnswerOf N P (bit v) answer
    → answer_bits widths answer ≡ step_bits N P v
answer_is N P widths v answer are shows =
    let view = answer.view in
    let outputs = bits_back (bit v) (take P.outputs N.outputs) widths.outputs view.outputs are.outputs shows.view.outputs in
    let checks = bits_back (bit v) P.checks widths.checks view.checks are.checks shows.view.checks in
    ap₂ (λ (a b : List Bool). record { outputs = a; checks = b; next = answer.next; rail1 = view.rail1; rail2 = view.rail2 }) outputs checks
    ∙ (ap (λ (c : List Bool). record { outputs = map (bit v) (take P.outputs N.outputs); checks = map (bit v) P.checks; next = c; rail1 = view.rail1; rail2 = view.rail2 }) shows.next
    ∙ ap₂ (λ (a b : Bool). record { outputs = map (bit v) (take P.outputs N.outputs); checks = map (bit v) P.checks; next = map (bit v) (next_nets N); rail1 = a; rail2 = b }) shows.view.rail1 shows.view.rail2)

-- ---- the text of a run

the_run : (N : Circuit) (f : StuckAt) (spans : List Span) (xs : List (List Bool)) → Acyclic N → HasOneRun N f (steps_held spans 0 xs) xs
the_run N f spans xs acyclic = one_run N f (steps_held spans 0 xs) xs acyclic (length-steps_held spans 0 xs)

-- the text of the one run, where nothing of it was printed, or all, or some
text_ends : {T : Type 0} (N : Circuit) (P : CodePlan) (f : StuckAt) (spans : List Span) (xs : List (List Bool)) (before after : Output) (acyclic : Acyclic N) (result : Result T RunError)
    → Ends result before after (run_lines N P 0 (the_run N f spans xs acyclic).run) → RunEnds N P f spans xs result before after
text_ends N P f spans xs before after acyclic result ends =
    (run_lines N P 0 (the_run N f spans xs acyclic).run, record { one = the_run N f spans xs acyclic; lines = refl }, ends)

-- there is a run, of which nothing was printed
pub untouched : (N : Circuit) (P : CodePlan) (f : StuckAt) (spans : List Span) (xs : List (List Bool)) (state : Output) → Acyclic N
    → (text : List ℕ) × IsRunText N P f spans xs text × (state ≡ state)
untouched N P f spans xs state acyclic =
    (run_lines N P 0 (the_run N f spans xs acyclic).run, record { one = the_run N f spans xs acyclic; lines = refl }, refl)

-- a simulation that was just opened
module _ (N : Circuit) (P : CodePlan) (f : StuckAt) (spans : List Span) (sim : SimState) (xs : List (List Bool)) (acyclic : Acyclic N) (opened : IsOpened N P f spans sim) where
  runs_on : (vs : List (List Bool)) → RunsFrom N f (init_state N) (steps_held spans 0 xs) xs vs → RunsOn sim xs vs
  runs_on vs runs = rw (opened.circuit, opened.fault, opened.when, opened.step, opened.state) runs

  lines_are : (vs : List (List Bool)) → lines_on sim vs ≡ run_lines N P 0 vs
  lines_are vs = rw (opened.circuit, opened.plan, opened.step) refl

  so_ends : {T : Type 0} (before after : Output) (result : Result T RunError) → ((vs : List (List Bool)) → RunsOn sim xs vs → Ends result before after (lines_on sim vs))
      → RunEnds N P f spans xs result before after
  so_ends before after result ends =
      let one = the_run N f spans xs acyclic in
      text_ends N P f spans xs before after acyclic result (subst (Ends result before after) (lines_are one.run) (ends one.run (runs_on one.run one.runs)))

  pub run_ends : {T : Type 0} (before after : Output) (result : Result T RunError) → RunsEnd result sim xs before after → RunEnds N P f spans xs result before after
  run_ends {T} before after (Ok done) ends = so_ends {T = T} before after (Ok done) ends
  run_ends {T} before after (Err NotListed) ends = absurd ends
  run_ends {T} before after (Err (Memory error)) ends = so_ends {T = T} before after (Err (Memory error)) ends
  run_ends {T} before after (Err WriteFault) ends = so_ends {T = T} before after (Err WriteFault) ends
