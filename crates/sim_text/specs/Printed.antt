-- The run that a simulation is of, and what of its lines was printed.
use Rattle.std.specs.Prelude.{◌≡◌, ℕ, Bool, List, ◌++◌, Result, Ok, Err}
use Rattle.tsc_bits.specs.Bits.{bits_of}
use Rattle.fault_secure.specs.Circuit.{Circuit}
use Rattle.fault_secure.specs.StuckAt.{StuckAt}
use Rattle.fault_secure.specs.Run.{RunsFrom, HasOneRun}
use Rattle.fault_secure.specs.CodePlan.{CodePlan}
use Rattle.buffered_sink.specs.Output.{Output, IsPrinted, IsCut, Prints}
use Rattle.tsc_net.specs.declared.when.Span.{Span}
use Rattle.fault_sim.specs.Sim.{SimState, StepAnswer}
use Rattle.fault_sim.specs.Calls.{steps_held}
use Rattle.sim_text.specs.StepLine.{StepBits, run_lines}
use Rattle.sim_text.specs.declared.run_error.RunError.{RunError}
use Rattle.sim_text.specs.declared.run_error.RunError.TheVariants.{NotListed, Memory, WriteFault}
use Rattle.sim_text.specs.declared.widths.Widths.{Widths}

-- the bits of what a step answers, whose outputs and checks are numbers of these widths
abbrev pub answer_bits : Widths → StepAnswer → StepBits
answer_bits widths answer = record {
  outputs = bits_of widths.outputs answer.view.outputs;
  checks = bits_of widths.checks answer.view.checks;
  next = answer.next;
  rail1 = answer.view.rail1;
  rail2 = answer.view.rail2;
}

-- the text has the lines of the one run over the inputs xs, the fault f present at the steps of the spans
pub record IsRunText (N : Circuit) (P : CodePlan) (f : StuckAt) (spans : List Span) (xs : List (List Bool)) (text : List ℕ) : Type 0 where
  pub one : HasOneRun N f (steps_held spans 0 xs) xs
  pub lines : text ≡ run_lines N P 0 one.run

-- how a text that was to be printed ended: it was printed; or the sink failed, and has some first bytes of it; or nothing was written
abbrev pub Ends : {T : Type 0} → Result T RunError → Output → Output → List ℕ → Type 0
Ends (Ok done) before after text = IsPrinted before after text
Ends (Err WriteFault) before after text = IsCut before after text
Ends (Err NotListed) before after text = after ≡ before
Ends (Err (Memory error)) before after text = after ≡ before

-- so ended the text of the one run over the inputs xs
abbrev pub RunEnds : {T : Type 0} → Circuit → CodePlan → StuckAt → List Span → List (List Bool) → Result T RunError → Output → Output → Type 0
RunEnds N P f spans xs result before after = (text : List ℕ) × IsRunText N P f spans xs text × Ends result before after text

-- the valuations are a run over the inputs xs, from the step and the state of a simulation on
abbrev pub RunsOn : SimState → List (List Bool) → List (List Bool) → Type 0
RunsOn sim xs vs = RunsFrom sim.bench.circuit sim.fault sim.state (steps_held sim.when sim.step xs) xs vs

-- the lines of valuations, from the step of a simulation on
abbrev pub lines_on : SimState → List (List Bool) → List ℕ
lines_on sim vs = run_lines sim.bench.circuit sim.plan sim.step vs

-- so ended each run over the inputs xs; that a fault isn't listed was no reason
abbrev pub RunsEnd : {T : Type 0} → Result T RunError → SimState → List (List Bool) → Output → Output → Type 0
RunsEnd (Err NotListed) sim xs before after = ⊥
RunsEnd result sim xs before after = (vs : List (List Bool)) → RunsOn sim xs vs → Ends result before after (lines_on sim vs)

-- the lines of each run over the inputs xs were printed, or the sink failed in them
abbrev pub PrintsRuns : {T E : Type 0} → Result T E → SimState → List (List Bool) → Output → Output → Type 0
PrintsRuns result sim xs before after = (vs : List (List Bool)) → RunsOn sim xs vs → Prints result before after (lines_on sim vs)

-- the lines of steps were printed, the inputs `rest` of `xs` being left: of each run over xs, what is left runs on from there
pub record Took (first now : SimState) (xs rest vs : List (List Bool)) (before after : Output) : Type 0 where
  pub left : List (List Bool)
  pub runs : RunsOn now rest left
  pub text : List ℕ
  pub printed : IsPrinted before after text
  pub whole : text ++ lines_on now left ≡ lines_on first vs

abbrev pub TakesTo : SimState → SimState → List (List Bool) → List (List Bool) → Output → Output → Type 0
TakesTo first now xs rest before after = (vs : List (List Bool)) → RunsOn first xs vs → Took first now xs rest vs before after

-- the sink failed in the lines of the steps over the inputs xs
abbrev pub FailsIn : SimState → List (List Bool) → Output → Output → Type 0
FailsIn first xs before after = (vs : List (List Bool)) → RunsOn first xs vs → IsCut before after (lines_on first vs)

-- the lines were printed up to there, or the sink failed in them
abbrev pub TakesOrFails : {T E : Type 0} → Result T E → SimState → SimState → List (List Bool) → List (List Bool) → Output → Output → Type 0
TakesOrFails (Ok done) first now xs rest before after = TakesTo first now xs rest before after
TakesOrFails (Err fault) first now xs rest before after = FailsIn first xs before after
