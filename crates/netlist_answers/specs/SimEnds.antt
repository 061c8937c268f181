-- How a simulation ends: its answer was printed, or the sink failed in it, or it was refused and nothing was printed.
use Rattle.std.specs.Prelude.{◌≡◌, ℕ, List, Option, None, Result, Ok, Err}
use Rattle.buffered_sink.specs.Output.{Output, IsPrinted, IsCut}
use Rattle.tsc_text.specs.TextLine.{TextLine}
use Rattle.tsc_text.specs.Lines.{lines_of}
use Rattle.fault_secure.specs.CodePlan.{CodePlan}
use Rattle.tsc_net.specs.NetlistOf.{NetlistOf}
use Rattle.refusals.specs.declared.refusal.Refusal.{Refusal}
use Rattle.refusals.specs.declared.text_refusal.TextRefusal.{TextRefusal}
use Rattle.refusals.specs.declared.refusal.Refusal.TheVariants.{WriteFault as CannotWrite}
use Rattle.commands.specs.declared.sim_words.SimFault.{SimFault}
use Rattle.netlist_answers.specs.Answers.{IsSimulation}
use Rattle.text_sections.specs.Refused.{IsRefusedBy}
use Rattle.netlist_answers.specs.Refused.{run_refusal, sim_lines_refusal, sim_refusal}
use Rattle.netlist_answers.specs.Simulated.{IsRunOf}

-- there is an answer, nothing is refused, and the answer was printed; or the sink failed in it; or this is refused, and nothing was printed
abbrev pub EndsWith : {T : Type 0} → (List ℕ → Type 0) → Option TextRefusal → Result T Refusal → Output → Output → Type 0
EndsWith answers refusal (Ok done) before after = (answer : List ℕ) × answers answer × (refusal ≡ None) × IsPrinted before after answer
EndsWith answers refusal (Err CannotWrite) before after = (answer : List ℕ) × answers answer × (refusal ≡ None) × IsCut before after answer
EndsWith answers refusal (Err given) before after = IsRefusedBy refusal given × (after ≡ before)

-- the run of a netlist over step lines
abbrev pub RunEnds : {T : Type 0} → SimFault → NetlistOf → CodePlan → List TextLine → Result T Refusal → Output → Output → Type 0
RunEnds fault net plan steps result before after = EndsWith (IsRunOf fault net plan steps) (run_refusal fault net steps) result before after

-- that of the netlist that lines begin with, over the step lines after it; and of the lines of a text
abbrev pub SimulationEnds : {T : Type 0} → SimFault → List TextLine → Result T Refusal → Output → Output → Type 0
SimulationEnds fault lines result before after = EndsWith (IsSimulation fault lines) (sim_lines_refusal fault lines) result before after

abbrev pub TextEnds : {T : Type 0} → SimFault → List ℕ → Result T Refusal → Output → Output → Type 0
TextEnds fault text result before after = EndsWith (IsSimulation fault (lines_of text)) (sim_refusal fault text) result before after
