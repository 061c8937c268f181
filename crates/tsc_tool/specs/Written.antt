-- How the writing of a command's answer ends, seen of the text.
use Rattle.std.specs.Prelude.{◌≡◌, ℕ, List, None, Result, Ok, Err}
use Rattle.commands.specs.declared.command.Command.{Command}
use Rattle.refusals.specs.declared.ending.Ending.{Ending}
use Rattle.refusals.specs.declared.refusal.Refusal.{Refusal}
use Rattle.refusals.specs.declared.refusal.Refusal.TheVariants.{WriteFault as CannotWrite}
use Rattle.answers.specs.Commands.{IsReply, refusal_of, StopsAt}
use Rattle.netlist_answers.specs.Devices.{SinkCall, Gains, GainsNothing, GainsPrefix}

-- a text has an answer, with which the command ends so; nothing refuses the text
pub record HasAnswer (ending : Ending) (command : Command) (text answer : List ℕ) : Type 0 where
  pub allowed : refusal_of command text ≡ None
  pub answers : IsReply ending command text answer

-- the answer of a command to a text was written; or the sink failed in it; or the command stops at the text by this, and nothing was written
abbrev pub WritesAnswer : Command → List ℕ → Result Ending Refusal → SinkCall → Type 0
WritesAnswer command text (Ok ending) sink = (answer : List ℕ) × HasAnswer ending command text answer × Gains sink answer
WritesAnswer command text (Err CannotWrite) sink = (ending : Ending) × (answer : List ℕ) × HasAnswer ending command text answer × GainsPrefix sink answer
WritesAnswer command text (Err refusal) sink = StopsAt command text refusal × GainsNothing sink
