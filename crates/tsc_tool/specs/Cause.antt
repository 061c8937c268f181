-- What each status of a run means, of the words and of the devices.
use Rattle.std.specs.Prelude.{◌≡◌, ◌⊎◌, ℕ, ◌≤◌, true, List, length, None, Some, IsSome, alloc_error}
use Rattle.tsc_io.specs.Counts.{Rose}
use Rattle.tsc_io.specs.Reading.{CameMore}
use Rattle.commands.specs.declared.command.Command.{Command}
use Rattle.refusals.specs.declared.ending.Ending.{Ending}
use Rattle.refusals.specs.declared.ending.Ending.TheVariants.{Finished, Rejected}
use Rattle.refusals.specs.declared.limit.OwnLimit.{OwnLimit}
use Rattle.refusals.specs.declared.refusal.Refusal.{Refusal}
use Rattle.refusals.specs.declared.refusal.Refusal.TheVariants.{Usage as NoMeaning, ReadFault as CannotRead, WriteFault as CannotWrite, Memory as NoMemory, TooLong, Text, Beyond}
use Rattle.refusals.specs.declared.text_refusal.TextRefusal.{TextRefusal}
use Rattle.refusals.specs.declared.status.Status.{Status}
use Rattle.refusals.specs.declared.status.Status.TheVariants.{Done, AuditNo, Usage, BadInput, Limit, ReadFault, WriteFault, Memory}
use Rattle.commands.specs.declared.request.Request.{Request}
use Rattle.commands.specs.declared.request.Request.TheVariants.{Read, Make, Help}
use Rattle.made_report.specs.Made.{made_report}
use Rattle.tsc_tool.specs.Help.{help_text}
use Rattle.commands.specs.Meaning.{meaning}
use Rattle.refusals.specs.Notes.{IsOfText, note_of}
use Rattle.commands.specs.SimWords.{has_fault_form}
use Rattle.refusals.specs.StatusOf.{status_of}
use Rattle.answers.specs.Commands.{IsReply, own_limit, PassesLimit, refusal_of}
use Rattle.netlist_answers.specs.Devices.{SourceCall, SinkCall, Devices, IsRead, IsUntouched, Gains, GainsNothing, GainsPrefix, IsTold}

-- the command read a text that nothing refuses, and this is its answer, with which it ends so
pub record IsAnswered (ending : Ending) (command : Command) (source : SourceCall) (answer : List ℕ) : Type 0 where
  pub text : List ℕ
  pub read : IsRead source text
  pub allowed : refusal_of command text ≡ None
  pub answers : IsReply ending command text answer

-- the command read a text that is refused by this
pub record IsRefusedText (command : Command) (source : SourceCall) (refusal : TextRefusal) : Type 0 where
  pub text : List ℕ
  pub read : IsRead source text
  pub refused : refusal_of command text ≡ Some refusal

-- the command read a text that nothing refuses, and that passes the limit of the command, which is this
pub record IsBeyondLimit (command : Command) (source : SourceCall) (limit : OwnLimit) : Type 0 where
  pub its_own : own_limit command ≡ Some limit
  pub text : List ℕ
  pub read : IsRead source text
  pub allowed : refusal_of command text ≡ None
  pub passes : PassesLimit command text

-- more bytes came than are read, where the source tells its bytes
abbrev pub IsTooLong : SourceCall → Type 0
IsTooLong source = IsSome source.left → CameMore 67108864 source.left source.left_after

-- why a command has no answer
abbrev pub HasNoAnswer : Command → SourceCall → Refusal → Type 0
HasNoAnswer command source NoMeaning = ⊥
HasNoAnswer command source CannotRead = Rose source.faults source.faults_after
HasNoAnswer command source CannotWrite = ⊥
HasNoAnswer command source (NoMemory error) = Unit {0}
HasNoAnswer command source TooLong = IsTooLong source
HasNoAnswer command source (Text refusal) = IsRefusedText command source refusal
HasNoAnswer command source (Beyond limit) = IsBeyondLimit command source limit

-- the command had an answer, but the sink failed before it took it whole
pub record IsUnwritten (command : Command) (source : SourceCall) (sink : SinkCall) : Type 0 where
  pub ending : Ending
  pub answer : List ℕ
  pub answered : IsAnswered ending command source answer
  pub gained : GainsPrefix sink answer

-- the command had no answer, and the sink gained nothing
pub record IsUnanswered (command : Command) (source : SourceCall) (sink : SinkCall) (refusal : Refusal) : Type 0 where
  pub because : HasNoAnswer command source refusal
  pub nothing : GainsNothing sink

-- why the answer of a command was not written
abbrev pub Stops : Command → SourceCall → SinkCall → Refusal → Type 0
Stops command source sink CannotWrite = IsUnwritten command source sink
Stops command source sink refusal = IsUnanswered command source sink refusal

-- the sink gained the answer of a command, with which it ends so
pub record IsPerformed (ending : Ending) (command : Command) (source : SourceCall) (sink : SinkCall) : Type 0 where
  pub answer : List ℕ
  pub answered : IsAnswered ending command source answer
  pub gained : Gains sink answer

-- nothing was read, and the sink gained this answer, with which the request finished
pub record IsToldUnread (ending : Ending) (source : SourceCall) (sink : SinkCall) (answer : List ℕ) : Type 0 where
  pub finished : ending ≡ Finished
  pub unread : IsUntouched source
  pub gained : Gains sink answer

-- what was asked for was done, with this ending
abbrev pub IsFulfilled : Ending → Request → SourceCall → SinkCall → Type 0
IsFulfilled ending (Read command) source sink = IsPerformed ending command source sink
IsFulfilled ending (Make number) source sink = IsToldUnread ending source sink (made_report number)
IsFulfilled ending Help source sink = IsToldUnread ending source sink help_text

-- why the answer to `make` was not written: the sink failed, or memory was missing
abbrev pub StopsMake : ℕ → SinkCall → Refusal → Type 0
StopsMake number sink CannotWrite = GainsPrefix sink (made_report number)
StopsMake number sink (NoMemory error) = GainsNothing sink
StopsMake number sink refusal = ⊥

-- why that to `help` was not written: the sink failed
abbrev pub StopsHelp : SinkCall → Refusal → Type 0
StopsHelp sink CannotWrite = GainsPrefix sink help_text
StopsHelp sink refusal = ⊥

-- why what was asked for was not done
abbrev pub StopsRequest : Request → SourceCall → SinkCall → Refusal → Type 0
StopsRequest (Read command) source sink refusal = Stops command source sink refusal
StopsRequest (Make number) source sink refusal = IsUntouched source × StopsMake number sink refusal
StopsRequest Help source sink refusal = IsUntouched source × StopsHelp sink refusal

-- a run ends with the status of the refusal, and its note was told
pub record IsToldAs (refusal : Refusal) (notes : SinkCall) (status : Status) : Type 0 where
  pub has_status : status_of refusal ≡ status
  pub told : IsTold notes (note_of refusal)

-- a refusal is told as itself, or as want of memory where that was missing for its note
abbrev pub Tells : Refusal → SinkCall → Status → Type 0
Tells refusal notes status = IsToldAs refusal notes status ⊎ (IsOfText refusal × IsToldAs (NoMemory alloc_error) notes status)

-- done, with this ending: the words have a meaning, the sink gained the answer, and the notes gained nothing
pub record IsDone (ending : Ending) (words : List (List ℕ)) (devices : Devices) : Type 0 where
  pub request : Request
  pub meant : meaning words ≡ Some request
  pub fulfilled : IsFulfilled ending request devices.source devices.sink
  pub quiet : GainsNothing devices.notes

-- the words have no meaning: nothing was read, nothing was written, and the notes tell it
pub record IsMeaningless (words : List (List ℕ)) (devices : Devices) : Type 0 where
  pub meaningless : meaning words ≡ None
  pub unread : IsUntouched devices.source
  pub nothing : GainsNothing devices.sink
  pub told : IsTold devices.notes (note_of NoMeaning)

-- memory was missing for the words themselves, which have the form of a simulation with a fault: nothing was read, nothing was written,
-- and the notes tell it
pub record IsUnheard (words : List (List ℕ)) (devices : Devices) : Type 0 where
  pub form : has_fault_form words ≡ true
  pub unread : IsUntouched devices.source
  pub nothing : GainsNothing devices.sink
  pub told : IsTold devices.notes (note_of (NoMemory alloc_error))

-- the words have a meaning, but a refusal with this status stopped what they ask for, and the notes tell it
pub record IsRefused (words : List (List ℕ)) (devices : Devices) (status : Status) : Type 0 where
  pub request : Request
  pub meant : meaning words ≡ Some request
  pub refusal : Refusal
  pub stops : StopsRequest request devices.source devices.sink refusal
  pub told : IsToldAs refusal devices.notes status

-- what each status means
abbrev pub Cause : List (List ℕ) → Devices → Status → Type 0
Cause words devices Done = IsDone Finished words devices
Cause words devices AuditNo = IsDone Rejected words devices
Cause words devices Usage = IsMeaningless words devices
Cause words devices BadInput = IsRefused words devices BadInput
Cause words devices Limit = IsRefused words devices Limit
Cause words devices ReadFault = IsRefused words devices ReadFault
Cause words devices WriteFault = IsRefused words devices WriteFault
Cause words devices Memory = IsRefused words devices Memory ⊎ IsUnheard words devices

-- the source tells a text that is valid for the command: nothing refuses it, and it passes no limit
pub record TellsValid (command : Command) (source : SourceCall) : Type 0 where
  pub text : List ℕ
  pub tells : source.left ≡ Some text
  pub short : length text ≤ 67108864
  pub allowed : refusal_of command text ≡ None
  pub within : PassesLimit command text → ⊥

-- what is read is valid, where something is read
abbrev pub HasValid : Request → SourceCall → Type 0
HasValid (Read command) source = TellsValid command source
HasValid (Make number) source = Unit {0}
HasValid Help source = Unit {0}

-- the words have a meaning, and what is read for it is valid
pub record IsValid (words : List (List ℕ)) (source : SourceCall) : Type 0 where
  pub request : Request
  pub meant : meaning words ≡ Some request
  pub valid : HasValid request source

-- a valid input is not refused: where neither the source nor the sink failed, the run is done, a no too, or memory was missing
abbrev pub IsComplete : List (List ℕ) → Devices → Status → Type 0
IsComplete words devices status =
    IsValid words devices.source
    → (Rose devices.source.faults devices.source.faults_after → ⊥) → (Rose devices.sink.faults devices.sink.faults_after → ⊥)
    → (status ≡ Done) ⊎ ((status ≡ AuditNo) ⊎ (status ≡ Memory))
