-- On a valid input, where neither the source nor the sink failed, nothing but want of memory stops what was asked for.
use Rattle.std.proofs.Common.{◌≡◌, ℕ, ◌+◌, ◌<◌, ◌≤◌, List, length, length-append, Option, None, Some, IfSome, refl, subst, sym, ap, ◌∙◌, inl, inr, arith}
use Rattle.std.specs.Prelude.{IsSome}
use Rattle.std.specs.Option.{unwrap_or}
use Rattle.std.specs.Io.KnownBytes.{Consumes}
use Rattle.tsc_io.specs.Counts.{Rose}
use Rattle.tsc_io.specs.Reading.{CameMore}
use Rattle.commands.specs.declared.command.Command.{Command}
use Rattle.refusals.specs.declared.limit.OwnLimit.{OwnLimit}
use Rattle.refusals.specs.declared.refusal.Refusal.{Refusal}
use Rattle.refusals.specs.declared.refusal.Refusal.TheVariants.{Usage as NoMeaning, ReadFault as CannotRead, WriteFault as CannotWrite, Memory as NoMemory, TooLong, Text, Beyond}
use Rattle.refusals.specs.declared.text_refusal.TextRefusal.{TextRefusal}
use Rattle.commands.specs.declared.request.Request.{Request}
use Rattle.commands.specs.declared.request.Request.TheVariants.{Read, Make, Help}
use Rattle.refusals.specs.declared.status.Status.{Status}
use Rattle.refusals.specs.declared.status.Status.TheVariants.{Memory}
use Rattle.commands.specs.Meaning.{meaning}
use Rattle.answers.specs.Commands.{PassesLimit, refusal_of}
use Rattle.netlist_answers.specs.Devices.{Devices, IsRead, SinkCall, SourceCall}
use Rattle.tsc_tool.specs.Cause.{HasValid, IsBeyondLimit, IsComplete, IsRefusedText, IsTooLong, Stops, StopsHelp, StopsMake, StopsRequest, TellsValid, Tells}

-- the refusal is want of memory
abbrev IsMemory : Refusal → Type 0
IsMemory (NoMemory error) = Unit {0}
IsMemory _ = ⊥

-- what was read of a source that tells a text is that text
same_text : (source : SourceCall) (text read : List ℕ) → source.left ≡ Some text → IsRead source read → read ≡ text
same_text source text read tells is = let P : Option (List ℕ) → Type 0 = λ left. IfSome left (λ l. read ≡ l) in subst P tells is.all

not_both : (refusal : Option TextRefusal) (given : TextRefusal) → refusal ≡ None → refusal ≡ Some given → ⊥
not_both None given none some = cc
not_both (Some other) given none some = cc

-- no more bytes came than a text has
longer : (text came : List ℕ) (after : Option (List ℕ)) → length text ≤ 67108864 → Consumes (Some text) after came → 67108864 < length came → ⊥
longer text came None short p many = p
longer text came (Some rest) short p many = let e : length text ≡ length came + length rest = ap length p ∙ length-append came rest in omega arith

module _ (command : Command) (source : SourceCall) (valid : TellsValid command source) where
  not_refused : (given : TextRefusal) → IsRefusedText command source given → ⊥
  not_refused given refused =
      let same : refused.text ≡ valid.text = same_text source valid.text refused.text valid.tells refused.read in
      not_both (refusal_of command valid.text) given valid.allowed (subst (λ t. refusal_of command t ≡ Some given) same refused.refused)

  not_beyond : (limit : OwnLimit) → IsBeyondLimit command source limit → ⊥
  not_beyond limit beyond =
      let same : beyond.text ≡ valid.text = same_text source valid.text beyond.text valid.tells beyond.read in
      valid.within (subst (PassesLimit command) same beyond.passes)

  not_too_long : IsTooLong source → ⊥
  not_too_long long =
      let P : Option (List ℕ) → Type 0 = λ left. IsSome left → CameMore 67108864 left source.left_after in
      let more : CameMore 67108864 (Some valid.text) source.left_after = subst P valid.tells long refl in
      longer valid.text more.0 source.left_after valid.short more.1 more.2

  module _ (sink : SinkCall) (whole : Rose source.faults source.faults_after → ⊥) (taken : Rose sink.faults sink.faults_after → ⊥) where
    memory_alone : (refusal : Refusal) → Stops command source sink refusal → IsMemory refusal
    memory_alone NoMeaning stops = stops.because
    memory_alone CannotRead stops = whole stops.because
    memory_alone CannotWrite stops = taken stops.gained.rose
    memory_alone (NoMemory error) stops = tt
    memory_alone TooLong stops = not_too_long stops.because
    memory_alone (Text refusal) stops = not_refused refusal stops.because
    memory_alone (Beyond limit) stops = not_beyond limit stops.because

-- the same of what reads nothing
made_memory : (number : ℕ) (sink : SinkCall) (refusal : Refusal) → (Rose sink.faults sink.faults_after → ⊥) → StopsMake number sink refusal → IsMemory refusal
made_memory number sink CannotWrite taken stops = taken stops.rose
made_memory number sink (NoMemory error) taken stops = tt
made_memory number sink refusal taken stops = absurd stops

help_memory : (sink : SinkCall) (refusal : Refusal) → (Rose sink.faults sink.faults_after → ⊥) → StopsHelp sink refusal → IsMemory refusal
help_memory sink CannotWrite taken stops = taken stops.rose
help_memory sink refusal taken stops = absurd stops

memory_stops : (request : Request) (source : SourceCall) (sink : SinkCall) (refusal : Refusal) → HasValid request source
    → (Rose source.faults source.faults_after → ⊥) → (Rose sink.faults sink.faults_after → ⊥) → StopsRequest request source sink refusal → IsMemory refusal
memory_stops (Read command) source sink refusal valid whole taken stops = memory_alone command source valid sink whole taken refusal stops
memory_stops (Make number) source sink refusal valid whole taken stops = made_memory number sink refusal taken stops.1
memory_stops Help source sink refusal valid whole taken stops = help_memory sink refusal taken stops.1

-- and it is told as that
told_memory : (refusal : Refusal) (notes : SinkCall) (status : Status) → IsMemory refusal → Tells refusal notes status → status ≡ Memory
told_memory (NoMemory error) notes status is (inl told) = sym told.has_status
told_memory (NoMemory error) notes status is (inr short) = sym short.1.has_status
told_memory refusal notes status is told = absurd is

pub stopped_complete : (words : List (List ℕ)) (devices : Devices) (request : Request) (refusal : Refusal) (status : Status)
    → meaning words ≡ Some request → StopsRequest request devices.source devices.sink refusal → Tells refusal devices.notes status
    → IsComplete words devices status
stopped_complete words devices request refusal status meant stops told valid whole taken =
    let same : valid.request ≡ request = ap (λ r. unwrap_or r request) (sym valid.meant ∙ meant) in
    let there : HasValid request devices.source = subst (λ r. HasValid r devices.source) same valid.valid in
    inr (inr (told_memory refusal devices.notes status (memory_stops request devices.source devices.sink refusal there whole taken stops) told))
