-- How the writing of an answer ends, seen of the text and of the whole call.
use Rattle.std.proofs.Common.{◌≡◌, ℕ, ◌≤◌, List, [], ◌++◌, length, None, Some, Result, Ok, Err, IfOk, IfErr, refl, sym, subst, append-nil}
use Rattle.std.proofs.KnownBytes.{Keeps-refl}
use Rattle.buffered_sink.specs.Output.{Output, IsPrinted, IsCut}
use Rattle.buffered_sink.proofs.PrintLemmas.{IsPrinted-then, IsCut-then}
use Rattle.commands.specs.declared.command.Command.{Command}
use Rattle.commands.specs.declared.command.Command.TheVariants.{Sim}
use Rattle.refusals.specs.declared.ending.Ending.{Ending}
use Rattle.refusals.specs.declared.ending.Ending.TheVariants.{Finished}
use Rattle.refusals.specs.declared.refusal.Refusal.{Refusal}
use Rattle.refusals.specs.declared.refusal.Refusal.TheVariants.{WriteFault}
use Rattle.commands.specs.declared.sim_words.SimFault.{SimFault}
use Rattle.answers.specs.Commands.{IsReply, refusal_of, StopsAt}
use Rattle.tsc_tool.specs.Cause.{HasNoAnswer, IsAnswered, IsPerformed, Stops}
use Rattle.netlist_answers.specs.Devices.{Gains, GainsNothing, GainsPrefix, IsRead, SinkCall, SourceCall, source_call}
use Rattle.netlist_answers.specs.SimEnds.{TextEnds}
use Rattle.tsc_tool.specs.Written.{HasAnswer, WritesAnswer}
use Rattle.tsc_tool.proofs.CauseLemmas.{no-answer}
use Rattle.netlist_answers.proofs.PrintoutLemmas.{all_gained, call_of, part_gained}

-- nothing was printed: the sink gained nothing
nothing_gained : (before after : Output) → after ≡ before → GainsNothing (call_of before after)
nothing_gained before after same = let P : Output → Type 0 = λ o. GainsNothing (call_of before o) in subst P (sym same) (Keeps-refl before.written)

-- ---- a simulation, through a page in which nothing waited

module _ (fault : SimFault) (text : List ℕ) (before : Output) (empty : before.held ≡ []) where
  -- it was printed, and then what waited was written, or the sink failed in that
  pub sim_written : (mid after : Output) → TextEnds {T = Unit {0}} fault text (Ok tt) before mid → IsPrinted mid after [] → after.held ≡ []
      → WritesAnswer (Sim fault) text (Ok Finished) (call_of before after)
  sim_written mid after ends p none =
      let has : HasAnswer Finished (Sim fault) text ends.0 = record { allowed = ends.2; answers = ends.1 } in
      (ends.0, has, all_gained before after ends.0 empty none (IsPrinted-then ends.3 p))

  pub sim_cut : (mid after : Output) → TextEnds {T = Unit {0}} fault text (Ok tt) before mid → IsCut mid after []
      → WritesAnswer (Sim fault) text (Err WriteFault) (call_of before after)
  sim_cut mid after ends p =
      let has : HasAnswer Finished (Sim fault) text ends.0 = record { allowed = ends.2; answers = ends.1 } in
      (Finished, ends.0, has, part_gained before after ends.0 (ends.0 ++ []) empty (append-nil ends.0) (IsCut-then ends.3 p))

  -- it was not printed whole
  pub sim_stopped : (given : Refusal) (after : Output) → TextEnds {T = Unit {0}} fault text (Err given) before after → WritesAnswer (Sim fault) text (Err given) (call_of before after)
  sim_stopped WriteFault after ends =
      let has : HasAnswer Finished (Sim fault) text ends.0 = record { allowed = ends.2; answers = ends.1 } in
      (Finished, ends.0, has, part_gained before after ends.0 ends.0 empty refl ends.3)
  sim_stopped given after ends = (ends.0, nothing_gained before after ends.1)

-- ---- an answer that is worked out before the first byte is written

module _ (command : Command) (text : List ℕ) where
  -- a text that is short can be read
  readable : length text ≤ 67108864 → IsRead (source_call (Some text) (Some []) 0 0 0 0) text
  readable short = record { came = sym (append-nil text); end = refl; all = refl; short = short }

  -- what stops a command at a text is no failed write
  pub made_refused : (given : Refusal) (sink : SinkCall) → length text ≤ 67108864 → StopsAt command text given → GainsNothing sink
      → WritesAnswer command text (Err given) sink
  made_refused WriteFault sink short refused nothing =
      absurd (no-answer command (source_call (Some text) (Some []) 0 0 0 0) text WriteFault (readable short) refused)
  made_refused given sink short refused nothing = (refused, nothing)

  -- it was written, with the ending of the answer by whichever name it goes; or the sink failed in it
  pub made_written : (ending same : Ending) (answer : List ℕ) (sink : SinkCall) → same ≡ ending → refusal_of command text ≡ None
      → IsReply ending command text answer → Gains sink answer → WritesAnswer command text (Ok same) sink
  made_written ending same answer sink is allowed answers gained =
      let P : Ending → Type 0 = λ e. HasAnswer e command text answer in
      let has : HasAnswer ending command text answer = record { allowed = allowed; answers = answers } in
      (answer, subst P (sym is) has, gained)

  pub made_cut : (ending : Ending) (answer : List ℕ) (sink : SinkCall) → refusal_of command text ≡ None
      → IsReply ending command text answer → GainsPrefix sink answer → WritesAnswer command text (Err WriteFault) sink
  made_cut ending answer sink allowed answers gained =
      let has : HasAnswer ending command text answer = record { allowed = allowed; answers = answers } in
      (ending, answer, has, gained)

-- ---- the whole call

-- no text was read, and nothing was written
pub unread_stops : (command : Command) (source : SourceCall) (sink : SinkCall) (given : Refusal) → HasNoAnswer command source given → GainsNothing sink
    → Stops command source sink given
unread_stops command source sink WriteFault because nothing = absurd because
unread_stops command source sink given because nothing = record { because = because; nothing = nothing }

-- a text was read, and so its answer was written, or not
module _ (command : Command) (source : SourceCall) (sink : SinkCall) (text : List ℕ) (read : IsRead source text) where
  answered : (ending : Ending) (answer : List ℕ) → HasAnswer ending command text answer → IsAnswered ending command source answer
  answered ending answer has = record { text = text; read = read; allowed = has.allowed; answers = has.answers }

  pub performs : (result : Result Ending Refusal) → WritesAnswer command text result sink → IfOk result (λ ending. IsPerformed ending command source sink)
  performs (Ok ending) ends = record { answer = ends.0; answered = answered ending ends.0 ends.1; gained = ends.2 }
  performs (Err given) ends = tt

  pub stops : (result : Result Ending Refusal) → WritesAnswer command text result sink → IfErr result (Stops command source sink)
  stops (Ok ending) ends = tt
  stops (Err WriteFault) ends = record { ending = ends.0; answer = ends.1; answered = answered ends.0 ends.1 ends.2; gained = ends.3 }
  stops (Err given) ends = record { because = no-answer command source text given read ends.0; nothing = ends.1 }
