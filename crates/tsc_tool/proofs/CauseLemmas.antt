-- What stops a command at the text that was read is why it has no answer.
use Rattle.std.proofs.Common.{◌≡◌, ℕ, List, Option, None, Some, refl, sym, ap, ◌∙◌, subst}
use Rattle.commands.specs.declared.command.Command.{Command}
use Rattle.commands.specs.declared.request.Request.{Request}
use Rattle.refusals.specs.declared.ending.Ending.{Ending}
use Rattle.refusals.specs.declared.limit.OwnLimit.{OwnLimit}
use Rattle.refusals.specs.declared.refusal.Refusal.{Refusal}
use Rattle.refusals.specs.declared.refusal.Refusal.TheVariants.{Memory, Text, Beyond}
use Rattle.answers.specs.Commands.{own_limit, PassesLimit, refusal_of, StopsAt}
use Rattle.netlist_answers.specs.Devices.{IsRead, SinkCall, SourceCall}
use Rattle.text_sections.specs.Refused.{StopsBeyond}
use Rattle.tsc_tool.specs.Cause.{HasNoAnswer, IsFulfilled}

-- what refuses the text that was read, or the limit that it passes, is why there is no answer
pub no-answer : (command : Command) (source : SourceCall) (text : List ℕ) (given : Refusal)
    → IsRead source text → StopsAt command text given → HasNoAnswer command source given
no-answer command source text given read stops = by (own_limit command) refl given stops
  where
    by : (limit : Option OwnLimit) → own_limit command ≡ limit → (given : Refusal)
        → StopsBeyond limit (refusal_of command text) (PassesLimit command text) given → HasNoAnswer command source given
    by None is (Memory error) stops = tt
    by None is (Text refusal) stops = record { text = text; read = read; refused = stops }
    by None is given stops = absurd stops
    by (Some limit) is (Memory error) stops = tt
    by (Some limit) is (Text refusal) stops = record { text = text; read = read; refused = stops }
    by (Some limit) is (Beyond given) stops = record {
      its_own = is ∙ ap Some (sym stops.0);
      text = text;
      read = read;
      allowed = stops.1;
      passes = stops.2;
    }
    by (Some limit) is given stops = absurd stops

-- what was done with an ending, by whichever name it goes
pub fulfilled_so : (ending same : Ending) (request : Request) (source : SourceCall) (sink : SinkCall)
    → ending ≡ same → IsFulfilled ending request source sink → IsFulfilled same request source sink
fulfilled_so ending same request source sink is fulfilled = let P : Ending → Type 0 = λ e. IsFulfilled e request source sink in subst P is fulfilled
