-- Why there is no answer where a limit may be passed too.
use Rattle.std.proofs.Common.{◌≡◌, Option, None, Some, ◌∙◌}
use Rattle.refusals.specs.declared.limit.OwnLimit.{OwnLimit}
use Rattle.refusals.specs.declared.refusal.Refusal.{Refusal}
use Rattle.refusals.specs.declared.refusal.Refusal.TheVariants.{Memory, Text, Beyond}
use Rattle.refusals.specs.declared.text_refusal.TextRefusal.{TextRefusal}
use Rattle.text_sections.specs.Refused.{IsRefusedBy, StopsBeyond}

-- what refuses the text is why
pub stops_refused : (limit : Option OwnLimit) (refusal : Option TextRefusal) (passes : Type 0) (given : Refusal)
    → IsRefusedBy refusal given → StopsBeyond limit refusal passes given
stops_refused None refusal passes given refused = refused
stops_refused (Some limit) refusal passes (Beyond given) refused = absurd refused
stops_refused (Some limit) refusal passes given refused = refused

-- what stops an answer on what was read of a text that nothing refuses stops the one to the text
pub stops_there : (limit : OwnLimit) (refusal : Option TextRefusal) (here there : Type 0) (given : Refusal) → refusal ≡ None → (here → there)
    → StopsBeyond (Some limit) None here given → StopsBeyond (Some limit) refusal there given
stops_there limit refusal here there (Memory error) none same stops = tt
stops_there limit refusal here there (Text given) none same stops = none ∙ stops
stops_there limit refusal here there (Beyond given) none same stops = (stops.0, none, same stops.2)
stops_there limit refusal here there given none same stops = absurd stops
