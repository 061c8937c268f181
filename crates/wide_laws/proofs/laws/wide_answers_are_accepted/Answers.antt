use Rattle.wide_laws.proofs.WideAccepted.{wide_answers_are_accepted}
use Rattle.wide_laws.proofs.laws.wide_answers_are_accepted.Goals as goal

pub returns : goal.returns
returns c = record { accepted = wide_answers_are_accepted }
