use Rattle.answer_laws.proofs.AcceptedBehind.{answers_are_accepted}
use Rattle.answer_laws.proofs.laws.answers_are_accepted.Goals as goal

pub returns : goal.returns
returns c = record { accepted = answers_are_accepted }
