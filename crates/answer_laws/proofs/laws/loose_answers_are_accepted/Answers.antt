use Rattle.answer_laws.proofs.AcceptedBehind.{loose_answers_are_accepted}
use Rattle.answer_laws.proofs.laws.loose_answers_are_accepted.Goals as goal

pub returns : goal.returns
returns c = record { accepted = loose_answers_are_accepted }
