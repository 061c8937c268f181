use Rattle.joined_laws.proofs.JoinedAnswers.{answers_are_joined}
use Rattle.joined_laws.proofs.laws.answers_are_joined.Goals as goal

pub returns : goal.returns
returns c = record { joined = answers_are_joined }
