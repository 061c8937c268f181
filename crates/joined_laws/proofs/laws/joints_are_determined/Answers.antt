use Rattle.joined_laws.proofs.JoinedAnswers.{joints_are_determined}
use Rattle.joined_laws.proofs.laws.joints_are_determined.Goals as goal

pub returns : goal.returns
returns c = record { one = joints_are_determined }
