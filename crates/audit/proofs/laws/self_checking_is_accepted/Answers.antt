use Rattle.audit.proofs.Accepted.{self_checking_is_accepted}
use Rattle.audit.proofs.laws.self_checking_is_accepted.Goals as goal

pub returns : goal.returns
returns c = record { accepted = self_checking_is_accepted }
