use Rattle.audit.proofs.Accepted.{accepted_is_secure}
use Rattle.audit.proofs.laws.accepted_is_secure.Goals as goal

pub returns : goal.returns
returns c = record { secure = accepted_is_secure }
