use Rattle.wide_audit.proofs.Verdicts.{yes_is_secure}
use Rattle.wide_audit.proofs.laws.wide_yes_is_secure.Goals as goal

pub returns : goal.returns
returns c = record { secure = yes_is_secure }
