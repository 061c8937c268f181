use Rattle.exact_audit.proofs.Secure.{exact_is_alarm_secure, exact_shows_faults}
use Rattle.exact_audit.proofs.laws.exact_is_alarm_secure.Goals as goal

pub returns : goal.returns
returns c = record { secure = exact_is_alarm_secure; faults = exact_shows_faults }
