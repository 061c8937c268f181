use Rattle.exact_audit.proofs.Determined.{one_exact_verdict}
use Rattle.exact_audit.proofs.laws.exact_verdict_is_determined.Goals as goal

pub returns : goal.returns
returns c = record { one = one_exact_verdict }
