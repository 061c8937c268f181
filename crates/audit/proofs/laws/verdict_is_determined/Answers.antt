use Rattle.audit.proofs.OneVerdict.{one_verdict}
use Rattle.audit.proofs.laws.verdict_is_determined.Goals as goal

pub returns : goal.returns
returns c = record { one = one_verdict }
