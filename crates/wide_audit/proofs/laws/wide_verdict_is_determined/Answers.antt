use Rattle.wide_audit.proofs.Verdicts.{one_wide_verdict, spent_has_no_verdict}
use Rattle.wide_audit.proofs.laws.wide_verdict_is_determined.Goals as goal

pub returns : goal.returns
returns c = record { one = one_wide_verdict; none = spent_has_no_verdict }
