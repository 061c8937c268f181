use Rattle.checker_audit.proofs.Determined.{one_answer}
use Rattle.checker_audit.proofs.laws.checker_reason_is_determined.Goals as goal

pub returns : goal.returns
returns c = record { one = one_answer }
