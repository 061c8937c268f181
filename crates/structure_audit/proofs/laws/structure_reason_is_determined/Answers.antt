use Rattle.structure_audit.proofs.Determined.{one_answer}
use Rattle.structure_audit.proofs.laws.structure_reason_is_determined.Goals as goal

pub returns : goal.returns
returns c = record { one = λ N P a b first second. one_answer N P a b first second }
