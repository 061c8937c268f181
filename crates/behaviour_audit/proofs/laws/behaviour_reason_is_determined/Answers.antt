use Rattle.behaviour_audit.proofs.Determined.{one_answer}
use Rattle.behaviour_audit.proofs.laws.behaviour_reason_is_determined.Goals as goal

pub returns : goal.returns
returns c = record { determined = one_answer }
