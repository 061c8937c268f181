use Rattle.mapping_audit.proofs.Determined.{one_answer}
use Rattle.mapping_audit.proofs.laws.mapped_answer_is_determined.Goals as goal

pub returns : goal.returns
returns c = record { one = one_answer }
