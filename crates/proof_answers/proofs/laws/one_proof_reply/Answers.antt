use Rattle.proof_answers.proofs.Determined.{one_proof_reply}
use Rattle.proof_answers.proofs.laws.one_proof_reply.Goals as goal

pub returns : goal.returns
returns c = record { one = one_proof_reply }
