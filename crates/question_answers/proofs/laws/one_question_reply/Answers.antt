use Rattle.question_answers.proofs.Determined.{one_question_reply}
use Rattle.question_answers.proofs.laws.one_question_reply.Goals as goal

pub returns : goal.returns
returns c = record { one = one_question_reply }
