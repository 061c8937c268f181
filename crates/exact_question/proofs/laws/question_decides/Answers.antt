use Rattle.exact_question.proofs.Decides.{question_decides}
use Rattle.exact_question.proofs.NoModel.{no_model_is_alarm_secure}
use Rattle.exact_question.proofs.laws.question_decides.Goals as goal

pub returns : goal.returns
returns c = record { decides = question_decides; secure = no_model_is_alarm_secure }
