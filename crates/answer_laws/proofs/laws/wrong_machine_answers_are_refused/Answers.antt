use Rattle.answer_laws.proofs.AnswerLemmas.{late_is_refused}
use Rattle.answer_laws.proofs.laws.wrong_machine_answers_are_refused.Goals as goal

pub returns : goal.returns
returns c = record { late = late_is_refused }
