use Rattle.answer_laws.proofs.AnswerLemmas.{loose_answers_are_read}
use Rattle.answer_laws.proofs.laws.loose_answers_are_read.Goals as goal

pub returns : goal.returns
returns c = record { read = loose_answers_are_read }
