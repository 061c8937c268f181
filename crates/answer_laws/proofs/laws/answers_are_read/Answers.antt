use Rattle.answer_laws.proofs.AnswerLemmas.{answers_are_read}
use Rattle.answer_laws.proofs.laws.answers_are_read.Goals as goal

pub returns : goal.returns
returns c = record { read = answers_are_read }
