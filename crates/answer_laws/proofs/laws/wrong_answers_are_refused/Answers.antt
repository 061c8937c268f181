use Rattle.answer_laws.proofs.AnswerLemmas.{undriven_is_refused, wide_is_refused}
use Rattle.answer_laws.proofs.laws.wrong_answers_are_refused.Goals as goal

pub returns : goal.returns
returns c = record { undriven = undriven_is_refused; wide = wide_is_refused }
