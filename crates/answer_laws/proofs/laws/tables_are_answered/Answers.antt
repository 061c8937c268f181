use Rattle.answer_laws.proofs.TableAnswers.{tables_are_answered}
use Rattle.answer_laws.proofs.laws.tables_are_answered.Goals as goal

pub returns : goal.returns
returns c = record { answered = tables_are_answered }
