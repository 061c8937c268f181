use Rattle.exact_question.proofs.Small.{small_question}
use Rattle.exact_question.proofs.laws.small_question.Goals as goal

pub returns : goal.returns
returns c = record { computed = small_question }
