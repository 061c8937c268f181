use Rattle.question_text.proofs.Small.{small_text}
use Rattle.question_text.proofs.laws.small_text.Goals as goal

pub returns : goal.returns
returns c = record { computed = small_text }
