use Rattle.answer_laws.proofs.VectorLaws.{verdicts_are_right}
use Rattle.answer_laws.proofs.laws.verdicts_are_right.Goals as goal

pub returns : goal.returns
returns c = record { right = verdicts_are_right }
