use Rattle.answer_laws.proofs.VectorLaws.{one_vector_list}
use Rattle.answer_laws.proofs.laws.vectors_are_determined.Goals as goal

pub returns : goal.returns
returns c = record { one = one_vector_list }
