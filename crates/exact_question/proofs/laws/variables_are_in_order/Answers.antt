use Rattle.exact_question.proofs.InOrder.{variables_are_in_order}
use Rattle.exact_question.proofs.laws.variables_are_in_order.Goals as goal

pub returns : goal.returns
returns c = record { ordered = variables_are_in_order }
