-- Nothing refuses the answer as a netlist.
use Rattle.answer_laws.proofs.AnswerLemmas.{machine_answers_are_read}
use Rattle.answer_laws.proofs.laws.machine_answers_are_read.Goals as goal

pub returns : goal.returns
returns c = record { read = machine_answers_are_read }
