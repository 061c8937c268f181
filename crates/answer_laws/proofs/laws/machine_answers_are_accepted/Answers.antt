use Rattle.answer_laws.proofs.AcceptedBehind.{machine_answers_are_accepted, two_states_end}
use Rattle.answer_laws.proofs.laws.machine_answers_are_accepted.Goals as goal

pub returns : goal.returns
returns c = record { accepted = machine_answers_are_accepted; example = two_states_end }
