use Rattle.machine_maker.proofs.MadeMachine.{made_is}
use Rattle.machine_maker.proofs.laws.made_texts_are_machines.Goals as goal

pub returns : goal.returns
returns c = record { made = made_is }
