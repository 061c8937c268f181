use Rattle.register_laws.proofs.WrongTwinRuns.{apart_in_one_step_is_silent}
use Rattle.register_laws.proofs.wrong_twins.apart_in_one_step_is_not_enough.Goals as goal

pub returns : goal.returns
returns c = record { silent = apart_in_one_step_is_silent }
