use Rattle.register_laws.proofs.WrongTwinRuns.{zeroed_is_false}
use Rattle.register_laws.proofs.wrong_twins.copies_begin_as_their_registers.Goals as goal

pub returns : goal.returns
returns c = record { alarm = zeroed_is_false }
