use Rattle.register_laws.proofs.WrongTwinRuns.{leaning_is_silent}
use Rattle.register_laws.proofs.wrong_twins.copies_read_copies.Goals as goal

pub returns : goal.returns
returns c = record { silent = leaning_is_silent }
