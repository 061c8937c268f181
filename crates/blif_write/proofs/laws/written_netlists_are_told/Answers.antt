use Rattle.blif_write.proofs.Told.{tells}
use Rattle.blif_write.proofs.laws.written_netlists_are_told.Goals as goal

pub returns : goal.returns
returns c = record { told = λ net plan checked told lines. tells net plan checked told lines }
