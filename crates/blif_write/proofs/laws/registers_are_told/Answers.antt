use Rattle.blif_write.proofs.RegistersTold.{registers-told}
use Rattle.blif_write.proofs.laws.registers_are_told.Goals as goal

pub returns : goal.returns
returns c = record { told = λ clock net plan checked told word lines. registers-told clock net plan checked told word lines }
