use Rattle.blif_write.proofs.ReadLaw.{is-read-as}
use Rattle.blif_write.proofs.laws.written_netlists_are_read.Goals as goal

pub returns : goal.returns
returns c = record { read = λ net plan checked writable made of. is-read-as net plan checked made of writable }
