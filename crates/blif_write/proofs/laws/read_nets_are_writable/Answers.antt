use Rattle.blif_write.proofs.ReadWritable.{read-tellable, read-writable}
use Rattle.blif_write.proofs.laws.read_nets_are_writable.Goals as goal

pub returns : goal.returns
returns c = record { writable = λ text lines section kind net few allowed is sound denoted. read-writable text lines section kind net few allowed is sound denoted; tellable = λ text lines section kind net allowed is sound denoted. read-tellable text lines section kind net allowed is sound denoted }
