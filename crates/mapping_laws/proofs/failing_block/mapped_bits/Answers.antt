use Rattle.mapping_laws.proofs.MappedBits.{mapped_bits}
use Rattle.mapping_laws.proofs.failing_block.mapped_bits.Goals as goal

pub returns : goal.returns
returns c = record { same = mapped_bits }
