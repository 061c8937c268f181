use Rattle.mapping_laws.proofs.Secure.{block_secure_is_cell_secure}
use Rattle.mapping_laws.proofs.mapped.block_secure_is_cell_secure.Goals as goal

pub returns : goal.returns
returns c = record { secure = block_secure_is_cell_secure }
