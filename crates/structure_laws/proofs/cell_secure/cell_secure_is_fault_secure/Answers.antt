use Rattle.structure_laws.proofs.Joined.{cell_secure_is_fault_secure}
use Rattle.structure_laws.proofs.cell_secure.cell_secure_is_fault_secure.Goals as goal

pub returns : goal.returns
returns c = record { secure = cell_secure_is_fault_secure }
