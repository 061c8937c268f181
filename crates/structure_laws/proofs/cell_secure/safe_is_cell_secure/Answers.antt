use Rattle.structure_laws.proofs.Joined.{safe_is_cell_secure}
use Rattle.structure_laws.proofs.cell_secure.safe_is_cell_secure.Goals as goal

pub returns : goal.returns
returns c = record { secure = safe_is_cell_secure }
