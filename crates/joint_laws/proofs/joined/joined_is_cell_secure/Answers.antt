use Rattle.joint_laws.proofs.JoinedCells.{joined_is_cell_secure}
use Rattle.joint_laws.proofs.joined.joined_is_cell_secure.Goals as goal

pub returns : goal.returns
returns c = record { secure = joined_is_cell_secure }
