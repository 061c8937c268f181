use Rattle.module_join.proofs.Joined.{join_is_cell_secure}
use Rattle.module_join.proofs.joining.joins_are_cell_secure.Goals as goal

pub returns : goal.returns
returns c = record { secure = join_is_cell_secure }
