use Rattle.structure_laws.proofs.Toggle.{toggle_is_cell_secure}
use Rattle.structure_laws.proofs.toggle_machine.toggle_is_cell_secure.Goals as goal

pub returns : goal.returns
returns c = record { secure = toggle_is_cell_secure }
