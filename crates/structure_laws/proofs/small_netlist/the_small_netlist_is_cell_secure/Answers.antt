use Rattle.structure_laws.proofs.SmallParity.{small_is_cell_secure}
use Rattle.structure_laws.proofs.small_netlist.the_small_netlist_is_cell_secure.Goals as goal

pub returns : goal.returns
returns c = record { secure = small_is_cell_secure }
