use Rattle.structure_laws.proofs.SmallParity.{small_is_fault_secure}
use Rattle.structure_laws.proofs.small_netlist.the_small_netlist_is_fault_secure.Goals as goal

pub returns : goal.returns
returns c = record { secure = small_is_fault_secure }
