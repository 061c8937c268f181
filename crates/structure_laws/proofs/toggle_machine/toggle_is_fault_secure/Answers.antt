use Rattle.structure_laws.proofs.Toggle.{toggle_is_fault_secure}
use Rattle.structure_laws.proofs.toggle_machine.toggle_is_fault_secure.Goals as goal

pub returns : goal.returns
returns c = record { secure = toggle_is_fault_secure }
