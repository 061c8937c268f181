use Rattle.register_laws.proofs.Secure.{registers_are_fault_secure}
use Rattle.register_laws.proofs.registers.registers_are_fault_secure.Goals as goal

pub returns : goal.returns
returns c = record { secure = registers_are_fault_secure }
