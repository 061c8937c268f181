use Rattle.mapping_laws.proofs.Secure.{mapped_is_fault_secure}
use Rattle.mapping_laws.proofs.mapped.mapped_is_fault_secure.Goals as goal

pub returns : goal.returns
returns c = record { secure = mapped_is_fault_secure }
