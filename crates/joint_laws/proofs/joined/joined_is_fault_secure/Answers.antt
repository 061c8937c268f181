use Rattle.joint_laws.proofs.JoinedFaults.{joined_is_fault_secure}
use Rattle.joint_laws.proofs.joined.joined_is_fault_secure.Goals as goal

pub returns : goal.returns
returns c = record { secure = joined_is_fault_secure }
