use Rattle.joint_laws.proofs.JoinedFaults.{cell_secure_joints_are_fault_secure}
use Rattle.joint_laws.proofs.joined.cell_secure_joints_are_fault_secure.Goals as goal

pub returns : goal.returns
returns c = record { secure = cell_secure_joints_are_fault_secure }
