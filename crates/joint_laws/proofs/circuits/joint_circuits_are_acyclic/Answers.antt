use Rattle.joint_laws.proofs.JointIsAcyclic.{joint_circuit_is_acyclic}
use Rattle.joint_laws.proofs.circuits.joint_circuits_are_acyclic.Goals as goal

pub returns : goal.returns
returns c = record { acyclic = joint_circuit_is_acyclic }
