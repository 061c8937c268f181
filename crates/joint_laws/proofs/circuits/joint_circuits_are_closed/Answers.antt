use Rattle.joint_laws.proofs.JointIsAcyclic.{joint_circuit_is_closed}
use Rattle.joint_laws.proofs.circuits.joint_circuits_are_closed.Goals as goal

pub returns : goal.returns
returns c = record { closed = joint_circuit_is_closed }
