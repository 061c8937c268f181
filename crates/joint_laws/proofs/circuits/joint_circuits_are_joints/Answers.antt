use Rattle.joint_laws.proofs.JointIsJoint.{joint_circuit_is_joint}
use Rattle.joint_laws.proofs.circuits.joint_circuits_are_joints.Goals as goal

pub returns : goal.returns
returns c = record { joint = joint_circuit_is_joint }
