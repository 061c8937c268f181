use Rattle.register_joints.proofs.SmallJoints.{small_is_joined, small_is_joint, small_joint_is_secure, small_joint_is_fault_secure, small_watch_is_heard}
use Rattle.register_joints.proofs.small_joint.the_small_joint_is_secure.Goals as goal

pub returns : goal.returns
returns c = record { joined = small_is_joined; joint = small_is_joint; cells = small_joint_is_secure; faults = small_joint_is_fault_secure; heard = small_watch_is_heard }
