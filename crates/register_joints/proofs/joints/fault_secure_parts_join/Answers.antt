use Rattle.register_joints.proofs.JoinedParts.{fault_secure_parts_join}
use Rattle.register_joints.proofs.joints.fault_secure_parts_join.Goals as goal

pub returns : goal.returns
returns c = record { secure = fault_secure_parts_join }
