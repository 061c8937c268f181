use Rattle.register_joints.proofs.JoinedParts.{secure_parts_join}
use Rattle.register_joints.proofs.joints.secure_parts_join.Goals as goal

pub returns : goal.returns
returns c = record { secure = secure_parts_join }
