use Rattle.joint_text.proofs.JointIsNamed.{joint_is_named}
use Rattle.joint_text.proofs.laws.joints_are_named.Goals as goal

pub returns : goal.returns
returns c = record { named = joint_is_named }
