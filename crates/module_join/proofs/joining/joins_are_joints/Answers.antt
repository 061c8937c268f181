use Rattle.module_join.proofs.Joined.{join_is_joint}
use Rattle.module_join.proofs.joining.joins_are_joints.Goals as goal

pub returns : goal.returns
returns c = record { joint = join_is_joint }
