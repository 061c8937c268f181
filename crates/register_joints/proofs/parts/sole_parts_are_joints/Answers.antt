use Rattle.register_joints.proofs.SoleParts.{sole_is_joint, sole_is_secure}
use Rattle.register_joints.proofs.parts.sole_parts_are_joints.Goals as goal

pub returns : goal.returns
returns c = record { joint = sole_is_joint; secure = sole_is_secure }
