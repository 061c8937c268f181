use Rattle.register_joints.proofs.JoinedParts.{source_cells_cover_faults}
use Rattle.register_joints.proofs.joints.secure_joints_show_faults.Goals as goal

pub returns : goal.returns
returns c = record { secure = source_cells_cover_faults }
