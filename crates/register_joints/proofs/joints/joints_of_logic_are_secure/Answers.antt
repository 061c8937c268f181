use Rattle.register_joints.proofs.JoinedParts.{logical_cells_join, logical_faults_join}
use Rattle.register_joints.proofs.joints.joints_of_logic_are_secure.Goals as goal

pub returns : goal.returns
returns c = record { cells = logical_cells_join; faults = logical_faults_join }
