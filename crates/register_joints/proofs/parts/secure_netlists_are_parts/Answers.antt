use Rattle.register_joints.proofs.JoinedParts.{cell_secure_is_part, register_secure_is_part, register_fault_secure_is_part}
use Rattle.register_joints.proofs.parts.secure_netlists_are_parts.Goals as goal

pub returns : goal.returns
returns c = record { logic = cell_secure_is_part; registers = register_secure_is_part; faults = register_fault_secure_is_part }
