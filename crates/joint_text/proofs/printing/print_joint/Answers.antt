use Rattle.std.proofs.Common.{ap}
use Rattle.joint_text.specs.JointText.{joint_bytes}
use Rattle.joint_text.proofs.Printed.{prints_same}
use Rattle.joint_text.proofs.printing.print_joint.Goals as goal

pub returns : goal.returns
returns g c = record { printed = prints_same c.print_parts.result _ _ _ _ (ap joint_bytes c.joint.view_is) c.print_parts.ensures.printed }
