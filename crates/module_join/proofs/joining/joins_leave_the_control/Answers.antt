use Rattle.module_join.proofs.JointNames.{control_is_no_net}
use Rattle.module_join.proofs.joining.joins_leave_the_control.Goals as goal

pub returns : goal.returns
returns c = record { apart = control_is_no_net }
