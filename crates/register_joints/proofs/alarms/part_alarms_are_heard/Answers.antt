use Rattle.register_joints.proofs.HeardAlarms.{alarms_join}
use Rattle.register_joints.proofs.alarms.part_alarms_are_heard.Goals as goal

pub returns : goal.returns
returns c = record { alarmed = alarms_join }
