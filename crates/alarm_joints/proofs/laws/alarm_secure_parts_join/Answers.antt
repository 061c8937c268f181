use Rattle.alarm_joints.proofs.AlarmJoints.{alarm_secure_parts_join}
use Rattle.alarm_joints.proofs.laws.alarm_secure_parts_join.Goals as goal

pub returns : goal.returns
returns c = record { secure = alarm_secure_parts_join }
