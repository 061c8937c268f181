use Rattle.point_laws.proofs.Heard.{alarm_secure_for_faults}
use Rattle.point_laws.proofs.alarms.alarm_secure_shows_faults.Goals as goal

pub returns : goal.returns
returns c = record { alarmed = alarm_secure_for_faults }
