use Rattle.point_laws.proofs.Heard.{cell_secure_is_alarm_secure}
use Rattle.point_laws.proofs.alarms.cell_secure_is_alarm_secure.Goals as goal

pub returns : goal.returns
returns c = record { secure = cell_secure_is_alarm_secure }
