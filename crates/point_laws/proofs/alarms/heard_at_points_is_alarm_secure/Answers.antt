use Rattle.point_laws.proofs.Heard.{heard_at_points_is_alarm_secure}
use Rattle.point_laws.proofs.alarms.heard_at_points_is_alarm_secure.Goals as goal

pub returns : goal.returns
returns c = record { secure = heard_at_points_is_alarm_secure }
