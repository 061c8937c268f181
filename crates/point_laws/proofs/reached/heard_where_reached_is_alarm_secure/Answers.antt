use Rattle.point_laws.proofs.WhereReached.{heard_where_reached_is_alarm_secure}
use Rattle.point_laws.proofs.reached.heard_where_reached_is_alarm_secure.Goals as goal

pub returns : goal.returns
returns c = record { secure = heard_where_reached_is_alarm_secure }
