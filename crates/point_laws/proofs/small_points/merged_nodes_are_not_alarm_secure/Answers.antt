use Rattle.point_laws.proofs.SmallPoints.{output_is_unheard, merged_is_not_alarm_secure}
use Rattle.point_laws.proofs.small_points.merged_nodes_are_not_alarm_secure.Goals as goal

pub returns : goal.returns
returns c = record { unheard = output_is_unheard; not_secure = merged_is_not_alarm_secure }
