use Rattle.point_laws.proofs.SmallPoints.{check_is_silent, is_weaker}
use Rattle.point_laws.proofs.small_points.alarm_secure_is_weaker.Goals as goal

pub returns : goal.returns
returns c = record { silent = check_is_silent; weaker = is_weaker }
