use Rattle.point_laws.proofs.SmallPoints.{small_is_secure_at_points, toggle_is_secure_at_points}
use Rattle.point_laws.proofs.small_points.small_netlists_are_secure_at_points.Goals as goal

pub returns : goal.returns
returns c = record { network = small_is_secure_at_points; machine = toggle_is_secure_at_points }
