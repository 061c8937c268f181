use Rattle.point_laws.proofs.Heard.{secure_at_points_is_heard}
use Rattle.point_laws.proofs.alarms.secure_at_points_is_heard.Goals as goal

pub returns : goal.returns
returns c = record { heard = secure_at_points_is_heard }
