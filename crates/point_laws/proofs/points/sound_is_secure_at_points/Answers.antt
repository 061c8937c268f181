use Rattle.point_laws.proofs.AtPoints.{sound_is_secure_at_points}
use Rattle.point_laws.proofs.points.sound_is_secure_at_points.Goals as goal

pub returns : goal.returns
returns c = record { secure = sound_is_secure_at_points }
