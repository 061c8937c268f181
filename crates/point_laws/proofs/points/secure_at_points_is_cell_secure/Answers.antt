use Rattle.point_laws.proofs.AtPoints.{secure_at_points_is_cell_secure}
use Rattle.point_laws.proofs.points.secure_at_points_is_cell_secure.Goals as goal

pub returns : goal.returns
returns c = record { secure = secure_at_points_is_cell_secure }
