use Rattle.point_laws.proofs.AtPoints.{stems_decide}
use Rattle.point_laws.proofs.points.stems_decide.Goals as goal

pub returns : goal.returns
returns c = record { decide = stems_decide }
