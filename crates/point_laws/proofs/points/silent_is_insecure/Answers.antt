use Rattle.point_laws.proofs.AtPoints.{silent_is_insecure}
use Rattle.point_laws.proofs.points.silent_is_insecure.Goals as goal

pub returns : goal.returns
returns c = record { insecure = silent_is_insecure }
