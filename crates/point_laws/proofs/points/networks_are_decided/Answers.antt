use Rattle.point_laws.proofs.AtPoints.{networks_are_decided}
use Rattle.point_laws.proofs.points.networks_are_decided.Goals as goal

pub returns : goal.returns
returns c = record { decided = networks_are_decided }
