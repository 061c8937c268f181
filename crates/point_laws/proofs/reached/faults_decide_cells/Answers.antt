use Rattle.point_laws.proofs.WhereReached.{faults_decide_cells}
use Rattle.point_laws.proofs.reached.faults_decide_cells.Goals as goal

pub returns : goal.returns
returns c = record { decide = faults_decide_cells }
