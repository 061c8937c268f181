use Rattle.structure_laws.proofs.FailingCell.{listed_faults_settle_but, listed_faults_are_failing_cells}
use Rattle.structure_laws.proofs.failing_cell.listed_faults_are_failing_cells.Goals as goal

pub returns : goal.returns
returns c = record { step = listed_faults_settle_but; run = listed_faults_are_failing_cells }
