use Rattle.structure_laws.proofs.FailingCell.{one_run_but_a_cell}
use Rattle.structure_laws.proofs.failing_cell.one_run_but_a_cell.Goals as goal

pub returns : goal.returns
returns c = record { one = one_run_but_a_cell }
