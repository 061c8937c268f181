use Rattle.structure_laws.proofs.FailingCell.{cells_settle_as_held_stems}
use Rattle.structure_laws.proofs.failing_cell.cells_settle_as_held_stems.Goals as goal

pub returns : goal.returns
returns c = record { same = cells_settle_as_held_stems }
