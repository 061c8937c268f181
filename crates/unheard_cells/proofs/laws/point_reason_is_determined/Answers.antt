use Rattle.unheard_cells.proofs.Determined.{one_point_answer}
use Rattle.unheard_cells.proofs.laws.point_reason_is_determined.Goals as goal

pub returns : goal.returns
returns c = record { determined = one_point_answer }
