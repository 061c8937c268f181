use Rattle.unheard_cells.proofs.Worked.{small_is_heard, lone_output_is_unheard}
use Rattle.unheard_cells.proofs.laws.worked_point_reason.Goals as goal

pub returns : goal.returns
returns c = record { heard = small_is_heard; unheard = lone_output_is_unheard }
