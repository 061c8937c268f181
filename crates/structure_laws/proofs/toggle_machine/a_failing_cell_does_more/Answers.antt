use Rattle.structure_laws.proofs.DoesMore.{failing_cell_does_more}
use Rattle.structure_laws.proofs.toggle_machine.a_failing_cell_does_more.Goals as goal

pub returns : goal.returns
returns c = record { more = failing_cell_does_more }
