use Rattle.mapping_laws.proofs.FailingBlocks.{gate_fails_as_cell}
use Rattle.mapping_laws.proofs.failing_block.failing_gates_are_failing_cells.Goals as goal

pub returns : goal.returns
returns c = record { run = gate_fails_as_cell }
