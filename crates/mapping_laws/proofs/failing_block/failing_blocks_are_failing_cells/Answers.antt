use Rattle.mapping_laws.proofs.FailingBlocks.{block_fails_as_cell}
use Rattle.mapping_laws.proofs.failing_block.failing_blocks_are_failing_cells.Goals as goal

pub returns : goal.returns
returns c = record { run = block_fails_as_cell }
