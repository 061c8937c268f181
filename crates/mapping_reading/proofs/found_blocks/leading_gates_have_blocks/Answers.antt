use Rattle.mapping_reading.proofs.LedGates.{leaders_have_blocks}
use Rattle.mapping_reading.proofs.found_blocks.leading_gates_have_blocks.Goals as goal

pub returns : goal.returns
returns c = record { have = leaders_have_blocks }
