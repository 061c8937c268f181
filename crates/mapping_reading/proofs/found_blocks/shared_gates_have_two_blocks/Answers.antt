use Rattle.mapping_reading.proofs.LedGates.{shared_has_two_blocks}
use Rattle.mapping_reading.proofs.found_blocks.shared_gates_have_two_blocks.Goals as goal

pub returns : goal.returns
returns c = record { two = shared_has_two_blocks }
