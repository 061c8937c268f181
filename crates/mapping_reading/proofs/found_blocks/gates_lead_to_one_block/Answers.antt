use Rattle.mapping_reading.proofs.LedGates.{one_block}
use Rattle.mapping_reading.proofs.found_blocks.gates_lead_to_one_block.Goals as goal

pub returns : goal.returns
returns c = record { one = one_block }
