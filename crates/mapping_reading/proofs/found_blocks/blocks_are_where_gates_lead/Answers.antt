use Rattle.mapping_reading.proofs.LedGates.{blocks_lead}
use Rattle.mapping_reading.proofs.found_blocks.blocks_are_where_gates_lead.Goals as goal

pub returns : goal.returns
returns c = record { lead = blocks_lead }
