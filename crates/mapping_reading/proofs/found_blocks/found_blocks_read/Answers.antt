use Rattle.mapping_reading.proofs.FoundReadings.{found_blocks_read}
use Rattle.mapping_reading.proofs.found_blocks.found_blocks_read.Goals as goal

pub returns : goal.returns
returns c = record { reads = found_blocks_read }
