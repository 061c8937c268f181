use Rattle.mapping_reading.proofs.LedGates.{found_are_one}
use Rattle.mapping_reading.proofs.found_blocks.owners_and_blocks_are_one.Goals as goal

pub returns : goal.returns
returns c = record { same = found_are_one }
