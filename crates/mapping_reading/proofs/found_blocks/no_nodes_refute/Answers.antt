use Rattle.mapping_reading.proofs.FoundReadings.{no_nodes_refute}
use Rattle.mapping_reading.proofs.found_blocks.no_nodes_refute.Goals as goal

pub returns : goal.returns
returns c = record { refute = no_nodes_refute }
