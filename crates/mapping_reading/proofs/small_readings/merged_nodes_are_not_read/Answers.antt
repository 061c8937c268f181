use Rattle.mapping_reading.proofs.SmallReadings.{merged_does_not_read}
use Rattle.mapping_reading.proofs.small_readings.merged_nodes_are_not_read.Goals as goal

pub returns : goal.returns
returns c = record { not_read = merged_does_not_read }
