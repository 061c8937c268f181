use Rattle.mapping_reading.proofs.SmallReadings.{missing_does_not_read}
use Rattle.mapping_reading.proofs.small_readings.missing_gates_are_not_read.Goals as goal

pub returns : goal.returns
returns c = record { not_read = missing_does_not_read }
