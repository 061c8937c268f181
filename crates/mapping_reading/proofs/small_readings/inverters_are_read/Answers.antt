use Rattle.mapping_reading.proofs.SmallReadings.{inverters_read}
use Rattle.mapping_reading.proofs.small_readings.inverters_are_read.Goals as goal

pub returns : goal.returns
returns c = record { reads = inverters_read }
