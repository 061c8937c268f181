use Rattle.mapping_reading.proofs.SmallReadings.{last_value_does_not_read}
use Rattle.mapping_reading.proofs.small_readings.wrong_last_values_are_not_read.Goals as goal

pub returns : goal.returns
returns c = record { not_read = last_value_does_not_read }
