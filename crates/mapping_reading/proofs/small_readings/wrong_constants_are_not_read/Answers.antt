use Rattle.mapping_reading.proofs.SmallReadings.{wrong_constant_does_not_read}
use Rattle.mapping_reading.proofs.small_readings.wrong_constants_are_not_read.Goals as goal

pub returns : goal.returns
returns c = record { not_read = wrong_constant_does_not_read }
