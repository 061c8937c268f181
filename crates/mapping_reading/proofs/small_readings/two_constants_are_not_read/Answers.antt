use Rattle.mapping_reading.proofs.SmallReadings.{two_constants_do_not_read}
use Rattle.mapping_reading.proofs.small_readings.two_constants_are_not_read.Goals as goal

pub returns : goal.returns
returns c = record { not_read = two_constants_do_not_read }
