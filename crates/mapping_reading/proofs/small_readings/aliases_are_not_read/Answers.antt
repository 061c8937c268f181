use Rattle.mapping_reading.proofs.SmallReadings.{alias_does_not_read}
use Rattle.mapping_reading.proofs.small_readings.aliases_are_not_read.Goals as goal

pub returns : goal.returns
returns c = record { not_read = alias_does_not_read }
