use Rattle.mapping_reading.proofs.FoundReadings.{missed_cover_refutes}
use Rattle.mapping_reading.proofs.found_blocks.missed_covers_refute.Goals as goal

pub returns : goal.returns
returns c = record { refute = missed_cover_refutes }
