use Rattle.mapping_reading.proofs.FoundReadings.{open_pin_refutes}
use Rattle.mapping_reading.proofs.found_blocks.open_pins_refute.Goals as goal

pub returns : goal.returns
returns c = record { refute = open_pin_refutes }
