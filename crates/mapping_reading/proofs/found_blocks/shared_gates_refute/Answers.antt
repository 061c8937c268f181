use Rattle.mapping_reading.proofs.FoundReadings.{shared_gate_refutes}
use Rattle.mapping_reading.proofs.found_blocks.shared_gates_refute.Goals as goal

pub returns : goal.returns
returns c = record { refute = shared_gate_refutes }
