use Rattle.mapping_laws.proofs.ConstantGates.{constant_has_gate}
use Rattle.mapping_laws.proofs.mappings.constants_have_gates.Goals as goal

pub returns : goal.returns
returns c = record { gate = constant_has_gate }
