use Rattle.gate_net.proofs.Given.{root_driven}
use Rattle.gate_net.proofs.realised_laws.root_is_driven.Goals as goal

pub returns : goal.returns
returns c = record { driven = root_driven }
