use Rattle.exact_audit.proofs.Secure.{networks_are_decided_exactly}
use Rattle.exact_audit.proofs.Determined.{no_of_a_network_refutes}
use Rattle.exact_audit.proofs.laws.networks_are_decided_exactly.Goals as goal

pub returns : goal.returns
returns c = record { decided = networks_are_decided_exactly; refuted = no_of_a_network_refutes }
