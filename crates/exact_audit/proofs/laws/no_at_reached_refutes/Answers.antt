use Rattle.exact_audit.proofs.Secure.{no_at_reached_refutes}
use Rattle.exact_audit.proofs.laws.no_at_reached_refutes.Goals as goal

pub returns : goal.returns
returns c = record { refuted = no_at_reached_refutes }
