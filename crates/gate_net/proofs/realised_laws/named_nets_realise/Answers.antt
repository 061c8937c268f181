use Rattle.gate_net.proofs.NamedRealised.{named_net, named_root}
use Rattle.gate_net.proofs.realised_laws.named_nets_realise.Goals as goal

pub returns : goal.returns
returns c = record { nets = named_net; roots = named_root }
