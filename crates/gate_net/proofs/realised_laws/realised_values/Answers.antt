use Rattle.gate_net.proofs.Realised.{net_value, root_value, all_values}
use Rattle.gate_net.proofs.realised_laws.realised_values.Goals as goal

pub returns : goal.returns
returns c = record { nets = net_value; roots = root_value; all = all_values }
