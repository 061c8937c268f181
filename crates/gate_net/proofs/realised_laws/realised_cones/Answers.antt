use Rattle.gate_net.proofs.Realised.{net_cone, root_cone, function_before}
use Rattle.gate_net.proofs.realised_laws.realised_cones.Goals as goal

pub returns : goal.returns
returns c = record { nets = net_cone; roots = root_cone; function = function_before }
