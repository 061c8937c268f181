use Rattle.std.proofs.Common.{◌≡◌, map, take}
use Rattle.tsc_net.specs.PlanView.{net_numbers}
use Rattle.net_writing.specs.Names.{name_at}
use Rattle.net_writing.proofs.outputs.output_names.Given as goal

abbrev pub invariant-loop-net : goal.invariant-loop-net
invariant-loop-net l = l.outputs ≡ map (name_at l.names) (take l.net-index (net_numbers l.net-items))
