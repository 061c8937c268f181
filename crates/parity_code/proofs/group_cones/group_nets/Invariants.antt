use Rattle.std.proofs.Common.{◌≡◌, take}
use Rattle.tsc_net.specs.PlanView.{net_numbers}
use Rattle.parity_code.specs.ParityFunction.{outputs_at}
use Rattle.parity_code.proofs.group_cones.group_nets.Given as goal

abbrev pub invariant-loop-place : goal.invariant-loop-place
invariant-loop-place l = net_numbers l.roots ≡ outputs_at l.net.circuit (take l.place-index l.group)
