use Rattle.std.proofs.Common.{◌≡◌, take}
use Rattle.tsc_net.specs.PlanView.{net_numbers}
use Rattle.twin_synth.proofs.planning.nets_of.Given as goal

abbrev pub invariant-loop-net : goal.invariant-loop-net
invariant-loop-net l = net_numbers l.nets ≡ take l.net-index l.list
