use Rattle.std.proofs.Common.{take}
use Rattle.std.specs.List.{AllZip}
use Rattle.tsc_net.specs.PlanView.{net_numbers}
use Rattle.gate_net.specs.NetLines.{HasLine}
use Rattle.gate_net.proofs.net_reading.lines_of.Given as goal

-- the lines of the nets so far
abbrev pub invariant-loop-net : goal.invariant-loop-net
invariant-loop-net l = AllZip (HasLine l.lines) (net_numbers (take l.net-index l.nets)) l.list
