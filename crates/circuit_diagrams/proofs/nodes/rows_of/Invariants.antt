use Rattle.std.proofs.Common.{◌≡◌, map, take, slice_index}
use Rattle.tsc_net.specs.PlanView.{net_numbers}
use Rattle.circuit_diagrams.proofs.nodes.rows_of.Given as goal

abbrev pub invariant-loop-net : goal.invariant-loop-net
invariant-loop-net l = l.found.items ≡ map (slice_index l.rows) (net_numbers (take l.net-index l.list))
