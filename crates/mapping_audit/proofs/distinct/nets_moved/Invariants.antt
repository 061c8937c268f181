use Rattle.std.proofs.Common.{◌≡◌, take, map, slice_index}
use Rattle.tsc_net.specs.PlanView.{net_numbers}
use Rattle.mapping_audit.proofs.distinct.nets_moved.Given as goal

-- the nets so far
abbrev pub invariant-loop-read : goal.invariant-loop-read
invariant-loop-read l = net_numbers l.nets.items ≡ map (slice_index l.moved) (net_numbers (take l.read-index l.reads))
