use Rattle.std.proofs.Common.{◌≡◌}
use Rattle.std.specs.List.{range_with_len}
use Rattle.tsc_net.specs.PlanView.{net_numbers}
use Rattle.fault_lanes.proofs.ready.pin_places.Given as goal

abbrev pub invariant-loop-number : goal.invariant-loop-number
invariant-loop-number l = net_numbers l.places.items ≡ range_with_len 0 l.number
