use Rattle.std.proofs.Common.{◌≡◌, [], drop, map, slice_index}
use Rattle.tsc_net.specs.PlanView.{net_numbers}
use Rattle.mapping_reading.specs.ReadMapping.{new_onto}
use Rattle.mapping_audit.proofs.distinct.distinct_moved.Given as goal

-- adding what is left gives what adding all does
abbrev pub invariant-loop-read : goal.invariant-loop-read
invariant-loop-read l = new_onto l.nets.items (map (slice_index l.moved) (net_numbers (drop l.read-index l.reads))) ≡ new_onto [] (map (slice_index l.moved) (net_numbers l.reads))
