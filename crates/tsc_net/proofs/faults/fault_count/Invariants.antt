-- The faults of the nets before this one were counted, at most 130 a net.
use Rattle.std.proofs.Common.{◌≡◌, ◌+◌, ◌*◌, ◌≤◌, length}
use Rattle.fault_secure.specs.Listed.{listed_faults}
use Rattle.tsc_net.proofs.FaultNumbers.{left_from}
use Rattle.tsc_net.proofs.faults.fault_count.Given as goal

abbrev pub invariant-loop-at : goal.invariant-loop-at
invariant-loop-at l = record {
  counted : l.count + length (left_from l.net.circuit l.at) ≡ length (listed_faults l.net.circuit);
  small : l.count ≤ l.at * 130;
}
