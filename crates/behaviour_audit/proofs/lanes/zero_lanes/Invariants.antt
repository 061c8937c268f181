-- So many lanes were pushed.
use Rattle.std.proofs.Common.{◌≡◌, length}
use Rattle.behaviour_audit.proofs.lanes.zero_lanes.Given as goal

abbrev pub invariant-loop : goal.invariant-loop
invariant-loop l = length l.lanes ≡ l.counter
