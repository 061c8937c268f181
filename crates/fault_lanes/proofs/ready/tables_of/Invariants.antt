use Rattle.std.proofs.Common.{◌≡◌, ℕ, ◌<◌, ◌≤◌, length, slice_index}
use Rattle.fault_secure.specs.Circuit.{node}
use Rattle.lane_sim.specs.TwoPins.{IsTableOf}
use Rattle.fault_lanes.proofs.ready.tables_of.Given as goal

-- the numbers of the nodes so far
abbrev pub invariant-loop-place : goal.invariant-loop-place
invariant-loop-place l = record {
  sized : length l.tables.items ≡ l.place;
  each : (j : ℕ) → j < l.place → (node l.net.circuit j).cover.width ≤ 2 → IsTableOf (node l.net.circuit j).cover (node l.net.circuit j).cover.width (slice_index l.tables.items j);
}
