-- The nets so far are those of the first nodes.
use Rattle.std.proofs.Common.{◌≡◌, ℕ, ◌<◌, length, slice_index}
use Rattle.fault_secure.specs.Circuit.{node_net}
use Rattle.tsc_net.specs.PlanView.{net_numbers}
use Rattle.lane_sim.proofs.fault_bench.node_nets.Given as goal

abbrev pub invariant-loop-node : goal.invariant-loop-node
invariant-loop-node l = record {
  sized : length l.watch ≡ l.node;
  each : (j : ℕ) → j < l.node → slice_index (net_numbers l.watch) j ≡ node_net l.net.circuit j;
}
