use Rattle.std.proofs.Common.{◌≡◌, ℕ, ◌<◌, Bool, List}
use Rattle.fault_secure.specs.Circuit.{bit}
use Rattle.lane_rows.specs.Alive.{source_count, net_at}
use Rattle.lane_sim.specs.Points.{source_bit}
use Rattle.fault_lanes.specs.Batch.{lane_fault}
use Rattle.fault_lanes.specs.Settling.{HasSources, NodesSettle}
use Rattle.fault_lanes.proofs.settling.settle_nodes.Given as goal

-- the nodes at the first places have what they have in each valuation that settles
abbrev pub invariant-loop-place : goal.invariant-loop-place
invariant-loop-place l = record {
  sources : (other lane : ℕ) → other < source_count l.net.circuit → lane < 1024 → source_bit l.words other lane ≡ source_bit l.initial.words other lane;
  done : (lane : ℕ) (v : List Bool) → lane < 1024 → HasSources l.net.circuit l.initial.words lane v → NodesSettle l.net.circuit (lane_fault l.chains.faults.items lane) v
      → (k : ℕ) → k < l.place-index → source_bit l.words (net_at l.net.circuit l.place-items k) lane ≡ bit v (net_at l.net.circuit l.place-items k);
}
