-- What a settle needs of a netlist, worked out once.
use Rattle.std.specs.Prelude.{◌≡◌, ℕ, ◌<◌, ◌≤◌, List, length, slice_index}
use Rattle.std.specs.List.{range_with_len}
use Rattle.fault_secure.specs.Circuit.{Circuit, node}
use Rattle.tsc_net.specs.PlanView.{net_numbers}
use Rattle.lane_sim.specs.TwoPins.{IsTableOf}
use Rattle.fault_lanes.specs.declared.ready.Ready.{Ready}

-- per node of at most two pins the number of its function
pub record AreTables (N : Circuit) (tables : List ℕ) : Type 0 where
  pub sized : length tables ≡ length N.nodes
  pub each : (j : ℕ) → j < length N.nodes → (node N j).cover.width ≤ 2 → IsTableOf (node N j).cover (node N j).cover.width (slice_index tables j)

-- so, and the rows of 64 pins, in order
pub record IsReady (N : Circuit) (ready : Ready) : Type 0 where
  pub tables : AreTables N ready.tables.items
  pub places : net_numbers ready.places.items ≡ range_with_len 0 64
