-- A stretch of nodes that settle, and one that reads only inputs and itself.
use Rattle.std.specs.Prelude.{◌≡◌, ℕ, ◌<◌, ◌≤◌, ◌⊎◌, Bool, List, length}
use Rattle.fault_secure.specs.Circuit.{Circuit, node, node_net, pin_net, bit}
use Rattle.fault_secure.specs.StuckAt.{NoFault}
use Rattle.fault_secure.specs.Settle.{node_value}
use Rattle.fault_secure.specs.Segment.{IsNetBetween}

-- the nodes from place k up to place h settle in u, without a fault
pub record StretchSettles (N : Circuit) (u : List Bool) (k h : ℕ) : Type 0 where
  pub nodes : (j : ℕ) → k ≤ j → j < h → bit u (node_net N j) ≡ node_value N NoFault u j

-- the nodes from place k up to place h read inputs and nets of the stretch alone
pub record IsClosedStretch (N : Circuit) (k h : ℕ) : Type 0 where
  pub reads : (j pin : ℕ) → k ≤ j → j < h → pin < length (node N j).reads → (pin_net N j pin < N.inputs) ⊎ IsNetBetween N k h (pin_net N j pin)
