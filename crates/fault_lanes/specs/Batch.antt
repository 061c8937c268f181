-- Batches: one fault per lane.
use Rattle.std.specs.Prelude.{ℕ, ◌<◌, List, ◌∷◌, map, slice_index_or, Option, None, IsTrue}
use Rattle.fault_secure.specs.Circuit.{Circuit, nets}
use Rattle.fault_secure.specs.StuckAt.{StuckAt, NoFault, is_listed, fault_cell}
use Rattle.tsc_net.specs.Fault.{stuck_at, stuck_at_or_none}
use Rattle.tsc_net.specs.declared.fault.Fault.{Fault}

-- the fault of a lane in a batch: lane 0 is without a fault, lane p + 1 has the one at place p of the list, and the lanes past the list
-- have none
abbrev pub batch_fault : List Fault → ℕ → StuckAt
batch_fault faults lane = slice_index_or (NoFault ∷ map stuck_at faults) lane NoFault

-- the fault of a lane where lanes have a fault or none
abbrev pub lane_fault : List (Option Fault) → ℕ → StuckAt
lane_fault faults lane = stuck_at_or_none (slice_index_or faults lane None)

-- the cell at which a listed fault is drives a net of the circuit
abbrev pub ListedAreAtNets : Type 0
ListedAreAtNets = (N : Circuit) (f : StuckAt) → IsTrue (is_listed N f) → fault_cell f < nets N
