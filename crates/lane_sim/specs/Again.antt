-- What is settled again where a netlist that has settled under one fault is to settle under another one.
use Rattle.std.specs.Prelude.{◌≡◌, ℕ, ◌<◌, ◌≤◌, ◌==◌, Bool, true, false, List, length, slice_index}
use Rattle.fault_secure.specs.Circuit.{Circuit, nets, bit}
use Rattle.fault_secure.specs.StuckAt.{StuckAt, NoFault, Stem, Pin}
use Rattle.fault_secure.specs.Settle.{Settles}
use Rattle.tsc_net.specs.Order.{fan_ins, evaluation_order}
use Rattle.lane_rows.specs.Alive.{source_count, net_at, reads_net}
use Rattle.lane_sim.specs.Points.{PointsState, source_bit, point_input, point_state}
use Rattle.lane_sim.specs.Program.{ProgramState}
use Rattle.lane_sim.specs.Along.{row_there}
use Rattle.lane_sim.specs.Readers.{has}
use Rattle.lane_sim.specs.declared.place_set.PlaceSet.{PlaceSet}

-- the fault is at the net: its stem, or a pin of the node or latch that drives it
abbrev pub is_at : StuckAt → ℕ → Bool
is_at NoFault net = false
is_at (Stem at held) net = at == net
is_at (Pin driver index held) net = driver == net

-- it is at nets of the circuit alone
abbrev pub IsAtNets : Circuit → StuckAt → Type 0
IsAtNets C f = (net : ℕ) → is_at f net ≡ true → net < nets C

-- the net that the node at a place of the evaluation order drives
abbrev pub net_there : Circuit → ℕ → ℕ
net_there C place = net_at C (evaluation_order (fan_ins C)) place

-- the node at a place reads the net
abbrev pub reads_there : Circuit → ℕ → ℕ → Bool
reads_there C net place = reads_net C net (slice_index (evaluation_order (fan_ins C)) place)

-- the valuation settles under the fault at a point
abbrev pub SettlesThere : Circuit → StuckAt → PointsState → ℕ → List Bool → Type 0
SettlesThere C f points p v = Settles C f (point_input points p) (point_state points p) v

-- the row of the net of each node from the place `low` on and below `high` has at each point what the net has under the fault
abbrev pub HoldsRows : ProgramState → StuckAt → PointsState → List ℕ → ℕ → ℕ → Type 0
HoldsRows program f points block low high =
    (p place : ℕ) (v : List Bool) → p < 1024 → SettlesThere program.circuit f points p v → low ≤ place → place < high
    → source_bit block (row_there program place) p ≡ bit v (net_there program.circuit place)

-- the net has the same bit under both faults, at each point
abbrev pub IsSame : Circuit → StuckAt → StuckAt → PointsState → ℕ → Type 0
IsSame C e f points net =
    (p : ℕ) (u v : List Bool) → p < 1024 → SettlesThere C e points p u → SettlesThere C f points p v → bit u net ≡ bit v net

-- the fault is neither at the node at a place nor at an input or latch output that this node reads
pub record IsApart (C : Circuit) (f : StuckAt) (place : ℕ) : Type 0 where
  pub node : is_at f (net_there C place) ≡ false
  pub sources : (net : ℕ) → net < source_count C → reads_there C net place ≡ true → is_at f net ≡ false

-- both faults are apart from the node at a place, and of the nets of the first nodes those that it reads are the same
pub record IsIdle (C : Circuit) (e f : StuckAt) (points : PointsState) (places place : ℕ) : Type 0 where
  pub old_apart : IsApart C e place
  pub new_apart : IsApart C f place
  pub nodes : (k : ℕ) → k < places → reads_there C (net_there C k) place ≡ true → IsSame C e f points (net_there C k)

-- the first places have settled under the new fault and the others still under the old one, and of these each that isn't marked is idle
pub record IsWalked (program : ProgramState) (e f : StuckAt) (points : PointsState) (block : List ℕ) (marked : PlaceSet) (places : ℕ) : Type 0 where
  pub done : HoldsRows program f points block 0 places
  pub rest : HoldsRows program e points block places (length program.circuit.nodes)
  pub idle : (place : ℕ) → places ≤ place → place < length program.circuit.nodes → has marked place ≡ false → IsIdle program.circuit e f points places place
