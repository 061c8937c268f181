-- What contracts see of a bench of faults, where two nets agree under a fault, and the lanes that nets have under one.
use Rattle.std.specs.Prelude.{◌≡◌, ℕ, ◌<◌, Bool, List, slice_index, Option}
use Rattle.fault_secure.specs.Circuit.{Circuit, bit}
use Rattle.fault_secure.specs.StuckAt.{StuckAt}
use Rattle.fault_secure.specs.Settle.{Settles}
use Rattle.lane_sim.specs.Points.{PointsState, source_bit, point_input, point_state}

-- the netlist without its names, and the points at which it is settled, if it is
pub record FaultBenchState : Type 0 where
  pub circuit : Circuit
  pub points : Option PointsState

-- in the valuation that settles at a point under the fault the two nets have the same bit
pub record AgreeUnder (C : Circuit) (f : StuckAt) (points : PointsState) (one other : ℕ) (p : ℕ) : Type 0 where
  pub valuation : List Bool
  pub settles : Settles C f (point_input points p) (point_state points p) valuation
  pub agree : bit valuation one ≡ bit valuation other

-- the lanes, sixteen words per net, have of the first nets of a list, so many of them, at each point what the net has under the fault
abbrev pub HaveLanesUnder : Circuit → StuckAt → PointsState → List ℕ → ℕ → List ℕ → Type 0
HaveLanesUnder C f points shown many lanes =
    (place p : ℕ) (v : List Bool) → place < many → p < 1024 → Settles C f (point_input points p) (point_state points p) v
    → source_bit lanes place p ≡ bit v (slice_index shown place)
