-- What contracts see of a bench, and what a settled one shows.
use Rattle.std.specs.Prelude.{◌≡◌, ℕ, ◌<◌, ◌==◌, Bool, true, List, [], Option, unwrap_or, slice_index_or, IsSome}
use Rattle.std.specs.List.{position_or_len}
use Rattle.fault_secure.specs.Circuit.{Circuit, bit}
use Rattle.fault_secure.specs.StuckAt.{StuckAt}
use Rattle.fault_secure.specs.Settle.{Settles}
use Rattle.tsc_net.specs.Order.{has_place}
use Rattle.fault_secure.specs.OneRun.{HasOneValuation}
use Rattle.lane_sim.specs.Lanes.{lane_bit}
use Rattle.lane_sim.specs.Points.{PointsState, point_input, point_state}

-- the netlist without its names, the watched nets, the sixteen words of each of them once the bench was settled, and the
-- number of rows that it took from its pool
pub record BenchState : Type 0 where
  pub circuit : Circuit
  pub watched : List ℕ
  pub lanes : Option (List (List ℕ))
  pub rows : ℕ

-- the sixteen words of a watched net
abbrev pub lane_of : BenchState → ℕ → List ℕ
lane_of bench net = slice_index_or (unwrap_or bench.lanes []) (position_or_len (λ k. k == net) bench.watched) []

-- each watched net has, at each of so many first points, the bit that it has in a valuation that settles there under the fault
pub record ShowsSettled (many : ℕ) (bench : BenchState) (points : PointsState) (f : StuckAt) : Type 0 where
  pub settled : IsSome bench.lanes
  pub lanes : (p net : ℕ) (v : List Bool) → p < many → has_place bench.watched net ≡ true
      → Settles bench.circuit f (point_input points p) (point_state points p) v → lane_bit (lane_of bench net) p ≡ bit v net

-- at each point exactly one valuation settles under the fault
abbrev pub HasOneValuationEach : Circuit → StuckAt → PointsState → Type 0
HasOneValuationEach N f points = (p : ℕ) → HasOneValuation N f (point_input points p) (point_state points p)
