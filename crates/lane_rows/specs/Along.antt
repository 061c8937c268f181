-- Rows given out along the evaluation order, up to a place.
use Rattle.std.specs.Prelude.{◌≡◌, ℕ, ◌+◌, ◌<◌, ◌&&◌, nat_lt, true, false, List, length, Option, Some, is_some}
use Rattle.fault_secure.specs.Circuit.{Circuit, node_net, nets}
use Rattle.tsc_net.specs.Order.{has_place, place_in}
use Rattle.lane_rows.specs.Alive.{source_count, net_at, is_needed, most_alive, watched_sources}
use Rattle.lane_rows.specs.Rows.{row_of}
use Rattle.lane_rows.specs.Holding.{IsHolding}

-- what holds when the nodes at the first places have got their rows and the nets that aren't needed any more have freed theirs
pub record IsAlong (C : Circuit) (order watched : List ℕ) (many : ℕ) (rows held : List (Option ℕ)) (free : List ℕ) (count : ℕ) : Type 0 where
  pub sized : length rows ≡ nets C
  pub holding : IsHolding rows held free count (is_needed C order watched many)
  pub of_nodes : (j : ℕ) → j < length C.nodes → is_some (row_of rows (node_net C j)) ≡ nat_lt (place_in order j) many
  pub of_sources : (source : ℕ) → source < source_count C → is_some (row_of rows source) ≡ has_place watched source
  pub reused : (place later : ℕ) → place < later → later < many
      → row_of rows (net_at C order place) ≡ row_of rows (net_at C order later) → is_needed C order watched later (net_at C order place) ≡ false
  pub kept : (source net : ℕ) → source < source_count C → has_place watched source ≡ true → net < nets C
      → row_of rows net ≡ row_of rows source → net ≡ source
  pub peaked : count ≡ most_alive C order watched many + watched_sources C watched

-- what holds when the watched ones of the first inputs and latch outputs have got rows: these alone, each a row of its own
pub record IsStarted (C : Circuit) (watched : List ℕ) (many : ℕ) (rows held : List (Option ℕ)) (free : List ℕ) (count : ℕ) : Type 0 where
  pub sized : length rows ≡ nets C
  pub holding : IsHolding rows held free count (λ net. true)
  pub some : (net : ℕ) → net < nets C → is_some (row_of rows net) ≡ (nat_lt net many && has_place watched net)
  pub apart : (net other row : ℕ) → row_of rows net ≡ Some row → row_of rows other ≡ Some row → net ≡ other
