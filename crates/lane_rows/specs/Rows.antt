-- Rows for the nets of a circuit: a list with one entry per net, none for a net without a row.
use Rattle.std.specs.Prelude.{◌≡◌, ℕ, ◌<◌, true, false, List, length, slice_index_or, Option, Some, None, IsSome}
use Rattle.fault_secure.specs.Circuit.{Circuit, node_net, nets}
use Rattle.tsc_net.specs.Order.{has_place}
use Rattle.lane_rows.specs.Alive.{source_count, net_at, is_needed, is_alive}

-- the row of each net, and how many rows there are
pub record RowsOf : Type 0 where
  pub rows : List (Option ℕ)
  pub count : ℕ

-- the row of a net
abbrev pub row_of : List (Option ℕ) → ℕ → Option ℕ
row_of rows net = slice_index_or rows net None

-- rows stay apart while their nets are alive. Reused: where a node has the row of one before it, the earlier one's net
-- isn't needed from the later one's place on. Kept: the row of a watched input or latch output is that of no other net
pub record RowsApart (C : Circuit) (order watched : List ℕ) (rows : List (Option ℕ)) : Type 0 where
  pub reused : (place later : ℕ) → place < later → later < length order
      → row_of rows (net_at C order place) ≡ row_of rows (net_at C order later) → is_needed C order watched later (net_at C order place) ≡ false
  pub kept : (source net : ℕ) → source < source_count C → has_place watched source ≡ true → net < nets C
      → row_of rows net ≡ row_of rows source → net ≡ source

-- each row is one of `count` rows
abbrev pub AreBelow : ℕ → List (Option ℕ) → Type 0
AreBelow count rows = (net row : ℕ) → row_of rows net ≡ Some row → row < count

-- each node's net and each watched net has a row
pub record HaveRows (C : Circuit) (watched : List ℕ) (rows : List (Option ℕ)) : Type 0 where
  pub of_nodes : (j : ℕ) → j < length C.nodes → IsSome (row_of rows (node_net C j))
  pub of_watched : (net : ℕ) → net < nets C → has_place watched net ≡ true → IsSome (row_of rows net)

-- inputs and latch outputs that aren't watched have no row
abbrev pub OthersHaveNone : Circuit → List ℕ → List (Option ℕ) → Type 0
OthersHaveNone C watched rows = (source : ℕ) → source < source_count C → has_place watched source ≡ false → row_of rows source ≡ None

-- no two nodes whose nets are alive at one place have the same row
abbrev pub AliveApart : Circuit → List ℕ → List ℕ → List (Option ℕ) → Type 0
AliveApart C order watched rows =
    (place j k : ℕ) → j < length C.nodes → k < length C.nodes → is_alive C order watched place j ≡ true → is_alive C order watched place k ≡ true
    → row_of rows (node_net C j) ≡ row_of rows (node_net C k) → j ≡ k
