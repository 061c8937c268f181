-- What contracts see of a list of rows.
use Rattle.std.specs.Prelude.{ℕ, List}

-- what contracts see of a list of rows: how many rows it has room for, and the indexes of those that it holds
pub record RowListState : Type 0 where
  pub room : ℕ
  pub rows : List ℕ
