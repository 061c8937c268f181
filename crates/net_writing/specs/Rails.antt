-- Lists of outputs that end in two rails.
use Rattle.std.specs.Prelude.{◌≡◌, ℕ, ◌+◌, List, length, slice_index}

-- so many outputs, and then the two rails
pub record EndsInRails (list : List ℕ) (outputs rail1 rail2 : ℕ) : Type 0 where
  pub sized : length list ≡ outputs + 2
  pub first : slice_index list outputs ≡ rail1
  pub second : slice_index list (outputs + 1) ≡ rail2
