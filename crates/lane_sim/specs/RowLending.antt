-- What a block of rows has once a row that it lent is given back.
use Rattle.std.specs.Prelude.{ℕ, List}
use Rattle.std.specs.Borrow.{Lends, MutBor, Fml, Array, u64}
use Rattle.tsc_pool.specs.Pool.{overlaid}
use Rattle.lane_sim.specs.contracts.row_block.RowBlock.{the_row}

-- the rows end with what was last written through the slice in place of their words
abbrev pub LendsRows : MutBor (List ℕ) → MutBor (List ℕ) → Fml
LendsRows rows words = Lends the_row (Array u64 0) rows words (overlaid rows.now 0)
