-- What a pool is once the slice that it lent, a row's words or its block, was written.
use Rattle.std.specs.Prelude.{ℕ, List}
use Rattle.std.specs.Borrow.{Lends, MutBor, Fml, Array, u64}
use Rattle.tsc_pool.specs.Pool.{PoolState, with_words, with_block}
use Rattle.tsc_pool.specs.contracts.pool.Pool.{the_row}

-- the pool ends with what was last written through the slice in place of the row's words
abbrev pub LendsWords : MutBor PoolState → ℕ → MutBor (List ℕ) → Fml
LendsWords pool row words = Lends the_row (Array u64 0) pool words (with_words pool.now row)

-- the pool ends with what was last written through the slice in place of its block
abbrev pub LendsBlock : MutBor PoolState → MutBor (List ℕ) → Fml
LendsBlock pool words = Lends the_row (Array u64 0) pool words (with_block pool.now)
