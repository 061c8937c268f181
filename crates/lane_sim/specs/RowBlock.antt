-- The rows of a bench: all the rows of a pool, sixteen words each, one after another.
use Rattle.std.specs.Prelude.{◌≡◌, ℕ, ◌*◌, List, length, take, drop}
use Rattle.tsc_pool.specs.Pool.{PoolState, IsWhole, AreThoseOut}

-- the words of a row
abbrev pub row_words : List ℕ → ℕ → List ℕ
row_words block row = take 16 (drop (row * 16) block)

-- all the pool's rows of sixteen words are out, and they are those that are held
pub record HoldsAll (pool : PoolState) (held : List ℕ) : Type 0 where
  pub whole : IsWhole pool
  pub width : pool.width ≡ 16
  pub out : AreThoseOut pool held
  pub all : length held ≡ pool.rows
