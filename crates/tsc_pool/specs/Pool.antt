-- What contracts see of a pool: its rows, the words of each, which rows are free and which are out.
use Rattle.std.specs.Prelude.{◌≡◌, ℕ, zero, suc, ◌+◌, ◌*◌, ◌<◌, ◌≤◌, Bool, true, false, not, ◌&&◌, IsTrue, nat_eq, nat_lt, List, ◌++◌, length, take, drop}
use Rattle.std.specs.List.{list_any, IsDistinct}
use Rattle.std.specs.Ordering.{nat_cmp}
use Rattle.std.specs.FinMap as map

-- what contracts see of a pool: how many rows it has, how many words a row has, the words of all rows one after another, and the indexes of the free rows. The one that is taken next stands at the end
pub record PoolState : Type 0 where
  pub rows : ℕ
  pub width : ℕ
  pub block : List ℕ
  pub free : List ℕ

-- whether the index stands among these indexes
abbrev pub is_listed : List ℕ → ℕ → Bool
is_listed indexes index = list_any (nat_eq index) indexes

-- whether the row with this index is out: the pool has such a row, and it isn't free
abbrev pub is_out : PoolState → ℕ → Bool
is_out pool index = nat_lt index pool.rows && not (is_listed pool.free index)

-- the row with this index is out
abbrev pub IsOut : PoolState → ℕ → Type 0
IsOut pool index = IsTrue (is_out pool index)

-- these indexes are those of the rows that are out
abbrev pub AreThoseOut : PoolState → List ℕ → Type 0
AreThoseOut pool indexes = (index : ℕ) → is_listed indexes index ≡ is_out pool index

-- the place in the block where this word of the row stands
abbrev pub place_of : PoolState → ℕ → ℕ → ℕ
place_of pool index word = index * pool.width + word

-- the words of the row with this index: as many as the width says, from their place in the block on
abbrev pub words_of : PoolState → ℕ → List ℕ
words_of pool index = take pool.width (drop (index * pool.width) pool.block)

-- the map with one more entry, unless the row is free
abbrev pub with_entry : Bool → map.FinMap nat_cmp (List ℕ) → ℕ → List ℕ → map.FinMap nat_cmp (List ℕ)
with_entry true entries index words = entries
with_entry false entries index words = map.insert entries index words

-- of the rows with an index below the number, those that are out, each with its words
unfoldable pub rows_below : PoolState → ℕ → map.FinMap nat_cmp (List ℕ)
rows_below pool zero = map.empty
rows_below pool (suc index) = with_entry (is_listed pool.free index) (rows_below pool index) index (words_of pool index)

-- the rows that are out, each with its words
abbrev pub rows_out : PoolState → map.FinMap nat_cmp (List ℕ)
rows_out pool = rows_below pool pool.rows

-- the block with these words laid over it from a place on. Its length stays: what would lie past its end is cut off
abbrev pub overlaid : List ℕ → ℕ → List ℕ → List ℕ
overlaid block start words = take (length block) (take start block ++ (words ++ drop (length words) (drop start block)))

-- the pool after these words were written from the row's first word on
abbrev pub with_words : PoolState → ℕ → List ℕ → PoolState
with_words pool row words = record pool { block = overlaid pool.block (row * pool.width) words }

-- the pool after these words were written from the block's first word on
abbrev pub with_block : PoolState → List ℕ → PoolState
with_block pool words = record pool { block = overlaid pool.block 0 words }

-- the two have the same rows and the same words; which rows are free may differ
pub record KeepsWords (old new : PoolState) : Type 0 where
  pub rows : new.rows ≡ old.rows
  pub width : new.width ≡ old.width
  pub block : new.block ≡ old.block

-- what is true of every pool: the block has a place for each word of each row and stays within the limit, each free index is that of a row, and no index is free twice
pub record IsWhole (pool : PoolState) : Type 0 where
  pub filled : length pool.block ≡ pool.rows * pool.width
  pub small : pool.rows * pool.width ≤ 134217728
  pub inside : (index : ℕ) → is_listed pool.free index ≡ true → index < pool.rows
  pub once : IsDistinct nat_eq pool.free
