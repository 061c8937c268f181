-- Decisions that stand in the rows of a pool, one word each.
use Rattle.std.specs.Prelude.{◌≡◌, ℕ, ◌+◌, ◌*◌, ◌/◌, ◌%◌, ◌<◌, List, map, length, slice_index}
use Rattle.tsc_pool.specs.Pool.{PoolState, IsWhole, AreThoseOut, words_of}
use Rattle.tsc_pool.specs.RowList.{RowListState}
use Rattle.diagrams.specs.declared.decision.Decision.{Decision}

-- what contracts see of the rows: how many there can be, and those that there are
pub record DecisionList : Type 0 where
  pub room : ℕ
  pub rows : List Decision

-- the numbers of a decision fit their parts of a word: 11 bits of input, 22 of either row
pub record IsSmall (d : Decision) : Type 0 where
  pub input : d.input < 2048
  pub low : d.low < 4194304
  pub high : d.high < 4194304

-- the word that holds a decision: its input above its low row above its high row
abbrev pub word_of : Decision → ℕ
word_of d = (d.input * 4194304 + d.low) * 4194304 + d.high

-- the decision that a word holds
abbrev pub decision_of : ℕ → Decision
decision_of word = record { input = word / 4194304 / 4194304; low = word / 4194304 % 4194304; high = word % 4194304 }

-- the decision in a row of the pool
abbrev pub decision_in : PoolState → ℕ → Decision
decision_in pool index = decision_of (slice_index (words_of pool index) 0)

abbrev pub decisions_in : PoolState → List ℕ → List Decision
decisions_in pool held = map (decision_in pool) held

-- the rows of the pool that are out are those that are held, one word each
pub record HoldsRows (pool : PoolState) (held : RowListState) : Type 0 where
  pub whole : IsWhole pool
  pub width : pool.width ≡ 1
  pub out : AreThoseOut pool held.rows
  pub room : held.room ≡ pool.rows
  pub count : length pool.free + length held.rows ≡ pool.rows
