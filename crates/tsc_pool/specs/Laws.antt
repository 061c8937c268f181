-- The laws of a pool: rows share no word, and a write to one is read there and changes no other.
use Rattle.std.specs.Prelude.{◌≡◌, ◌≢◌, ℕ, ◌<◌, List, length, slice_index, if◌then◌else◌, Some, None}
use Rattle.std.specs.FinMap as map
use Rattle.tsc_pool.specs.Pool.{PoolState, is_out, place_of, words_of, rows_out, with_words, with_block}

-- no two rows of a pool share a word: a place of the block where a word of either stands makes them one row
abbrev pub RowsShareNoWord : Type 0
RowsShareNoWord =
    (pool : PoolState) (row other word another : ℕ) → word < pool.width → another < pool.width →
    place_of pool row word ≡ place_of pool other another → row ≡ other

-- each word of a row stands at its place of the block
abbrev pub WordsStandAtTheirPlaces : Type 0
WordsStandAtTheirPlaces =
    (pool : PoolState) (row word : ℕ) → word < pool.width → slice_index (words_of pool row) word ≡ slice_index pool.block (place_of pool row word)

-- the map of the rows that are out has the words of each of them, and nothing else
abbrev pub EntriesAreRowsOut : Type 0
EntriesAreRowsOut =
    (pool : PoolState) (index : ℕ) → map.get (rows_out pool) index ≡ (if is_out pool index then Some (words_of pool index) else None)

-- to write a row's whole width is to give it a new entry in the map of the rows that are out
abbrev pub WritesInsert : PoolState → ℕ → Type 0
WritesInsert pool row =
    (words : List ℕ) → length words ≡ pool.width → rows_out (with_words pool row words) ≡ map.insert (rows_out pool) row words

-- to write a row's whole width changes no other row
abbrev pub WritesKeepOthers : PoolState → ℕ → Type 0
WritesKeepOthers pool row =
    (words : List ℕ) (other : ℕ) → length words ≡ pool.width → other ≢ row → words_of (with_words pool row words) other ≡ words_of pool other

-- a row holds what was written to its whole width
abbrev pub WritesAreRead : PoolState → ℕ → Type 0
WritesAreRead pool row = (words : List ℕ) → length words ≡ pool.width → words_of (with_words pool row words) row ≡ words

-- to write the whole block leaves what was written
abbrev pub WritesRefill : PoolState → Type 0
WritesRefill pool = (words : List ℕ) → length words ≡ length pool.block → (with_block pool words).block ≡ words
