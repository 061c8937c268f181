-- Single-output covers, as BLIF's `.names` writes them: rows of literals, and what the rows are a list of, the on-set or the off-set.
use Rattle.std.specs.Prelude.{ℕ, zero, suc, Bool, true, false, not, ◌&&◌, if◌then◌else◌, List, [], ◌∷◌}
use Rattle.std.specs.List.{list_any}
use Rattle.tsc_bits.specs.Bits.{same, bit_worth}

-- what a row asks of one pin: nothing, or one value
pub data Literal : Type 0 where
  Free : Literal
  Wants : Bool → Literal

-- the literal lets the bit pass
abbrev pub accepts : Literal → Bool → Bool
accepts Free bit = true
accepts (Wants wanted) bit = same wanted bit

-- the literal asks for a bit: its character in a row is `0` or `1`
abbrev pub wants_bit : Literal → Bool
wants_bit Free = false
wants_bit (Wants bit) = true

-- the literal asks for this very bit
abbrev pub asks_for : Bool → Literal → Bool
asks_for bit Free = false
asks_for bit (Wants wanted) = same wanted bit

-- each literal of a row lets the bit of its pin pass
abbrev pub row_matches : List Literal → List Bool → Bool
row_matches [] bits = true
row_matches (l ∷ row) [] = true
row_matches (l ∷ row) (bit ∷ bits) = accepts l bit && row_matches row bits

-- a cover: how many pins it has, whether its rows are the on-set, and its rows, with one literal per pin
pub record CoverTable : Type 0 where
  pub width : ℕ
  pub on : Bool
  pub rows : List (List Literal)

-- some row of the list matches
abbrev pub some_row_matches : List (List Literal) → List Bool → Bool
some_row_matches rows bits = list_any (λ row. row_matches row bits) rows

-- the truth of a cover on the bits of its pins: an on-set is 1 exactly where some row matches, an off-set exactly where none does
abbrev pub truth : CoverTable → List Bool → Bool
truth c bits = if c.on then some_row_matches c.rows bits else not (some_row_matches c.rows bits)

-- the literal of a row at a pin
abbrev pub literal_at : List Literal → ℕ → Literal
literal_at [] pin = Free
literal_at (l ∷ row) zero = l
literal_at (l ∷ row) (suc pin) = literal_at row pin

-- the cover reads a pin in negated form: an on-set row asks for 0 there, or an off-set row for 1
abbrev pub wrong_sign : CoverTable → ℕ → Bool
wrong_sign c pin = list_any (λ row. asks_for (not c.on) (literal_at row pin)) c.rows

-- the literals of a row that is kept as two numbers: a pin is read where its bit of `care` is 1, and must then equal its bit of `value`
abbrev pub literals : ℕ → ℕ → ℕ → List Literal
literals zero care value = []
literals (suc n) care value =
    (if bit_worth n care then Wants (bit_worth n value) else Free) ∷ literals n care value

-- a cover without pins and rows: the constant 0
abbrev pub zero_cover : CoverTable
zero_cover = record { width = 0; on = true; rows = [] }
