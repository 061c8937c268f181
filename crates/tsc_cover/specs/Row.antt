-- Rows that are kept as two numbers: which literals they stand for, and when two of them meet.
use Rattle.std.specs.Prelude.{◌≡◌, ℕ, ◌<◌, ◌≤◌, ◌^◌, Bool, IsTrue, if◌then◌else◌, List, length, map, bit_and, All}
use Rattle.tsc_cover.specs.Cover.{Literal, Free, Wants, CoverTable, row_matches, literals}
use Rattle.tsc_cover.specs.declared.rows.Row01.{Row01}

-- the literal of a pin of which a row keeps the two bits
abbrev pub literal : Bool → Bool → Literal
literal care value = if care then Wants value else Free

-- the literals of a row over that many pins
abbrev pub literals_of : ℕ → Row01 → List Literal
literals_of width row = literals width row.care row.value

-- the literals of each row
abbrev pub literals_of_each : ℕ → List Row01 → List (List Literal)
literals_of_each width rows = map (λ row. literals width row.care row.value) rows

-- the cover of that many pins with these rows
abbrev pub table_of : ℕ → Bool → List Row01 → CoverTable
table_of width on rows = record { width = width; on = on; rows = literals_of_each width rows }

-- a row over that many pins: it asks only for pins that it reads, and reads no pin beyond them
pub record IsRow (width : ℕ) (row : Row01) : Type 0 where
  pub within : bit_and row.value row.care ≡ row.value
  pub narrow : row.care < 2 ^ width

-- some list of that many bits matches both rows
pub record Meet (width : ℕ) (a b : Row01) : Type 0 where
  pub bits : List Bool
  pub sized : length bits ≡ width
  pub first : IsTrue (row_matches (literals width a.care a.value) bits)
  pub second : IsTrue (row_matches (literals width b.care b.value) bits)

-- the rows of a cover of that many pins
pub record AreRows (width : ℕ) (rows : List Row01) : Type 0 where
  pub wide : width ≤ 64
  pub each : All (IsRow width) rows
