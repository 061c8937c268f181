-- The lines of a text and their words, by their places, as they are added.
use Rattle.std.specs.Prelude.{ℕ, Bool, cond, nat_lt, List, [], ◌∷◌, ◌++◌, length}
use Rattle.tsc_text.specs.declared.places.Place.{Place}
use Rattle.tsc_text.specs.Row.{PlacedLine}
use Rattle.tsc_text.specs.Places.{last_past}

-- the places of words, and the lines that ended
pub record Table : Type 0 where
  pub places : List Place
  pub rows : List PlacedLine

-- no line, and no word
abbrev pub no_lines : Table
no_lines = record { places = []; rows = [] }

-- the same, and one word more
abbrev pub with_word : Table → Place → Table
with_word table place = record table { places = table.places ++ place ∷ [] }

-- the lines, and with them one of the words from the place `from` on if there are any
abbrev pub with_row : List PlacedLine → ℕ → ℕ → ℕ → Bool → List PlacedLine
with_row rows from past number is_plan =
    cond (nat_lt from past) (rows ++ record { number = number; is_plan = is_plan; past = past } ∷ []) rows

-- the words after those of the last line are a line, if there are any
abbrev pub with_line : Table → ℕ → Bool → Table
with_line table number is_plan =
    record table { rows = with_row table.rows (last_past 0 table.rows) (length table.places) number is_plan }
