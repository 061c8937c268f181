-- Lines and words by their places in the text.
use Rattle.std.specs.Prelude.{ℕ, zero, suc, ◌^◌, ◌<◌, ◌≤◌, List, [], ◌∷◌, map, length, slice_range, All}
use Rattle.tsc_text.specs.declared.places.Place.{Place}
use Rattle.tsc_text.specs.Row.{PlacedLine}
use Rattle.tsc_text.specs.TextLine.{TextLine}

-- the word at a place of the text
abbrev pub word_at : List ℕ → Place → List ℕ
word_at text place = slice_range text place.start place.past

-- the line whose first word has the number `from`
abbrev pub line_at : List ℕ → List Place → ℕ → PlacedLine → TextLine
line_at text places from row =
    record { number = row.number; is_plan = row.is_plan; words = map (word_at text) (slice_range places from row.past) }

-- the lines whose first word has the number `from`
abbrev pub lines_at : List ℕ → List Place → ℕ → List PlacedLine → List TextLine
lines_at text places from [] = []
lines_at text places from (row ∷ rows) = line_at text places from row ∷ lines_at text places row.past rows

-- how many words the lines up to the last have, where those before them have `from`
abbrev pub last_past : ℕ → List PlacedLine → ℕ
last_past from [] = from
last_past from (row ∷ rows) = last_past row.past rows

-- each line begins where the one before it ends, and all words are among `count`
abbrev pub IsRising : ℕ → List PlacedLine → ℕ → Type 0
IsRising from [] count = from ≤ count
IsRising from (row ∷ rows) count = (from ≤ row.past) × IsRising row.past rows count

-- each place is one of the text
abbrev pub AreWithin : List ℕ → List Place → Type 0
AreWithin text places = All (λ place. (place.start ≤ place.past) × (place.past ≤ length text)) places

-- the number of the first word of the line at a place
abbrev pub from_of : ℕ → List PlacedLine → ℕ → ℕ
from_of from [] place = from
from_of from (row ∷ rows) zero = from
from_of from (row ∷ rows) (suc place) = from_of row.past rows place

-- what the places and the text of `Lines` keep to; the places are fewer than 2 ^ 32
pub record IsKept (text : List ℕ) (places : List Place) (rows : List PlacedLine) : Type 0 where
  pub rising : IsRising 0 rows (length places)
  pub within : AreWithin text places
  pub few : length places < 2 ^ 32
