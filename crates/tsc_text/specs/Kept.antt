-- Lines and their words, of which a last word of one byte is told from the word before it.
use Rattle.std.specs.Prelude.{◌≡◌, ℕ, zero, suc, ◌+◌, ◌-◌, ◌^◌, ◌<◌, ◌≤◌, Bool, true, cond, List, [], ◌∷◌, ◌++◌, length, slice_index_or, slice_range, All}
use Rattle.tsc_text.specs.declared.places.Place.{Place}
use Rattle.tsc_text.specs.Row.{KeptLine, Mark, PlacedLine}

-- the place of a word of one byte that stands one byte after another word
abbrev pub behind : Place → Place
behind place = record { start = place.past + 1; past = place.past + 2 }

-- the last of the first `past` places
abbrev pub last_of : List Place → ℕ → Place
last_of kept past = slice_index_or kept (past - 1) (record { start = 0; past = 0 })

-- the word after the last of the first `past` places, if there is one more
abbrev pub byte_of : List Place → ℕ → Bool → List Place
byte_of kept past has_byte = cond has_byte (behind (last_of kept past) ∷ []) []

-- the words of the places from `from` up to `past`, and the one more if there is one
abbrev pub kept_words : List Place → ℕ → ℕ → Bool → List Place
kept_words kept from past has_byte = slice_range kept from past ++ byte_of kept past has_byte

-- how many these are
abbrev pub count_words : ℕ → Mark → ℕ
count_words from mark = mark.past - from + cond mark.has_byte 1 0

-- the places of all words, where the first line's places begin at `from` and the line that has not ended has one word more or not
abbrev pub places_of : List Place → Bool → ℕ → List KeptLine → List Place
places_of kept has_byte from [] = kept_words kept from (length kept) has_byte
places_of kept has_byte from (line ∷ lines) =
    kept_words kept from line.mark.past line.mark.has_byte ++ places_of kept has_byte line.mark.past lines

-- the lines by their words, of which `words` stand before the first
abbrev pub rows_of : ℕ → ℕ → List KeptLine → List PlacedLine
rows_of from words [] = []
rows_of from words (line ∷ lines) =
    record { number = line.number; is_plan = line.mark.is_plan; past = words + count_words from line.mark }
    ∷ rows_of line.mark.past (words + count_words from line.mark) lines

-- where the places of the line at a place begin
abbrev pub kept_from : ℕ → List KeptLine → ℕ → ℕ
kept_from from [] place = from
kept_from from (line ∷ lines) zero = from
kept_from from (line ∷ lines) (suc place) = kept_from line.mark.past lines place

-- how many places the lines up to the last keep, where those before them keep `from`
abbrev pub last_kept : ℕ → List KeptLine → ℕ
last_kept from [] = from
last_kept from (line ∷ lines) = last_kept line.mark.past lines

-- each line keeps a place, the first the one at `from`, and all places are among `count`
abbrev pub AreKept : ℕ → List KeptLine → ℕ → Type 0
AreKept from [] count = from ≤ count
AreKept from (line ∷ lines) count = (from < line.mark.past) × AreKept line.mark.past lines count

-- what the places and lines keep to; one word more stands only after a place of the line that has not ended
pub record IsTable (kept : List Place) (has_byte : Bool) (lines : List KeptLine) : Type 0 where
  pub filled : AreKept 0 lines (length kept)
  pub open_line : has_byte ≡ true → last_kept 0 lines < length kept
  pub within : has_byte ≡ true → (last_of kept (length kept)).past + 2 ≤ 2 ^ 26
  pub low : All (λ place. place.past ≤ 2 ^ 26) kept
  pub few : length kept ≤ 2 ^ 26
