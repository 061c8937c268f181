-- Places of words, each as one number.
use Rattle.std.specs.Prelude.{ℕ, ◌+◌, ◌/◌, ◌%◌, ◌≡◌, ◌<◌, ◌≤◌, cond, ◌==◌, List, length, slice_index_or, All}
use Rattle.tsc_text.specs.declared.places.Place.{Place}

-- the place that a number stands for, beside the places of the longer words
abbrev pub place_of : List Place → ℕ → Place
place_of longer code =
    cond (code % 64 == 63) (slice_index_or longer (code / 64) (record { start = 0; past = 0 })) (record { start = code / 64; past = code / 64 + code % 64 })

-- whether a number stands for one of so many longer words, if for any
abbrev pub IsCode : ℕ → ℕ → Type 0
IsCode count code = code % 64 ≡ 63 → code / 64 < count

-- what the numbers of words keep to
pub record AreCodes (longer : List Place) (codes : List ℕ) : Type 0 where
  pub listed : All (IsCode (length longer)) codes
  pub few : length longer ≤ length codes
