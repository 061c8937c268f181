-- Lists of numbers, and lists of such lists.
use Rattle.std.specs.Prelude.{◌≡◌, ℕ, ◌<◌, List, [], length, slice_index, slice_index_or}

-- no number stands at two places
abbrev pub AreApart : List ℕ → Type 0
AreApart list = (a b : ℕ) → a < b → b < length list → slice_index list a ≡ slice_index list b → ⊥

-- the list at a place, empty past the end
abbrev pub list_at : List (List ℕ) → ℕ → List ℕ
list_at lists j = slice_index_or lists j []
