-- Tables of names: each text once, in the order in which it was first seen. The number of a name is its place.
use Rattle.std.specs.Prelude.{◌≡◌, ℕ, ◌<◌, Bool, List, [], ◌∷◌, ◌++◌, if◌then◌else◌, length, position, Option, slice_index_or}
use Rattle.std.specs.Str.{bytes_eq}
use Rattle.std.specs.List.{list_any, position_or_len}

-- the text stands in the list
abbrev pub has_text : List (List ℕ) → List ℕ → Bool
has_text names text = list_any (bytes_eq text) names

-- the list with the text, which goes last where it wasn't there
abbrev pub with_text : List (List ℕ) → List ℕ → List (List ℕ)
with_text names text = if has_text names text then names else names ++ text ∷ []

-- the place of the text, and the length of the list where it doesn't stand there
abbrev pub place_of_text : List (List ℕ) → List ℕ → ℕ
place_of_text names text = position_or_len (bytes_eq text) names

-- the place of the text, if it stands there
abbrev pub find_text : List (List ℕ) → List ℕ → Option ℕ
find_text names text = position (bytes_eq text) names

-- the text at a place, empty past the end
abbrev pub text_at : List (List ℕ) → ℕ → List ℕ
text_at names place = slice_index_or names place []

-- different places have different texts
pub record IsNumbering (names : List (List ℕ)) : Type 0 where
  pub distinct : (a b : ℕ) → a < length names → b < length names → text_at names a ≡ text_at names b → a ≡ b
