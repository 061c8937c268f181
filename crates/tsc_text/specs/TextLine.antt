-- Lines of a text, as lists of words.
use Rattle.std.specs.Prelude.{ℕ, Bool, false, List, [], ◌∷◌, length, slice_index_or}
use Rattle.std.specs.List.{sum_by}

-- a line of a text: the number of its first physical line, from 1, whether it is a plan line, and its words
pub record TextLine : Type 0 where
  pub number : ℕ
  pub is_plan : Bool
  pub words : List (List ℕ)

-- the line with these words, if there are any
abbrev pub line_with : ℕ → Bool → List (List ℕ) → List TextLine
line_with number is_plan [] = []
line_with number is_plan (w ∷ ws) = record { number = number; is_plan = is_plan; words = w ∷ ws } ∷ []

-- no line
abbrev pub no_line : TextLine
no_line = record { number = 0; is_plan = false; words = [] }

-- the line at a place
abbrev pub the_line : List TextLine → ℕ → TextLine
the_line lines place = slice_index_or lines place no_line

-- the word at a place of a line
abbrev pub the_word : TextLine → ℕ → List ℕ
the_word line place = slice_index_or line.words place []

-- how many words the lines have
abbrev pub word_count : List TextLine → ℕ
word_count lines = sum_by (λ line. length line.words) lines
