-- A row of a table as words: what it asks of the inputs, and one character per output.
use Rattle.std.specs.Prelude.{ℕ, Bool, false, ◌&&◌, ◌||◌, ◌==◌, List, [], ◌∷◌, length, map}
use Rattle.std.specs.List.{list_all}
use Rattle.tsc_cover.specs.Cover.{Literal}
use Rattle.tsc_cover.specs.Text.{is_literal, literals_of_text}
use Rattle.tsc_text.specs.TextLine.{TextLine, the_word}
use Rattle.table_lines.specs.LineFaults.{is_pattern}

-- the character is `0`, `1`, `-` or `~`
abbrev pub is_mark : ℕ → Bool
is_mark character = is_literal character || character == 126

-- the word has so many of these characters
abbrev pub are_marks : ℕ → List ℕ → Bool
are_marks width word = length word == width && list_all is_mark word

-- the words are a row of a table with so many inputs and outputs
abbrev pub has_row_shape : ℕ → ℕ → List (List ℕ) → Bool
has_row_shape inputs outputs (input ∷ output ∷ []) = is_pattern inputs input && are_marks outputs output
has_row_shape inputs outputs _ = false

-- a row: what it asks of the inputs, which outputs it makes 1, and which it leaves free
pub record TableRow : Type 0 where
  pub input : List Literal
  pub ones : List Bool
  pub free : List Bool

-- the character is this one, where that is read; any other says nothing
abbrev pub says : Bool → ℕ → ℕ → Bool
says read mark character = read && (character == mark)

-- the row that a line states: `1` makes an output 1, and `-` leaves it free where the type frees it
abbrev pub row_at : Bool → TextLine → TableRow
row_at frees line = record {
  input = literals_of_text (the_word line 0);
  ones = map (λ character. character == 49) (the_word line 1);
  free = map (says frees 45) (the_word line 1);
}
