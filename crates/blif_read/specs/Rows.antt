-- The rows of a cover in a text: those up to the next directive.
use Rattle.std.specs.Prelude.{ℕ, Bool, true, false, ◌&&◌, ◌||◌, ◌==◌, List, [], ◌∷◌, map, length, nat_lt, codes}
use Rattle.std.specs.Str.{bytes_eq}
use Rattle.tsc_cover.specs.Cover.{CoverTable}
use Rattle.tsc_cover.specs.Text.{is_row_text, literals_of_text}
use Rattle.tsc_text.specs.TextLine.{TextLine}
use Rattle.blif_read.specs.LineKind.{kind_of}
use Rattle.blif_read.specs.declared.kinds.LineKind.{LineKind}
use Rattle.blif_read.specs.declared.kinds.LineKind.TheVariants.{PlanLine, Row}

-- the characters for the pins of a row with these words; a row without pins has none
abbrev pub input_of : List (List ℕ) → List ℕ
input_of [] = []
input_of (word ∷ []) = []
input_of (input ∷ output ∷ more) = input

-- the output word of a row with these words
abbrev pub output_word : List (List ℕ) → List ℕ
output_word [] = []
output_word (word ∷ []) = word
output_word (input ∷ output ∷ more) = output

-- whether the row's output is `1`
abbrev pub output_of : TextLine → Bool
output_of row = bytes_eq (output_word row.words) (codes "1")

-- the word is `0` or `1`
abbrev pub is_bit_word : List ℕ → Bool
is_bit_word word = bytes_eq word (codes "0") || bytes_eq word (codes "1")

-- the words are a row of a cover with that many pins: one character per pin and the output, or the output alone without pins
abbrev pub has_row_shape : ℕ → List (List ℕ) → Bool
has_row_shape width [] = false
has_row_shape width (output ∷ []) = width == 0 && is_bit_word output
has_row_shape width (input ∷ output ∷ []) = ((nat_lt 0 width && length input == width) && is_row_text input) && is_bit_word output
has_row_shape width (input ∷ output ∷ word ∷ words) = false

-- the rows before the next directive, a line of this kind among them or not
abbrev pub rows_at : LineKind → TextLine → List TextLine → List TextLine
rows_at PlanLine line rows = rows
rows_at Row line rows = line ∷ rows
rows_at _ line rows = []

-- the rows of these lines up to the first directive
abbrev pub rows_of : List TextLine → List TextLine
rows_of [] = []
rows_of (line ∷ lines) = rows_at (kind_of line) line (rows_of lines)

-- whether rows are an on-set, which they are by the first row's output; without rows they are one
abbrev pub is_on_set : List TextLine → Bool
is_on_set [] = true
is_on_set (row ∷ rows) = output_of row

-- the cover with that many pins and these rows
abbrev pub cover_with : ℕ → List TextLine → CoverTable
cover_with width rows = record { width = width; on = is_on_set rows; rows = map (λ row. literals_of_text (input_of row.words)) rows }
