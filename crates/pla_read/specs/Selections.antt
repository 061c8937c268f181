-- What is selected of the lines of a section: its directives and its rows.
use Rattle.std.specs.Prelude.{ℕ, Bool, true, List, codes, filter, find, unwrap_or, Option, None, Some}
use Rattle.std.specs.Option.{option_map, is_some}
use Rattle.std.specs.Str.{bytes_eq}
use Rattle.tsc_text.specs.TextLine.{TextLine, the_word}
use Rattle.table_lines.specs.LineFaults.{number_in}
use Rattle.pla_read.specs.LineKind.{kind_of, same_kind}
use Rattle.pla_read.specs.declared.kinds.LineKind.{LineKind}
use Rattle.pla_read.specs.declared.kinds.LineKind.TheVariants.{Inputs, Outputs, CoverType, Row}

-- the line is of the kind
abbrev pub is_of : LineKind → TextLine → Bool
is_of kind line = same_kind kind (kind_of line)

-- the first line of a kind
abbrev pub line_of : LineKind → List TextLine → Option TextLine
line_of kind lines = find (is_of kind) lines

-- there is a line of the kind
abbrev pub has_line : LineKind → List TextLine → Bool
has_line kind lines = is_some (line_of kind lines)

-- the number that the first line of a kind gives
abbrev pub count_in : LineKind → List TextLine → Option ℕ
count_in kind lines = option_map number_in (line_of kind lines)

-- how many inputs and outputs the lines state
abbrev pub inputs_of : List TextLine → ℕ
inputs_of lines = unwrap_or (count_in Inputs lines) 0

-- how many outputs the lines state
abbrev pub outputs_of : List TextLine → ℕ
outputs_of lines = unwrap_or (count_in Outputs lines) 0

-- the rows, in order
abbrev pub rows_of : List TextLine → List TextLine
rows_of lines = filter (is_of Row) lines

-- the word names the type f, or fd
abbrev pub is_on_type : List ℕ → Bool
is_on_type word = bytes_eq word (codes "f")

-- the word names the type fd
abbrev pub is_free_type : List ℕ → Bool
is_free_type word = bytes_eq word (codes "fd")

-- `-` among the outputs says that they are free: the type is fd, as it is where it is missing
abbrev pub frees_at : Option TextLine → Bool
frees_at None = true
frees_at (Some line) = is_free_type (the_word line 1)

-- `-` among the outputs of the lines says that they are free
abbrev pub frees_of : List TextLine → Bool
frees_of lines = frees_at (line_of CoverType lines)
