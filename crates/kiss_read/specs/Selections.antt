-- What is selected of the lines of a section: its directives, its rows, and the states that the rows name.
use Rattle.std.specs.Prelude.{ℕ, Bool, not, ◌||◌, if◌then◌else◌, List, [], codes, filter, find, fold, unwrap_or, Option}
use Rattle.std.specs.Option.{option_map, is_some}
use Rattle.std.specs.Str.{bytes_eq}
use Rattle.tsc_net.specs.Names.{with_text}
use Rattle.tsc_text.specs.TextLine.{TextLine, the_word}
use Rattle.table_lines.specs.LineFaults.{number_in}
use Rattle.kiss_read.specs.LineKind.{kind_of, same_kind}
use Rattle.kiss_read.specs.declared.kinds.LineKind.{LineKind}
use Rattle.kiss_read.specs.declared.kinds.LineKind.TheVariants.{Inputs, Outputs, Row}

-- the line is of the kind
abbrev pub is_of : LineKind → TextLine → Bool
is_of kind line = same_kind kind (kind_of line)

-- the first line of a kind
abbrev pub line_of : LineKind → List TextLine → Option TextLine
line_of kind lines = find (is_of kind) lines

-- there is a line of the kind
abbrev pub has_line : LineKind → List TextLine → Bool
has_line kind lines = is_some (line_of kind lines)

-- the number that the first line of a kind gives
abbrev pub count_in : LineKind → List TextLine → Option ℕ
count_in kind lines = option_map number_in (line_of kind lines)

-- how many inputs and outputs the lines state
abbrev pub inputs_of : List TextLine → ℕ
inputs_of lines = unwrap_or (count_in Inputs lines) 0

-- how many outputs the lines state
abbrev pub outputs_of : List TextLine → ℕ
outputs_of lines = unwrap_or (count_in Outputs lines) 0

-- the rows, in order
abbrev pub rows_of : List TextLine → List TextLine
rows_of lines = filter (is_of Row) lines

-- a word names a state, which `*` and `-` do not
abbrev pub names_state : List ℕ → Bool
names_state word = not (bytes_eq word (codes "*") || bytes_eq word (codes "-"))

-- the states with the one that a word names, which goes last where it is new
abbrev pub with_state : List (List ℕ) → List ℕ → List (List ℕ)
with_state states word = if names_state word then with_text states word else states

-- the states with those that a row names, its current state before its next
abbrev pub with_states : List (List ℕ) → TextLine → List (List ℕ)
with_states states row = with_state (with_state states (the_word row 1)) (the_word row 2)

-- the states of the rows, numbered in the order in which they first stand there
abbrev pub states_in : List TextLine → List (List ℕ)
states_in rows = fold with_states [] rows

-- the states of the lines
abbrev pub states_of_lines : List TextLine → List (List ℕ)
states_of_lines lines = states_in (rows_of lines)
