-- The text of some rows as lines of words.
use Rattle.std.specs.Prelude.{ℕ, List, [], ◌∷◌, ◌++◌, codes, map}
use Rattle.tsc_text.specs.Written.{WrittenLine, line_of_words}
use Rattle.machine_maker.specs.Drawn.{DrawnRow}
use Rattle.machine_maker.specs.MadeText.{number_digits, state_name}

-- the four words of a row
abbrev pub row_words : DrawnRow → List (List ℕ)
row_words row = (number_digits row.number ++ row.asked) ∷ state_name row.state ∷ state_name row.next ∷ row.outputs ∷ []

abbrev pub written_row : DrawnRow → WrittenLine
written_row row = line_of_words (row_words row)

-- the lines before the rows, and the one after them
abbrev pub inputs_line : WrittenLine
inputs_line = line_of_words (codes ".i" ∷ codes "7" ∷ [])

abbrev pub outputs_line : WrittenLine
outputs_line = line_of_words (codes ".o" ∷ codes "8" ∷ [])

abbrev pub end_line : WrittenLine
end_line = line_of_words (codes ".e" ∷ [])

-- all lines
abbrev pub made_lines : List DrawnRow → List WrittenLine
made_lines rows = inputs_line ∷ outputs_line ∷ (map written_row rows ++ end_line ∷ [])
