-- The KISS2 text of a number: seven inputs, eight outputs, the rows that are drawn.
use Rattle.std.specs.Prelude.{ℕ, ◌+◌, ◌/◌, ◌%◌, List, [], ◌∷◌, ◌++◌, codes}
use Rattle.std.specs.List.{flat_map}
use Rattle.std.specs.Fmt.{decimal}
use Rattle.machine_maker.specs.Drawn.{DrawnRow, rows_of_number}

-- the two binary digits of a row's number
abbrev pub number_digits : ℕ → List ℕ
number_digits number = (48 + number / 2) ∷ (48 + number % 2) ∷ []

-- the name of a state: `s` and its number
abbrev pub state_name : ℕ → List ℕ
state_name state = 115 ∷ decimal state

-- the line of a row: what it asks of the inputs, its state, the next state, the outputs
abbrev pub row_line : DrawnRow → List ℕ
row_line row =
    number_digits row.number ++ (row.asked ++ (32 ∷ (state_name row.state ++ (32 ∷ (state_name row.next ++ (32 ∷ (row.outputs ++ 10 ∷ [])))))))

-- the text of some rows
abbrev pub text_of_rows : List DrawnRow → List ℕ
text_of_rows rows = codes ".i 7" ++ (10 ∷ (codes ".o 8" ++ (10 ∷ (flat_map row_line rows ++ (codes ".e" ++ 10 ∷ [])))))

-- the text of a number
abbrev pub made_text : ℕ → List ℕ
made_text number = text_of_rows (rows_of_number number)
