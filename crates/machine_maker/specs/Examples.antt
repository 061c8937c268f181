-- The first two rows of the number 5, as another program drew them.
use Rattle.std.specs.Prelude.{◌≡◌, List, [], ◌∷◌, codes, refl}
use Rattle.machine_maker.specs.Drawn.{characters, draw, DrawnRow, drawn_row, drawn_rows, generator}

abbrev pub first_of_five : List DrawnRow
first_of_five =
    record { number = 0; asked = codes "01101"; state = 0; next = 10; outputs = codes "101--00-" }
    ∷ record { number = 1; asked = codes "1--11"; state = 0; next = 26; outputs = codes "00001-1-" } ∷ []

pub first_rows : (drawn_rows 2 (generator 5)).0 ≡ first_of_five
unfolding draw characters drawn_row drawn_rows generator
first_rows = refl
