-- Clauses of covers, where each net has a number, and the variables of rows are numbered one after another.
use Rattle.std.specs.Prelude.{ℕ, ◌+◌, ◌-◌, ◌&&◌, List, [], ◌∷◌, ◌++◌, map, length, nat_lt, nat_le, nat_eq, if◌then◌else◌, slice_index, slice_index_or}
use Rattle.std.specs.List.{list_any}
use Rattle.tsc_bits.specs.Bits.{bit_worth}
use Rattle.refutations.specs.declared.literal.Literal.{Literal}
use Rattle.exact_question.specs.Rows.{literal}
use Rattle.question_text.specs.Gates.{and_of, is_one, or_of}

-- what a row that is kept as two numbers asks of the net at a pin
abbrev pub asked_at : ℕ → ℕ → ℕ → ℕ → ℕ → List Literal
asked_at width care value pin net =
    if nat_lt pin width && bit_worth (width - 1 - pin) care then literal net (bit_worth (width - 1 - pin) value) ∷ [] else []

-- a literal over a net, by the number of the net
abbrev pub at_net : List ℕ → Literal → Literal
at_net numbers l = literal (slice_index numbers l.variable) l.wants

-- the first literal of a row
abbrev pub first_of : List Literal → Literal
first_of row = slice_index_or row 0 (is_one 0)

-- the number of the next row's variable: only a row of two or more literals has one
abbrev pub next_row : ℕ → List Literal → ℕ
next_row at row = if nat_le 2 (length row) then at + 1 else at

-- how many rows have a variable
abbrev pub wide : List (List Literal) → ℕ
wide [] = 0
wide (row ∷ rows) = next_row (wide rows) row

abbrev pub row_gates : List ℕ → ℕ → List Literal → List (List Literal)
row_gates numbers at row = if nat_le 2 (length row) then and_of at (map (at_net numbers) row) else []

abbrev pub rows_gates : List ℕ → ℕ → List (List Literal) → List (List Literal)
rows_gates numbers at [] = []
rows_gates numbers at (row ∷ rows) = row_gates numbers at row ++ rows_gates numbers (next_row at row) rows

abbrev pub row_literal : List ℕ → ℕ → List Literal → Literal
row_literal numbers at row = if nat_eq (length row) 1 then at_net numbers (first_of row) else is_one at

abbrev pub row_literals : List ℕ → ℕ → List (List Literal) → List Literal
row_literals numbers at [] = []
row_literals numbers at (row ∷ rows) = row_literal numbers at row ∷ row_literals numbers (next_row at row) rows

-- that some row matches
abbrev pub some_row : List ℕ → ℕ → Literal → List (List Literal) → List (List Literal)
some_row numbers at matched rows =
    if list_any (λ row. nat_eq (length row) 0) rows then (matched ∷ []) ∷ [] else or_of matched (row_literals numbers at rows)

-- the clauses of a cover with these rows
abbrev pub cover_gates : List ℕ → ℕ → Literal → List (List Literal) → List (List Literal)
cover_gates numbers at matched rows = rows_gates numbers at rows ++ some_row numbers at matched rows
