-- A row of a state table as words: the input, the current state, the next state, the outputs.
use Rattle.std.specs.Prelude.{ℕ, Bool, false, not, ◌&&◌, ◌==◌, List, [], ◌∷◌, codes, map, unwrap_or}
use Rattle.std.specs.Option.{is_some}
use Rattle.std.specs.Str.{bytes_eq}
use Rattle.tsc_cover.specs.Text.{literals_of_text}
use Rattle.fault_secure.specs.Logic.{Transition}
use Rattle.tsc_net.specs.Names.{find_text}
use Rattle.tsc_text.specs.TextLine.{TextLine, the_word}
use Rattle.table_lines.specs.LineFaults.{is_pattern}

-- the words are a row of a table with so many inputs and outputs
abbrev pub has_row_shape : ℕ → ℕ → List (List ℕ) → Bool
has_row_shape inputs outputs (input ∷ current ∷ next ∷ output ∷ []) =
    (is_pattern inputs input && is_pattern outputs output) && not (bytes_eq current (codes "-"))
has_row_shape inputs outputs _ = false

-- the output is 1, and it is specified
abbrev pub is_one : ℕ → Bool
is_one character = character == 49

-- the output is specified: its character isn't `-`
abbrev pub is_specified : ℕ → Bool
is_specified character = not (character == 45)

-- what a row states, completed: `-` among the outputs is 0, a current state that isn't named is every state, and a next one the
-- reset state
abbrev pub transition_at : List (List ℕ) → ℕ → TextLine → Transition
transition_at states reset row = record {
  input = literals_of_text (the_word row 0);
  from = find_text states (the_word row 1);
  next = unwrap_or (find_text states (the_word row 2)) reset;
  named = is_some (find_text states (the_word row 2));
  outputs = map is_one (the_word row 3);
  care = map is_specified (the_word row 3);
}
