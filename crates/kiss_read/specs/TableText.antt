-- The state table that a text denotes: the selections of its lines.
use Rattle.std.specs.Prelude.{ℕ, List, [], ◌∷◌, length, map, unwrap_or, Option, None, Some}
use Rattle.fault_secure.specs.Logic.{StateTable}
use Rattle.tsc_net.specs.Names.{find_text, place_of_text}
use Rattle.tsc_net.specs.MachineView.{MachineOf}
use Rattle.tsc_text.specs.TextLine.{TextLine, the_word}
use Rattle.kiss_read.specs.Selections.{line_of, inputs_of, outputs_of, rows_of, states_of_lines}
use Rattle.kiss_read.specs.RowText.{transition_at}
use Rattle.kiss_read.specs.declared.kinds.LineKind.TheVariants.{Reset}

-- the first row's current state, or state 0 where it names none
abbrev pub first_state : List (List ℕ) → List TextLine → ℕ
first_state states [] = 0
first_state states (row ∷ rows) = unwrap_or (find_text states (the_word row 1)) 0

-- the reset state: that of `.r`, and without one the first row's
abbrev pub reset_at : Option TextLine → List (List ℕ) → List TextLine → ℕ
reset_at (Some line) states rows = place_of_text states (the_word line 1)
reset_at None states rows = first_state states rows

-- the number of the reset state of the lines' table
abbrev pub reset_of : List TextLine → ℕ
reset_of lines = reset_at (line_of Reset lines) (states_of_lines lines) (rows_of lines)

-- the state table that the lines denote
abbrev pub table_text : List TextLine → StateTable
table_text lines = record {
  inputs = inputs_of lines;
  outputs = outputs_of lines;
  states = length (states_of_lines lines);
  reset = reset_of lines;
  rows = map (transition_at (states_of_lines lines) (reset_of lines)) (rows_of lines);
}

-- the table, and the number of each row's line
abbrev pub machine_text : List TextLine → MachineOf
machine_text lines = record { table = table_text lines; lines = map (λ row. row.number) (rows_of lines) }
