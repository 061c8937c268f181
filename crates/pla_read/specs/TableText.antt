-- The table that a text denotes, and what it says of its outputs at an input.
use Rattle.std.specs.Prelude.{◌≡◌, ℕ, Bool, not, ◌&&◌, List, length, map, All}
use Rattle.std.specs.List.{list_any}
use Rattle.fault_secure.specs.Circuit.{bit}
use Rattle.fault_secure.specs.Logic.{lets_pass}
use Rattle.tsc_text.specs.TextLine.{TextLine}
use Rattle.pla_read.specs.Selections.{frees_of, inputs_of, outputs_of, rows_of}
use Rattle.pla_read.specs.RowText.{row_at, TableRow}

-- how many inputs and outputs there are, and the rows
pub record TableOf : Type 0 where
  pub inputs : ℕ
  pub outputs : ℕ
  pub rows : List TableRow

-- the table of the lines
abbrev pub table_text : List TextLine → TableOf
table_text lines = record { inputs = inputs_of lines; outputs = outputs_of lines; rows = map (row_at (frees_of lines)) (rows_of lines) }

-- each row has one literal per input
abbrev pub AreWide : TableOf → Type 0
AreWide table = All (λ (row : TableRow). length row.input ≡ table.inputs) table.rows

-- some row matches that makes the output 1
abbrev pub is_one : TableOf → List Bool → ℕ → Bool
is_one table x place = list_any (λ row. bit row.ones place && lets_pass 0 row.input x) table.rows

-- some row matches that leaves the output free
abbrev pub is_left : TableOf → List Bool → ℕ → Bool
is_left table x place = list_any (λ row. bit row.free place && lets_pass 0 row.input x) table.rows

-- the output is free: a row that matches leaves it so, and none makes it 1
abbrev pub is_free : TableOf → List Bool → ℕ → Bool
is_free table x place = is_left table x place && not (is_one table x place)
