-- Lines whose rows have their shape, rows of numbers that are those of the lines, and their table.
use Rattle.std.specs.Prelude.{◌≡◌, ℕ, ◌≤◌, true, List, map, All}
use Rattle.tsc_bits.specs.Bits.{bits_of}
use Rattle.tsc_cover.specs.Row.{literals_of, IsRow}
use Rattle.tsc_text.specs.TextLine.{TextLine}
use Rattle.pla_read.specs.Selections.{is_of, rows_of}
use Rattle.pla_read.specs.RowText.{has_row_shape, row_at, TableRow}
use Rattle.pla_read.specs.TableText.{TableOf}
use Rattle.pla_read.specs.declared.kinds.LineKind.TheVariants.{Row}
use Rattle.pla_read.specs.declared.rows.Heading.{Heading}
use Rattle.pla_read.specs.declared.rows.PlaRow.{PlaRow}
use Rattle.pla_read.specs.declared.table.Table.{Table}

-- each row has its shape
abbrev pub IsShaped : ℕ → ℕ → TextLine → Type 0
IsShaped inputs outputs line = is_of Row line ≡ true → has_row_shape inputs outputs line.words ≡ true

abbrev pub AreShaped : ℕ → ℕ → List TextLine → Type 0
AreShaped inputs outputs lines = All (IsShaped inputs outputs) lines

-- a row of numbers
abbrev pub row_as : ℕ → ℕ → PlaRow → TableRow
row_as inputs outputs row = record { input = literals_of inputs row.input; ones = bits_of outputs row.ones; free = bits_of outputs row.free }

-- each asks only for inputs that there are
abbrev pub IsRowOver : ℕ → PlaRow → Type 0
IsRowOver inputs row = IsRow inputs row.input

-- the rows are those of the lines
pub record HasRows (heading : Heading) (lines : List TextLine) (rows : List PlaRow) : Type 0 where
  pub same : map (row_as heading.inputs heading.outputs) rows ≡ map (row_at heading.frees) (rows_of lines)
  pub fit : All (IsRowOver heading.inputs) rows

-- the table of rows of numbers
abbrev pub table_as : Table → TableOf
table_as table = record { inputs = table.inputs; outputs = table.outputs; rows = map (row_as table.inputs table.outputs) table.rows }

-- its counts keep their limits, and its rows are rows over its inputs
pub record IsTable (table : Table) : Type 0 where
  pub few_inputs : table.inputs ≤ 64
  pub few_outputs : table.outputs ≤ 64
  pub fit : All (IsRowOver table.inputs) table.rows
