-- Lines whose rows have their shape, and rows of numbers that are those of the lines.
use Rattle.std.specs.Prelude.{◌≡◌, ℕ, true, List, length, map, All}
use Rattle.tsc_net.specs.MachineView.{lines_of, transitions_of, IsMachineRow}
use Rattle.tsc_net.specs.declared.machine.MachineRow.{MachineRow}
use Rattle.tsc_text.specs.TextLine.{TextLine}
use Rattle.kiss_read.specs.Selections.{is_of, rows_of}
use Rattle.kiss_read.specs.RowText.{has_row_shape, transition_at}
use Rattle.kiss_read.specs.declared.kinds.LineKind.TheVariants.{Row}
use Rattle.kiss_read.specs.declared.rows.Heading.{Heading}

-- each row has its shape
abbrev pub IsShaped : ℕ → ℕ → TextLine → Type 0
IsShaped inputs outputs line = is_of Row line ≡ true → has_row_shape inputs outputs line.words ≡ true

abbrev pub AreShaped : ℕ → ℕ → List TextLine → Type 0
AreShaped inputs outputs lines = All (IsShaped inputs outputs) lines

-- the rows are those of the lines
pub record HasRows (heading : Heading) (states : List (List ℕ)) (lines : List TextLine) (rows : List MachineRow) : Type 0 where
  pub same : transitions_of heading.inputs heading.outputs rows ≡ map (transition_at states heading.reset) (rows_of lines)
  pub numbers : lines_of rows ≡ map (λ row. row.number) (rows_of lines)
  pub fit : All (IsMachineRow heading.inputs heading.outputs (length states) heading.reset) rows
