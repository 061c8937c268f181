-- Lines without a fault, as far as the netlist needs it.
use Rattle.std.specs.Prelude.{◌≡◌, ℕ, ◌≤◌, true, List, [], ◌∷◌, length}
use Rattle.tsc_text.specs.TextLine.{TextLine}
use Rattle.blif_read.specs.LineKind.{kind_of, width_of}
use Rattle.blif_read.specs.Rows.{has_row_shape, rows_of}
use Rattle.blif_read.specs.declared.kinds.LineKind.{LineKind}
use Rattle.blif_read.specs.declared.kinds.LineKind.TheVariants.{Names, Latch}

-- each is a row of a cover with that many pins
abbrev pub AreShaped : ℕ → List TextLine → Type 0
AreShaped width [] = Unit {0}
AreShaped width (row ∷ rows) = (has_row_shape width row.words ≡ true) × AreShaped width rows

-- a line of `.names` has a net and at most 64 pins, and the rows after it fit it
pub record IsCleanNode (line : TextLine) (behind : List TextLine) : Type 0 where
  pub some : 2 ≤ length line.words
  pub few : length line.words ≤ 66
  pub rows : AreShaped (width_of line) (rows_of behind)

abbrev pub IsCleanAt : LineKind → TextLine → List TextLine → Type 0
IsCleanAt Names line behind = IsCleanNode line behind
IsCleanAt Latch line behind = 3 ≤ length line.words
IsCleanAt _ line behind = Unit {0}

-- each line of `.names` and `.latch` has its words and rows
abbrev pub AreClean : List TextLine → Type 0
AreClean [] = Unit {0}
AreClean (line ∷ lines) = IsCleanAt (kind_of line) line lines × AreClean lines
