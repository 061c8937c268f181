-- The refusal of a section: that of a line, then those of the whole section.
use Rattle.std.specs.Prelude.{◌≡◌, ℕ, ◌&&◌, if◌then◌else◌, List, [], ◌∷◌, slice_index, Option, None, Some}
use Rattle.std.specs.Option.{option_map}
use Rattle.tsc_net.specs.Names.{has_text}
use Rattle.tsc_net.specs.MachineView.{MachineOf}
use Rattle.tsc_text.specs.TextLine.{TextLine, the_word}
use Rattle.table_lines.specs.NamesText.{wrong_names}
use Rattle.table_lines.specs.declared.cause.Cause.{Cause}
use Rattle.table_lines.specs.declared.cause.Cause.TheVariants as cause
use Rattle.table_lines.specs.declared.cause.LineFault.{LineFault}
use Rattle.kiss_read.specs.Selections.{has_line, line_of, inputs_of, outputs_of, states_of_lines}
use Rattle.kiss_read.specs.TableText.{machine_text}
use Rattle.kiss_read.specs.Faults.{first_fault}
use Rattle.kiss_read.specs.Conflict.{first_clash}
use Rattle.kiss_read.specs.declared.kinds.LineKind.TheVariants.{Inputs, Outputs, Reset, InputNames, OutputNames}
use Rattle.kiss_read.specs.declared.conflicts.Clash.{Clash}
use Rattle.kiss_read.specs.declared.error.KissError.{KissError}
use Rattle.kiss_read.specs.declared.error.KissError.TheVariants.{Header, Unsupported, RowShape, Limit, NoRows, NoReset, Conflict, Memory}

-- the refusal of a line with this fault
abbrev pub cause_refusal : ℕ → Cause → KissError
cause_refusal line cause.Header = Header line
cause_refusal line cause.Unsupported = Unsupported line
cause_refusal line cause.RowShape = RowShape line
cause_refusal line (cause.Limit which) = Limit line which

-- the refusal of a line with this fault
abbrev pub line_refusal : LineFault → KissError
line_refusal fault = cause_refusal fault.line fault.cause

-- the refusal of a line's fault, where there is one
abbrev pub refusal_of_line : Option LineFault → Option KissError
refusal_of_line None = None
refusal_of_line (Some fault) = Some (line_refusal fault)

-- the refusal of the names, where both `.i` and `.o` stand
abbrev pub names_refusal : List TextLine → Option KissError
names_refusal lines =
    if has_line Inputs lines && has_line Outputs lines
    then option_map Header (wrong_names (line_of InputNames lines) (inputs_of lines) (line_of OutputNames lines) (outputs_of lines))
    else None

-- the refusal where no row names a state
abbrev pub rows_refusal : List (List ℕ) → Option KissError
rows_refusal [] = Some NoRows
rows_refusal (state ∷ states) = None

-- the refusal of a reset state that no row names
abbrev pub reset_refusal : List (List ℕ) → Option TextLine → Option KissError
reset_refusal states None = None
reset_refusal states (Some line) = if has_text states (the_word line 1) then None else Some (NoReset line.number)

-- the refusal of rows that conflict, by the numbers of their lines
abbrev pub clash_refusal : List ℕ → Option Clash → Option KissError
clash_refusal lines None = None
clash_refusal lines (Some clash) = Some (Conflict (slice_index lines clash.earlier) (slice_index lines clash.later))

-- the refusal of a machine whose rows conflict, by the numbers of their lines
abbrev pub conflict_refusal : MachineOf → Option KissError
conflict_refusal machine = clash_refusal machine.lines (first_clash machine.table.rows)

-- the first refusal of two
abbrev pub first_refusal : Option KissError → Option KissError → Option KissError
first_refusal None later = later
first_refusal (Some refusal) later = Some refusal

-- the refusal of the table: no row, no reset state, a conflict
abbrev pub table_refusal : List TextLine → Option KissError
table_refusal lines =
    first_refusal (rows_refusal (states_of_lines lines))
    (first_refusal (reset_refusal (states_of_lines lines) (line_of Reset lines)) (conflict_refusal (machine_text lines)))

-- the refusal of the lines of a section: the first line with a fault, then the names, then the table. It has a reading where there is none
abbrev pub refusal : List TextLine → Option KissError
refusal lines =
    first_refusal (refusal_of_line (first_fault lines)) (first_refusal (names_refusal lines) (table_refusal lines))

-- the section is refused by this, where `refusal` is its refusal; want of memory is free
abbrev pub IsRefusedBy : Option KissError → KissError → Type 0
IsRefusedBy refusal (Memory error) = Unit {0}
IsRefusedBy refusal error = refusal ≡ Some error
