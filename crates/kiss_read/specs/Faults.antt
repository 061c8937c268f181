-- Why a line is refused, after the lines before it.
use Rattle.std.specs.Prelude.{ℕ, ◌==◌, if◌then◌else◌, List, [], ◌∷◌, length, nat_le, nat_lt, Option, None, Some}
use Rattle.tsc_text.specs.TextLine.{TextLine, the_word}
use Rattle.tsc_text.specs.declared.which.Which.TheVariants.{NameBytes, Inputs as InputCount, Outputs as OutputCount, Rows as RowCount, States as StateLimit}
use Rattle.table_lines.specs.LineFaults.{count_fault, is_long, long_name, most_rows, names_of, read_fault, unless_before}
use Rattle.table_lines.specs.FirstFault.{first_fault_behind}
use Rattle.table_lines.specs.declared.cause.Cause.{Cause}
use Rattle.table_lines.specs.declared.cause.Cause.TheVariants.{Header, Unsupported, RowShape, Limit}
use Rattle.table_lines.specs.declared.cause.LineFault.{LineFault}
use Rattle.kiss_read.specs.LineKind.{kind_of}
use Rattle.kiss_read.specs.Selections.{count_in, has_line, rows_of, states_of_lines, with_state}
use Rattle.kiss_read.specs.RowText.{has_row_shape}
use Rattle.kiss_read.specs.declared.kinds.LineKind.{LineKind}
use Rattle.kiss_read.specs.declared.kinds.LineKind.TheVariants.{PlanLine, Inputs, Outputs, Products, StateCount, Reset, InputNames, OutputNames, OtherDirective, Row}

-- the greatest number of states
abbrev pub most_states : ℕ
most_states = 4096

-- the fault of a line of `.r`
abbrev pub reset_fault : TextLine → Option Cause
reset_fault line = if length line.words == 2 then long_name (names_of line) else Some Header

-- the limit that the states of a row pass, word by word: the bytes of a name, then how many states there are
abbrev pub states_limit : List (List ℕ) → List (List ℕ) → Option Cause
states_limit states [] = None
states_limit states (word ∷ words) =
    if is_long word then Some (Limit NameBytes)
    else (if nat_lt most_states (length (with_state states word)) then Some (Limit StateLimit)
    else states_limit (with_state states word) words)

-- the limit that a row passes, after so many rows that name these states
abbrev pub row_limit : ℕ → List (List ℕ) → TextLine → Option Cause
row_limit rows states line =
    if nat_le most_rows rows then Some (Limit RowCount) else states_limit states (the_word line 1 ∷ the_word line 2 ∷ [])

-- the fault of a row: it doesn't stand after both `.i` and `.o`, it has no row's shape, or it passes a limit
abbrev pub row_fault : Option ℕ → Option ℕ → ℕ → List (List ℕ) → TextLine → Option Cause
row_fault (Some inputs) (Some outputs) rows states line =
    if has_row_shape inputs outputs line.words then row_limit rows states line else Some RowShape
row_fault (Some inputs) None rows states line = Some Header
row_fault None outputs rows states line = Some Header

-- the fault of a directive that didn't come before
abbrev pub directive_fault : LineKind → TextLine → Option Cause
directive_fault Inputs line = count_fault InputCount line
directive_fault Outputs line = count_fault OutputCount line
directive_fault Products line = read_fault line
directive_fault StateCount line = read_fault line
directive_fault Reset line = reset_fault line
directive_fault InputNames line = long_name (names_of line)
directive_fault OutputNames line = long_name (names_of line)
directive_fault _ line = None

-- the fault of a line of this kind after these lines, with the lowest number where it has several
abbrev pub fault_of : List TextLine → LineKind → TextLine → Option Cause
fault_of before PlanLine line = None
fault_of before OtherDirective line = Some Unsupported
fault_of before Row line =
    row_fault (count_in Inputs before) (count_in Outputs before) (length (rows_of before)) (states_of_lines before) line
fault_of before kind line = unless_before (has_line kind before) (directive_fault kind line)

-- the fault of a line after these lines
abbrev pub fault_behind : List TextLine → TextLine → Option Cause
fault_behind before line = fault_of before (kind_of line) line

-- the first fault of the lines of a section
abbrev pub first_fault : List TextLine → Option LineFault
first_fault lines = first_fault_behind fault_behind [] lines
