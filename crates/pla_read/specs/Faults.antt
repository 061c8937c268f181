-- Why a line is refused, after the lines before it.
use Rattle.std.specs.Prelude.{ℕ, ◌||◌, ◌==◌, if◌then◌else◌, List, [], length, nat_le, Option, None, Some}
use Rattle.tsc_text.specs.TextLine.{TextLine, the_word}
use Rattle.tsc_text.specs.declared.which.Which.TheVariants.{Inputs as InputCount, Outputs as OutputCount, Rows as RowCount}
use Rattle.table_lines.specs.LineFaults.{count_fault, long_name, most_rows, names_of, read_fault, unless_before}
use Rattle.table_lines.specs.FirstFault.{first_fault_behind}
use Rattle.table_lines.specs.declared.cause.Cause.{Cause}
use Rattle.table_lines.specs.declared.cause.Cause.TheVariants.{Header, Unsupported, RowShape, Limit}
use Rattle.table_lines.specs.declared.cause.LineFault.{LineFault}
use Rattle.pla_read.specs.LineKind.{kind_of}
use Rattle.pla_read.specs.Selections.{count_in, has_line, is_free_type, is_on_type, rows_of}
use Rattle.pla_read.specs.RowText.{has_row_shape}
use Rattle.pla_read.specs.declared.kinds.LineKind.{LineKind}
use Rattle.pla_read.specs.declared.kinds.LineKind.TheVariants.{PlanLine, Inputs, Outputs, Products, CoverType, InputNames, OutputNames, OtherDirective, Row}

-- the fault of a type: it isn't one word, or it is neither f nor fd
abbrev pub type_fault : TextLine → Option Cause
type_fault line =
    if length line.words == 2
    then (if is_on_type (the_word line 1) || is_free_type (the_word line 1) then None else Some Unsupported)
    else Some Header

-- the fault of a row after so many: it doesn't stand after both `.i` and `.o`, it has no row's shape, or it is one too many
abbrev pub row_fault : Option ℕ → Option ℕ → ℕ → TextLine → Option Cause
row_fault (Some inputs) (Some outputs) rows line =
    if has_row_shape inputs outputs line.words then (if nat_le most_rows rows then Some (Limit RowCount) else None) else Some RowShape
row_fault (Some inputs) None rows line = Some Header
row_fault None outputs rows line = Some Header

-- the fault of a directive that didn't come before
abbrev pub directive_fault : LineKind → TextLine → Option Cause
directive_fault Inputs line = count_fault InputCount line
directive_fault Outputs line = count_fault OutputCount line
directive_fault Products line = read_fault line
directive_fault CoverType line = type_fault line
directive_fault InputNames line = long_name (names_of line)
directive_fault OutputNames line = long_name (names_of line)
directive_fault _ line = None

-- the fault of a line of this kind after these lines, with the lowest number where it has several
abbrev pub fault_of : List TextLine → LineKind → TextLine → Option Cause
fault_of before PlanLine line = None
fault_of before OtherDirective line = Some Unsupported
fault_of before Row line = row_fault (count_in Inputs before) (count_in Outputs before) (length (rows_of before)) line
fault_of before kind line = unless_before (has_line kind before) (directive_fault kind line)

-- the fault of a line after these lines
abbrev pub fault_behind : List TextLine → TextLine → Option Cause
fault_behind before line = fault_of before (kind_of line) line

-- the first fault of the lines of a section
abbrev pub first_fault : List TextLine → Option LineFault
first_fault lines = first_fault_behind fault_behind [] lines
