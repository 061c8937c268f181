-- The refusal of a section: that of a line, then those of the whole section.
use Rattle.std.specs.Prelude.{◌≡◌, ℕ, ◌&&◌, if◌then◌else◌, List, [], ◌∷◌, Option, None, Some}
use Rattle.std.specs.Option.{option_map}
use Rattle.tsc_text.specs.TextLine.{TextLine}
use Rattle.table_lines.specs.NamesText.{wrong_names}
use Rattle.table_lines.specs.declared.cause.Cause.{Cause}
use Rattle.table_lines.specs.declared.cause.Cause.TheVariants as cause
use Rattle.table_lines.specs.declared.cause.LineFault.{LineFault}
use Rattle.pla_read.specs.Selections.{has_line, inputs_of, line_of, outputs_of}
use Rattle.pla_read.specs.Faults.{first_fault}
use Rattle.pla_read.specs.declared.kinds.LineKind.TheVariants.{Inputs, Outputs, InputNames, OutputNames}
use Rattle.pla_read.specs.declared.error.PlaError.{PlaError}
use Rattle.pla_read.specs.declared.error.PlaError.TheVariants.{Header, Unsupported, RowShape, Limit, Memory}

-- the refusal of a line with this fault
abbrev pub cause_refusal : ℕ → Cause → PlaError
cause_refusal line cause.Header = Header line
cause_refusal line cause.Unsupported = Unsupported line
cause_refusal line cause.RowShape = RowShape line
cause_refusal line (cause.Limit which) = Limit line which

-- the refusal of a line with this fault
abbrev pub line_refusal : LineFault → PlaError
line_refusal fault = cause_refusal fault.line fault.cause

-- the number of the last line that is no plan line, or else this one
abbrev pub last_number_or : ℕ → List TextLine → ℕ
last_number_or number [] = number
last_number_or number (line ∷ lines) = last_number_or (if line.is_plan then number else line.number) lines

-- 1 where there is none
abbrev pub last_number : List TextLine → ℕ
last_number lines = last_number_or 1 lines

-- the line at which the names of the lines are refused
abbrev pub wrong_names_in : List TextLine → Option ℕ
wrong_names_in lines = wrong_names (line_of InputNames lines) (inputs_of lines) (line_of OutputNames lines) (outputs_of lines)

-- the refusal of a whole section: `.i` or `.o` is missing, or the names don't fit
abbrev pub heading_refusal : List TextLine → Option PlaError
heading_refusal lines =
    if has_line Inputs lines && has_line Outputs lines
    then option_map Header (wrong_names_in lines)
    else Some (Header (last_number lines))

-- the first refusal of two
abbrev pub first_refusal : Option PlaError → Option PlaError → Option PlaError
first_refusal None later = later
first_refusal (Some refusal) later = Some refusal

-- the refusal of the lines of a section: the first line with a fault, then the whole. It has a reading where there is none
abbrev pub refusal : List TextLine → Option PlaError
refusal lines = first_refusal (option_map line_refusal (first_fault lines)) (heading_refusal lines)

-- the section is refused by this, where `refusal` is its refusal; want of memory is free
abbrev pub IsRefusedBy : Option PlaError → PlaError → Type 0
IsRefusedBy refusal (Memory error) = Unit {0}
IsRefusedBy refusal error = refusal ≡ Some error
