-- The first fault of lines, where it is known why a line is refused after those before it.
use Rattle.std.specs.Prelude.{List, [], ◌∷◌, ◌++◌, Option, None, Some}
use Rattle.tsc_text.specs.TextLine.{TextLine}
use Rattle.table_lines.specs.declared.cause.Cause.{Cause}
use Rattle.table_lines.specs.declared.cause.LineFault.{LineFault}

-- why a line is refused after these lines
abbrev pub FaultBehind : Type 0
FaultBehind = List TextLine → TextLine → Option Cause

-- the fault of a line, or else one after it
abbrev pub fault_or : Option Cause → TextLine → Option LineFault → Option LineFault
fault_or None line later = later
fault_or (Some cause) line later = Some (record { line = line.number; cause = cause })

-- the first fault of the lines that stand after these
abbrev pub first_fault_behind : FaultBehind → List TextLine → List TextLine → Option LineFault
first_fault_behind fault_behind before [] = None
first_fault_behind fault_behind before (line ∷ lines) =
    fault_or (fault_behind before line) line (first_fault_behind fault_behind (before ++ line ∷ []) lines)
