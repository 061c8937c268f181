-- The first fault of the lines of a section.
use Rattle.std.specs.Prelude.{ℕ, if◌then◌else◌, List, [], ◌∷◌, nat_lt, Option, None, Some}
use Rattle.tsc_text.specs.TextLine.{TextLine}
use Rattle.blif_read.specs.LineKind.{kind_of}
use Rattle.blif_read.specs.Seen.{seen_behind}
use Rattle.blif_read.specs.Faults.{fault_behind, fault_of}
use Rattle.blif_read.specs.Clocks.{clock_misfit}
use Rattle.blif_read.specs.declared.kinds.Kind.{Kind}
use Rattle.blif_read.specs.declared.kinds.Kind.TheVariants.{Source, Registers, Netlist, AnyPlan, Unplanned}
use Rattle.blif_read.specs.declared.cause.Cause.{Cause}
use Rattle.blif_read.specs.declared.cause.Cause.TheVariants.{LatchClock}
use Rattle.blif_read.specs.declared.cause.LineFault.{LineFault}
use Rattle.blif_read.specs.declared.seen.Seen.{Seen}

-- the fault of a line, or else one after it
abbrev pub fault_or : Option Cause → TextLine → Option LineFault → Option LineFault
fault_or None line later = later
fault_or (Some cause) line later = Some (record { line = line.number; cause = cause })

-- the first fault of the lines, which stand after these, the nearest first
abbrev pub first_fault_behind : Kind → List TextLine → List TextLine → Option LineFault
first_fault_behind kind back [] = None
first_fault_behind kind back (line ∷ lines) = fault_or (fault_behind kind back line) line (first_fault_behind kind (line ∷ back) lines)

-- the first fault of the lines of a section
abbrev pub first_fault : Kind → List TextLine → Option LineFault
first_fault kind lines = first_fault_behind kind [] lines

-- the same, of lines after others of which so much is seen
abbrev pub first_fault_after : Kind → Seen → List TextLine → Option LineFault
first_fault_after kind seen [] = None
first_fault_after kind seen (line ∷ lines) =
    fault_or (fault_of kind seen (kind_of line) line) line (first_fault_after kind (seen_behind seen (kind_of line) line) lines)

-- the earlier of a fault and of the line with this number, whose clock doesn't fit; on one line the clock comes first
abbrev pub with_misfit : Option LineFault → Option ℕ → Option LineFault
with_misfit fault None = fault
with_misfit None (Some line) = Some (record { line = line; cause = LatchClock })
with_misfit (Some fault) (Some line) = if nat_lt fault.line line then Some fault else Some (record { line = line; cause = LatchClock })

-- the first fault of a line: of registers that their clocks don't fit is one too
abbrev pub line_fault : Kind → List TextLine → Option LineFault
line_fault Source lines = first_fault Source lines
line_fault Registers lines = with_misfit (first_fault Registers lines) (clock_misfit lines)
line_fault Netlist lines = first_fault Netlist lines
line_fault AnyPlan lines = first_fault AnyPlan lines
line_fault Unplanned lines = first_fault Unplanned lines
