-- The refusal of a section: that of a line, then that of its netlist.
use Rattle.std.specs.Prelude.{◌≡◌, ℕ, List, Option, None, Some}
use Rattle.tsc_text.specs.TextLine.{TextLine}
use Rattle.tsc_net.specs.NetFault.{fault_of}
use Rattle.tsc_net.specs.declared.net_error.NetError.{NetError}
use Rattle.tsc_net.specs.declared.net_error.NetError.TheVariants.{Twice, Undriven, NoOutputs, Cycle, Memory as NoMemory}
use Rattle.blif_read.specs.NamedText.{named_text}
use Rattle.blif_read.specs.FirstFault.{line_fault}
use Rattle.blif_read.specs.declared.kinds.Kind.{Kind}
use Rattle.blif_read.specs.declared.cause.Cause.{Cause}
use Rattle.blif_read.specs.declared.cause.Cause.TheVariants as cause
use Rattle.blif_read.specs.declared.cause.LineFault.{LineFault}
use Rattle.blif_read.specs.declared.error.BlifError.{BlifError}
use Rattle.blif_read.specs.declared.error.BlifError.TheVariants.{Unsupported, WordCount, RowOutside, RowShape, Mixed, LatchInSource, LatchClock, LatchInit, PlanShape, Limit, Net, Memory}

-- the refusal of a line with this fault
abbrev pub cause_refusal : ℕ → Cause → BlifError
cause_refusal line cause.Unsupported = Unsupported line
cause_refusal line cause.WordCount = WordCount line
cause_refusal line cause.RowOutside = RowOutside line
cause_refusal line cause.RowShape = RowShape line
cause_refusal line cause.Mixed = Mixed line
cause_refusal line cause.LatchInSource = LatchInSource line
cause_refusal line cause.LatchClock = LatchClock line
cause_refusal line cause.LatchInit = LatchInit line
cause_refusal line cause.PlanShape = PlanShape line
cause_refusal line (cause.Limit which) = Limit line which

-- the refusal of a line with this fault
abbrev pub line_refusal : LineFault → BlifError
line_refusal fault = cause_refusal fault.line fault.cause

-- the refusal of parts with this fault
abbrev pub net_refusal : NetError → BlifError
net_refusal (Twice net) = Net (Twice net)
net_refusal (Undriven net) = Net (Undriven net)
net_refusal NoOutputs = Net NoOutputs
net_refusal (Cycle nets) = Net (Cycle nets)
net_refusal (NoMemory error) = Memory error

-- the first refusal of two
abbrev pub first_refusal : Option BlifError → Option BlifError → Option BlifError
first_refusal None later = later
first_refusal (Some refusal) later = Some refusal

-- the refusal of a line's fault, where there is one
abbrev pub refusal_of_line : Option LineFault → Option BlifError
refusal_of_line None = None
refusal_of_line (Some fault) = Some (line_refusal fault)

-- the refusal of a fault of parts, where there is one
abbrev pub refusal_of_net : Option NetError → Option BlifError
refusal_of_net None = None
refusal_of_net (Some fault) = Some (net_refusal fault)

-- the refusal of the lines of a section, up to its netlist: the first line with a fault, then a fault of what the lines denote
abbrev pub netlist_refusal : Kind → List TextLine → Option BlifError
netlist_refusal kind lines = first_refusal (refusal_of_line (line_fault kind lines)) (refusal_of_net (fault_of (named_text lines)))

-- the section is refused by this, where `refusal` is its refusal; want of memory is free
abbrev pub IsRefusedBy : Option BlifError → BlifError → Type 0
IsRefusedBy refusal (Memory error) = Unit {0}
IsRefusedBy refusal error = refusal ≡ Some error
