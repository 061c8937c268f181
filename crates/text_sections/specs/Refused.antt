-- What is refused of a text as sections: the first refusal, in order.
use Rattle.std.specs.Prelude.{◌≡◌, ℕ, Bool, ◌&&◌, not, List, length, nat_lt, if◌then◌else◌, Option, None, Some}
use Rattle.std.specs.Option.{is_some}
use Rattle.tsc_text.specs.Bytes.{bad_line}
use Rattle.tsc_text.specs.Lines.{lines_of}
use Rattle.tsc_text.specs.TextLine.{TextLine, the_line}
use Rattle.blif_read.specs.Denotes.{refusal}
use Rattle.blif_read.specs.declared.kinds.Kind.{Kind}
use Rattle.blif_read.specs.RegisterFault.{lists_states}
use Rattle.blif_read.specs.declared.kinds.Kind.TheVariants.{AnyPlan, Source, Netlist}
use Rattle.blif_read.specs.declared.error.BlifError.{BlifError}
use Rattle.blif_read.specs.declared.error.BlifError.TheVariants.{Memory as NoMemory}
use Rattle.kiss_read.specs.Refusal.{refusal as kiss_refusal}
use Rattle.kiss_read.specs.declared.error.KissError.{KissError}
use Rattle.kiss_read.specs.declared.error.KissError.TheVariants.{Memory as NoKissMemory}
use Rattle.pla_read.specs.Refusal.{refusal as table_refusal}
use Rattle.pla_read.specs.declared.error.PlaError.{PlaError}
use Rattle.pla_read.specs.declared.error.PlaError.TheVariants.{Memory as NoPlaMemory}
use Rattle.refusals.specs.declared.limit.OwnLimit.{OwnLimit}
use Rattle.refusals.specs.declared.refusal.Refusal.{Refusal}
use Rattle.refusals.specs.declared.text_refusal.TextRefusal.{TextRefusal}
use Rattle.refusals.specs.declared.refusal.Refusal.TheVariants.{Memory, Text, Beyond}
use Rattle.refusals.specs.declared.text_refusal.TextRefusal.TheVariants.{BadByte, Blif, Kiss, Pla, AfterTheEnd, NoNetlist, NoStates}
use Rattle.commands.specs.declared.source_format.SourceFormat.{SourceFormat}
use Rattle.commands.specs.declared.source_format.SourceFormat.TheVariants.{Blif as BlifFormat, Kiss as KissFormat, Pla as PlaFormat}
use Rattle.text_sections.specs.Denoted.{lines_from, machine_lines, machine_section, net_from, section_from}

-- the first refusal of two
abbrev pub first_of : Option TextRefusal → Option TextRefusal → Option TextRefusal
first_of None later = later
first_of (Some refusal) later = Some refusal

-- a byte that a text may not hold, in this line
abbrev pub byte_refusal : Option ℕ → Option TextRefusal
byte_refusal None = None
byte_refusal (Some line) = Some (BadByte line)

-- a section of this kind that is refused by this
abbrev pub section_refusal : Kind → Option BlifError → Option TextRefusal
section_refusal kind None = None
section_refusal kind (Some error) = Some (Blif kind error)

-- the refusal of a section of this kind with this error
abbrev pub as_refusal : Kind → BlifError → Refusal
as_refusal kind (NoMemory error) = Memory error
as_refusal kind error = Text (Blif kind error)

-- a line, a plan line too, stands after the section from a place on
abbrev pub left_behind : List TextLine → ℕ → Option TextRefusal
left_behind lines from =
    if nat_lt (section_from lines from).next (length lines)
    then Some (AfterTheEnd (the_line lines (section_from lines from).next).number)
    else None

-- the section of the lines from a place on, as one of this kind
abbrev pub refusal_from : Kind → List TextLine → ℕ → Option TextRefusal
refusal_from kind lines from = section_refusal kind (refusal kind (lines_from lines from))

-- the lines from a place on as one section of this kind: the section, then a line after it
abbrev pub last_refusal : Kind → List TextLine → ℕ → Option TextRefusal
last_refusal kind lines from = first_of (refusal_from kind lines from) (left_behind lines from)

-- a line, a plan line too, stands after the first section
abbrev pub left_over : List TextLine → Option TextRefusal
left_over lines = left_behind lines 0

-- the first section of the lines, as one of this kind
abbrev pub first_refusal : Kind → List TextLine → Option TextRefusal
first_refusal kind lines = refusal_from kind lines 0

-- the lines of a text as one section of this kind: the section, then a line after it
abbrev pub lines_refusal : Kind → List TextLine → Option TextRefusal
lines_refusal kind lines = last_refusal kind lines 0

-- a text as one section of this kind: its bytes, then its lines
abbrev pub text_refusal : Kind → List ℕ → Option TextRefusal
text_refusal kind text = first_of (byte_refusal (bad_line text)) (lines_refusal kind (lines_of text))

-- a machine that is refused by this
abbrev pub machine_refusal : Option KissError → Option TextRefusal
machine_refusal None = None
machine_refusal (Some error) = Some (Kiss error)

-- the refusal of a machine with this error
abbrev pub as_machine_refusal : KissError → Refusal
as_machine_refusal (NoKissMemory error) = Memory error
as_machine_refusal error = Text (Kiss error)

-- a line, a plan line too, stands after the machine, or after the table
abbrev pub behind_machine : List TextLine → Option TextRefusal
behind_machine lines =
    if nat_lt (machine_section lines).next (length lines)
    then Some (AfterTheEnd (the_line lines (machine_section lines).next).number)
    else None

-- the lines of a text as a machine: the machine, then a line after it
abbrev pub machine_lines_refusal : List TextLine → Option TextRefusal
machine_lines_refusal lines = first_of (machine_refusal (kiss_refusal (machine_lines lines))) (behind_machine lines)

-- a text as a machine: its bytes, then its lines
abbrev pub machine_text_refusal : List ℕ → Option TextRefusal
machine_text_refusal text = first_of (byte_refusal (bad_line text)) (machine_lines_refusal (lines_of text))

-- a table that is refused by this
abbrev pub pla_refusal : Option PlaError → Option TextRefusal
pla_refusal None = None
pla_refusal (Some error) = Some (Pla error)

-- the refusal of a table with this error
abbrev pub as_pla_refusal : PlaError → Refusal
as_pla_refusal (NoPlaMemory error) = Memory error
as_pla_refusal error = Text (Pla error)

-- the table that the lines begin with
abbrev pub first_table_refusal : List TextLine → Option TextRefusal
first_table_refusal lines = pla_refusal (table_refusal (machine_lines lines))

-- the lines of a text as a table: the table, then a line after it
abbrev pub pla_lines_refusal : List TextLine → Option TextRefusal
pla_lines_refusal lines = first_of (first_table_refusal lines) (behind_machine lines)

-- a text as a table: its bytes, then its lines
abbrev pub pla_text_refusal : List ℕ → Option TextRefusal
pla_text_refusal text = first_of (byte_refusal (bad_line text)) (pla_lines_refusal (lines_of text))

-- the section of a source of this format that the lines begin with
abbrev pub source_refusal : SourceFormat → List TextLine → Option TextRefusal
source_refusal BlifFormat lines = first_refusal Source lines
source_refusal KissFormat lines = machine_refusal (kiss_refusal (machine_lines lines))
source_refusal PlaFormat lines = first_table_refusal lines

-- the lines from a place on as a section of this kind after another: none where there is no line, a plan line neither
abbrev pub behind_refusal : Kind → List TextLine → ℕ → Option TextRefusal
behind_refusal kind lines from = if nat_lt from (length lines) then last_refusal kind lines from else Some NoNetlist

-- the section of the lines from a place on has registers, and its plan lists no states: nothing refuses it as a netlist whose plan may list none
abbrev pub lacks_states : List TextLine → ℕ → Bool
lacks_states lines from =
    not (is_some (refusal_from AnyPlan lines from))
    && (nat_lt 0 (length (net_from lines from).circuit.latches) && not (lists_states (lines_from lines from)))

-- the section of the lines from a place on, as a netlist with its plan, whatever stands after it: that it lacks states, or what refuses it
abbrev pub netlist_section_refusal : List TextLine → ℕ → Option TextRefusal
netlist_section_refusal lines from = if lacks_states lines from then Some NoStates else refusal_from Netlist lines from

-- the lines from a place on as one netlist with its plan: the section, then a line after it, and then that it lacks states
abbrev pub last_netlist_refusal : List TextLine → ℕ → Option TextRefusal
last_netlist_refusal lines from = if lacks_states lines from then first_of (left_behind lines from) (Some NoStates) else last_refusal Netlist lines from

-- the same after a source: none where there is no line, a plan line neither
abbrev pub netlist_refusal : List TextLine → ℕ → Option TextRefusal
netlist_refusal lines from = if nat_lt from (length lines) then last_netlist_refusal lines from else Some NoNetlist

-- a text as a netlist with its plan: its bytes, then its lines
abbrev pub netlist_text_refusal : List ℕ → Option TextRefusal
netlist_text_refusal text = first_of (byte_refusal (bad_line text)) (last_netlist_refusal (lines_of text) 0)

-- what a text is refused for is the refusal; want of memory is free
abbrev pub IsRefusedBy : Option TextRefusal → Refusal → Type 0
IsRefusedBy refusal (Memory error) = Unit {0}
IsRefusedBy refusal (Text given) = refusal ≡ Some given
IsRefusedBy refusal _ = ⊥

-- why there is no answer where a limit may be passed too: what refuses the text; or, where nothing does, that limit
abbrev pub StopsBeyond : Option OwnLimit → Option TextRefusal → Type 0 → Refusal → Type 0
StopsBeyond None refusal passes given = IsRefusedBy refusal given
StopsBeyond (Some limit) refusal passes (Beyond given) = (given ≡ limit) × (refusal ≡ None) × passes
StopsBeyond (Some limit) refusal passes given = IsRefusedBy refusal given
