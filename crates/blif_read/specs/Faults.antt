-- What is refused while the lines of a section are read.
use Rattle.std.specs.Prelude.{ℕ, ◌+◌, ◌-◌, ◌≤◌, Bool, false, not, ◌&&◌, ◌||◌, ◌==◌, if◌then◌else◌, List, [], ◌∷◌, codes, length, nat_le, nat_lt, Option, None, Some}
use Rattle.std.specs.Str.{bytes_eq}
use Rattle.tsc_bits.specs.Bits.{same}
use Rattle.tsc_text.specs.TextLine.{TextLine, the_word}
use Rattle.blif_read.specs.LineKind.{kind_of, names_of, name_count, pins_of, net_of}
use Rattle.blif_read.specs.Rows.{has_row_shape, is_bit_word, output_of}
use Rattle.blif_read.specs.Seen.{seen_of}
use Rattle.blif_read.specs.PlanLines.{plan_kind, has_plan_shape, has_any_shape}
use Rattle.blif_read.specs.declared.kinds.LineKind.{LineKind}
use Rattle.blif_read.specs.declared.kinds.LineKind.TheVariants.{PlanLine, Model, Inputs, Outputs, Names, Latch, OtherDirective, Row}
use Rattle.blif_read.specs.declared.kinds.Kind.{Kind}
use Rattle.blif_read.specs.declared.kinds.Kind.TheVariants.{Source, Registers, Netlist, AnyPlan, Unplanned}
use Rattle.blif_read.specs.declared.cause.Cause.{Cause}
use Rattle.blif_read.specs.declared.cause.Cause.TheVariants.{Unsupported, WordCount, RowOutside, RowShape, Mixed, LatchInSource, LatchInit, PlanShape, Limit}
use Rattle.tsc_text.specs.declared.which.Which.{Which}
use Rattle.tsc_text.specs.declared.which.Which.TheVariants.{NameBytes, Inputs as InputCount, Outputs as OutputCount, Nodes as NodeCount, Pins as PinCount, Latches as LatchCount}
use Rattle.blif_read.specs.declared.seen.OpenCover.{OpenCover}
use Rattle.blif_read.specs.declared.seen.Seen.{Seen}

-- the most bytes of a name
abbrev pub most_name_bytes : ℕ
most_name_bytes = 255

-- the greatest number of inputs
abbrev pub most_inputs : ℕ
most_inputs = 1024

-- the greatest number of pins of a line of `.names`
abbrev pub most_pins : ℕ
most_pins = 64

-- the greatest number of latches; a source without registers has none
abbrev pub most_latches : Kind → ℕ
most_latches Source = 64
most_latches Registers = 16384
most_latches Netlist = 64
most_latches AnyPlan = 32768
most_latches Unplanned = 32768

-- the greatest number of outputs
abbrev pub most_outputs : Kind → ℕ
most_outputs Source = 64
most_outputs Registers = 64
most_outputs Netlist = 66
most_outputs AnyPlan = 66
most_outputs Unplanned = 66

-- the greatest number of nodes
abbrev pub most_nodes : Kind → ℕ
most_nodes Source = 16384
most_nodes Registers = 16384
most_nodes Netlist = 1048576
most_nodes AnyPlan = 1048576
most_nodes Unplanned = 1048576

-- the name has more bytes than a name may have
abbrev pub is_long : List ℕ → Bool
is_long name = nat_lt most_name_bytes (length name)

-- the first limit that the names pass, one by one: the bytes of a name, or their count, of which there are `count` before
abbrev pub limit_in : Which → ℕ → ℕ → List (List ℕ) → Option Which
limit_in which most count [] = None
limit_in which most count (name ∷ names) =
    if is_long name then Some NameBytes else (if nat_le most count then Some which else limit_in which most (count + 1) names)

-- the first of two
abbrev pub first_of : Option Which → Option Which → Option Which
first_of None second = second
first_of (Some which) second = Some which

-- the fault that this limit is passed, where there is one
abbrev pub limit : Option Which → Option Cause
limit None = None
limit (Some which) = Some (Limit which)

-- the fault of a line of `.model`: there was one before, it has more than one name, or its name is long
abbrev pub model_fault : Seen → TextLine → Option Cause
model_fault seen line =
    if seen.has_model then Some Unsupported
    else (if nat_lt 1 (name_count line) then Some WordCount
    else (if is_long (the_word line 1) then Some (Limit NameBytes) else None))

-- the fault of a line of `.names`: it has no net, or a limit that its pins or then its net pass
abbrev pub names_fault : Kind → Seen → TextLine → Option Cause
names_fault kind seen line =
    if name_count line == 0 then Some WordCount
    else limit (first_of (limit_in PinCount most_pins 0 (pins_of line)) (limit_in NodeCount (most_nodes kind) seen.nodes (net_of line ∷ [])))

-- the word is the type of a latch
abbrev pub is_latch_type : List ℕ → Bool
is_latch_type word =
    bytes_eq word (codes "fe") || (bytes_eq word (codes "re") || (bytes_eq word (codes "ah") || (bytes_eq word (codes "al") || bytes_eq word (codes "as"))))

-- a latch has an input and an output, then perhaps a type and a control, then perhaps the bit that it holds first
abbrev pub has_latch_shape : TextLine → Bool
has_latch_shape line =
    (nat_le 2 (name_count line) && nat_le (name_count line) 5) && (nat_lt (name_count line) 4 || is_latch_type (the_word line 3))

-- the last word of the latch is the bit that it holds first
abbrev pub has_init : TextLine → Bool
has_init line = (name_count line == 3 || name_count line == 5) && is_bit_word (the_word line (length line.words - 1))

-- the same, or the word is `2`: either bit will do
abbrev pub has_any_init : TextLine → Bool
has_any_init line =
    (name_count line == 3 || name_count line == 5) && (is_bit_word (the_word line (length line.words - 1)) || bytes_eq (the_word line (length line.words - 1)) (codes "2"))

-- the limit that the names of a latch or the count of latches pass
abbrev pub latch_limit : Kind → Seen → TextLine → Option Which
latch_limit kind seen line =
    if is_long (the_word line 1) then Some NameBytes else limit_in LatchCount (most_latches kind) seen.latches (the_word line 2 ∷ [])

-- the fault of a line of `.latch` that has its shape
abbrev pub shaped_latch_fault : Kind → Seen → TextLine → Option Cause
shaped_latch_fault Source seen line = Some LatchInSource
shaped_latch_fault Registers seen line = if has_any_init line then limit (latch_limit Registers seen line) else Some LatchInit
shaped_latch_fault Netlist seen line = if has_init line then limit (latch_limit Netlist seen line) else Some LatchInit
shaped_latch_fault AnyPlan seen line = if has_init line then limit (latch_limit AnyPlan seen line) else Some LatchInit
shaped_latch_fault Unplanned seen line = if has_init line then limit (latch_limit Unplanned seen line) else Some LatchInit

-- the fault of a line of `.latch`: that of a line with its shape, and without the shape `WordCount`
abbrev pub latch_fault : Kind → Seen → TextLine → Option Cause
latch_fault kind seen line = if has_latch_shape line then shaped_latch_fault kind seen line else Some WordCount

-- the row's output isn't that of the cover's first row
abbrev pub is_mixed : Option Bool → Bool → Bool
is_mixed None output = false
is_mixed (Some first) output = not (same first output)

-- the fault of a row: no cover is open, it is no row of the cover, or it gives the other set
abbrev pub row_fault : Option OpenCover → TextLine → Option Cause
row_fault None line = Some RowOutside
row_fault (Some cover) line =
    if has_row_shape cover.width line.words then (if is_mixed cover.first (output_of line) then Some Mixed else None) else Some RowShape

-- the fault of a plan line; those of a source, and of a netlist without a plan, are passed over
abbrev pub plan_line_fault : Kind → Seen → TextLine → Option Cause
plan_line_fault Source seen line = None
plan_line_fault Registers seen line = None
plan_line_fault Unplanned seen line = None
plan_line_fault Netlist seen line = if has_plan_shape (plan_kind (the_word line 0)) seen.has_plan line then None else Some PlanShape
plan_line_fault AnyPlan seen line = if has_any_shape (plan_kind (the_word line 0)) seen.has_plan line then None else Some PlanShape

-- the fault of a line of this kind, with the lowest number where it has several
abbrev pub fault_of : Kind → Seen → LineKind → TextLine → Option Cause
fault_of kind seen PlanLine line = plan_line_fault kind seen line
fault_of kind seen Model line = model_fault seen line
fault_of kind seen Inputs line = limit (limit_in InputCount most_inputs seen.inputs (names_of line))
fault_of kind seen Outputs line = limit (limit_in OutputCount (most_outputs kind) seen.outputs (names_of line))
fault_of kind seen Names line = names_fault kind seen line
fault_of kind seen Latch line = latch_fault kind seen line
fault_of kind seen OtherDirective line = Some Unsupported
fault_of kind seen Row line = row_fault seen.cover line

-- the fault of a line after these lines, the nearest first
abbrev pub fault_behind : Kind → List TextLine → TextLine → Option Cause
fault_behind kind back line = fault_of kind (seen_of back) (kind_of line) line

-- the counts keep the greatest limits; those of nodes and latches are the kind's
pub record IsWithin (kind : Kind) (seen : Seen) : Type 0 where
  pub inputs : seen.inputs ≤ most_inputs
  pub outputs : seen.outputs ≤ 66
  pub nodes : seen.nodes ≤ most_nodes kind
  pub latches : seen.latches ≤ most_latches kind
