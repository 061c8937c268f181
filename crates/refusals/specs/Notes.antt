-- The notes: the one line that tells why there is no answer.
use Rattle.std.specs.Prelude.{ℕ, List, [], ◌∷◌, ◌++◌, codes}
use Rattle.std.specs.Fmt.{decimal}
use Rattle.tsc_net.specs.declared.net_error.NetError.{NetError}
use Rattle.tsc_net.specs.declared.net_error.NetError.TheVariants.{Twice, Undriven, NoOutputs, Cycle, Memory as NetMemory}
use Rattle.blif_read.specs.declared.kinds.Kind.{Kind}
use Rattle.tsc_text.specs.declared.which.Which.{Which}
use Rattle.tsc_text.specs.declared.which.Which.TheVariants.{NameBytes, Inputs, Outputs, Nodes, Pins, Latches, Rows, States}
use Rattle.blif_read.specs.Faults.{most_inputs, most_latches, most_name_bytes, most_nodes, most_outputs, most_pins}
use Rattle.blif_read.specs.declared.error.BlifError.{BlifError}
use Rattle.blif_read.specs.declared.error.BlifError.TheVariants.{Unsupported, WordCount, RowOutside, RowShape, Mixed, LatchInSource, LatchClock, LatchInit, PlanShape, Limit, Net, NoPlan, PlanName, Memory as BlifMemory}
use Rattle.table_lines.specs.LineFaults as table_limit
use Rattle.kiss_read.specs.Faults as kiss_limit
use Rattle.kiss_read.specs.declared.error.KissError.{KissError}
use Rattle.kiss_read.specs.declared.error.KissError.TheVariants as kiss
use Rattle.pla_read.specs.declared.error.PlaError.{PlaError}
use Rattle.pla_read.specs.declared.error.PlaError.TheVariants as pla
use Rattle.refutation_text.specs.declared.fault.RefutationFault.{RefutationFault}
use Rattle.refutation_text.specs.declared.fault.RefutationFault.TheVariants as refutation
use Rattle.refusals.specs.declared.refusal.Refusal.{Refusal}
use Rattle.refusals.specs.declared.refusal.Refusal.TheVariants.{Usage, ReadFault, WriteFault, Memory, TooLong, Text, Beyond}
use Rattle.refusals.specs.declared.text_refusal.TextRefusal.{TextRefusal}
use Rattle.refusals.specs.declared.text_refusal.TextRefusal.TheVariants.{BadByte, Blif, Kiss, Pla, AfterTheEnd, NoNetlist, NotListed, NoStates, StepShape, Refutation, TooMany}
use Rattle.refusals.specs.declared.limit.Limit.{Limit as TextLimit}
use Rattle.refusals.specs.declared.limit.Limit.TheVariants as limit
use Rattle.refusals.specs.declared.limit.OwnLimit.{OwnLimit}
use Rattle.refusals.specs.declared.limit.OwnLimit.TheVariants as own

-- `line N: CAUSE`
abbrev pub at_line : ℕ → List ℕ → List ℕ
at_line line cause = codes "line " ++ (decimal line ++ (codes ": " ++ cause))

-- the words for a quantity
abbrev pub which_text : Which → List ℕ
which_text NameBytes = codes "name bytes"
which_text Inputs = codes "inputs"
which_text Outputs = codes "outputs"
which_text Nodes = codes "nodes"
which_text Pins = codes "pins"
which_text Latches = codes "latches"
which_text Rows = codes "rows"
which_text States = codes "states"

-- the greatest count of a quantity of a BLIF text, as its reader has it; a machine's for what is a machine's alone
abbrev pub most_of : Kind → Which → ℕ
most_of kind NameBytes = most_name_bytes
most_of kind Inputs = most_inputs
most_of kind Outputs = most_outputs kind
most_of kind Nodes = most_nodes kind
most_of kind Pins = most_pins
most_of kind Latches = most_latches kind
most_of kind Rows = table_limit.most_rows
most_of kind States = kiss_limit.most_states

-- the greatest count of a quantity of a table, as its reader has it: one for its inputs and its outputs; states are a machine's alone
abbrev pub table_most_of : Which → ℕ
table_most_of NameBytes = table_limit.most_name_bytes
table_most_of Rows = table_limit.most_rows
table_most_of States = kiss_limit.most_states
table_most_of _ = table_limit.most_ports

-- `limit: NUMBER WHICH`
abbrev pub most_text : ℕ → Which → List ℕ
most_text most which = codes "limit: " ++ (decimal most ++ (codes " " ++ which_text which))

-- `limit: NUMBER WHICH` for a BLIF text of this kind, with the greatest count of the quantity
abbrev pub limit_text : Kind → Which → List ℕ
limit_text kind which = most_text (most_of kind which) which

-- each name after a blank
abbrev pub blanked : List (List ℕ) → List ℕ
blanked [] = []
blanked (name ∷ names) = 32 ∷ (name ++ blanked names)

-- why parts are no netlist
abbrev pub net_text : NetError → List ℕ
net_text (Twice net) = codes "driven twice: " ++ net
net_text (Undriven net) = codes "undriven: " ++ net
net_text NoOutputs = codes "no outputs"
net_text (Cycle nets) = codes "cycle:" ++ blanked nets
net_text (NetMemory error) = codes "out of memory"

-- why a section is no BLIF text of this kind
abbrev pub blif_text : Kind → BlifError → List ℕ
blif_text kind (Unsupported line) = at_line line (codes "unsupported")
blif_text kind (WordCount line) = at_line line (codes "word count")
blif_text kind (RowOutside line) = at_line line (codes "row outside a cover")
blif_text kind (RowShape line) = at_line line (codes "row shape")
blif_text kind (Mixed line) = at_line line (codes "mixed rows")
blif_text kind (LatchInSource line) = at_line line (codes "latch in a source")
blif_text kind (LatchClock line) = at_line line (codes "latch clock")
blif_text kind (LatchInit line) = at_line line (codes "latch init")
blif_text kind (PlanShape line) = at_line line (codes "plan shape")
blif_text kind (Limit line which) = at_line line (limit_text kind which)
blif_text kind (Net error) = net_text error
blif_text kind NoPlan = codes "no plan"
blif_text kind (PlanName line) = at_line line (codes "plan name")
blif_text kind (BlifMemory error) = codes "out of memory"

-- why a section is no machine
abbrev pub kiss_text : KissError → List ℕ
kiss_text (kiss.Header line) = at_line line (codes "header")
kiss_text (kiss.Unsupported line) = at_line line (codes "unsupported")
kiss_text (kiss.RowShape line) = at_line line (codes "row shape")
kiss_text (kiss.Limit line which) = at_line line (most_text (table_most_of which) which)
kiss_text kiss.NoRows = codes "no rows"
kiss_text (kiss.NoReset line) = at_line line (codes "no reset state")
kiss_text (kiss.Conflict earlier later) = at_line later (codes "conflicts with line " ++ decimal earlier)
kiss_text (kiss.Memory error) = codes "out of memory"

-- why a section is no table of a network with free bits
abbrev pub pla_text : PlaError → List ℕ
pla_text (pla.Header line) = at_line line (codes "header")
pla_text (pla.Unsupported line) = at_line line (codes "unsupported")
pla_text (pla.RowShape line) = at_line line (codes "row shape")
pla_text (pla.Limit line which) = at_line line (most_text (table_most_of which) which)
pla_text (pla.Memory error) = codes "out of memory"

-- why a refutation isn't followed
abbrev pub refutation_text : RefutationFault → List ℕ
refutation_text (refutation.Shape line) = at_line line (codes "refutation shape")
refutation_text (refutation.NoClause line) = at_line line (codes "no clause")
refutation_text (refutation.Hint line) = at_line line (codes "hint")
refutation_text refutation.NoRefutation = codes "no refutation"
refutation_text refutation.Unfinished = codes "unfinished"

-- a limit that a text passes by itself
abbrev pub text_limit_text : TextLimit → List ℕ
text_limit_text limit.States = codes "limit: 924 states"
text_limit_text limit.Covers = codes "limit: 1048576 covers"
text_limit_text limit.Points = codes "limit: 65536 points"
text_limit_text limit.AuditPoints = codes "limit: 1048576 points"
text_limit_text limit.Parts = codes "limit: 64 parts"
text_limit_text limit.JointInputs = codes "limit: 1024 inputs"

-- a limit of a command
abbrev pub own_limit_text : OwnLimit → List ℕ
own_limit_text (own.Rows rows) = codes "limit: " ++ (decimal rows ++ codes " rows")
own_limit_text own.Pins = codes "limit: 20 pins"

-- what a text is refused for
abbrev pub text_refusal_text : TextRefusal → List ℕ
text_refusal_text (BadByte line) = at_line line (codes "byte")
text_refusal_text (Blif kind error) = blif_text kind error
text_refusal_text (Kiss error) = kiss_text error
text_refusal_text (Pla error) = pla_text error
text_refusal_text (AfterTheEnd line) = at_line line (codes "after the end")
text_refusal_text NoNetlist = codes "no netlist"
text_refusal_text NotListed = codes "fault not listed"
text_refusal_text NoStates = codes "no states"
text_refusal_text (StepShape line) = at_line line (codes "step shape")
text_refusal_text (Refutation fault) = refutation_text fault
text_refusal_text (TooMany limit) = text_limit_text limit

-- why there is no answer
abbrev pub refusal_text : Refusal → List ℕ
refusal_text Usage = codes "usage: tsc synth|ask|audit|faults|vectors|grade|sim|make|join|help"
refusal_text ReadFault = codes "reading failed"
refusal_text WriteFault = codes "writing failed"
refusal_text (Memory error) = codes "out of memory"
refusal_text TooLong = codes "limit: 67108864 bytes"
refusal_text (Text refusal) = text_refusal_text refusal
refusal_text (Beyond limit) = own_limit_text limit

-- the note: `tsc: `, the cause, and an LF
abbrev pub note_of : Refusal → List ℕ
note_of refusal = codes "tsc: " ++ (refusal_text refusal ++ 10 ∷ [])

-- what a text is refused for is told from the text, and so its note takes memory
abbrev pub NeedsMemory : TextRefusal → Type 0
NeedsMemory NoNetlist = ⊥
NeedsMemory NotListed = ⊥
NeedsMemory NoStates = ⊥
NeedsMemory (Refutation refutation.NoRefutation) = ⊥
NeedsMemory (Refutation refutation.Unfinished) = ⊥
NeedsMemory (TooMany limit) = ⊥
NeedsMemory _ = Unit {0}

-- the refusal is told from the text, or from the words, and so its note takes memory
abbrev pub IsOfText : Refusal → Type 0
IsOfText (Text refusal) = NeedsMemory refusal
IsOfText (Beyond (own.Rows rows)) = Unit {0}
IsOfText _ = ⊥
