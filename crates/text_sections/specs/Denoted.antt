-- What a text denotes: the netlist and the plan of its first section, and the lines after it; or a machine and its names; or a table of a
-- network with free bits; or a source of each format, and the netlist and the plan of the section after it.
use Rattle.std.specs.Prelude.{ℕ, List, [], drop, Option}
use Rattle.std.specs.Option.{unwrap_or}
use Rattle.tsc_text.specs.Lines.{lines_of}
use Rattle.tsc_text.specs.TextLine.{TextLine}
use Rattle.tsc_text.specs.Section.{section_of, section_lines}
use Rattle.tsc_text.specs.declared.section.Section.{Section}
use Rattle.tsc_text.specs.declared.section.End.TheVariants.{Blif as BlifEnd, Kiss as KissEnd}
use Rattle.fault_secure.specs.declared.code.Code.TheVariants.{Parity}
use Rattle.fault_secure.specs.CodePlan.{CodePlan}
use Rattle.tsc_net.specs.NetlistOf.{NetlistOf, netlist_of}
use Rattle.blif_read.specs.Clocks.{clock_text}
use Rattle.blif_read.specs.Denotes.{plan_text}
use Rattle.blif_read.specs.NamedText.{named_text}
use Rattle.blif_read.specs.declared.clocks.Clock.{Clock}
use Rattle.blif_read.specs.declared.kinds.Kind.TheVariants.{AnyPlan, Netlist, Registers}
use Rattle.fault_secure.specs.Logic.{Logic, Loose, Network, States, StateTable}
use Rattle.kiss_read.specs.TableText.{machine_text}
use Rattle.kiss_read.specs.NamesText.{input_names, output_names}
use Rattle.pla_read.specs.Loose.{free_text}
use Rattle.pla_read.specs.Networks.{value_text}
use Rattle.pla_read.specs.TableText.{table_text, TableOf}
use Rattle.commands.specs.declared.source_format.SourceFormat.{SourceFormat}
use Rattle.commands.specs.declared.source_format.SourceFormat.TheVariants.{Blif, Kiss, Pla}

-- the BLIF section of the lines from a place on
abbrev pub section_from : List TextLine → ℕ → Section
section_from lines from = section_of lines from BlifEnd

-- the lines of the BLIF section from a place on
abbrev pub lines_from : List TextLine → ℕ → List TextLine
lines_from lines from = section_lines lines (section_from lines from)

-- the netlist that this section denotes
abbrev pub net_from : List TextLine → ℕ → NetlistOf
net_from lines from = netlist_of (named_text (lines_from lines from))

-- the first BLIF section of the lines, and its lines
abbrev pub first_section : List TextLine → Section
first_section lines = section_from lines 0

abbrev pub first_lines : List TextLine → List TextLine
first_lines lines = lines_from lines 0

-- the netlist that the first section of the lines denotes
abbrev pub first_net : List TextLine → NetlistOf
first_net lines = net_from lines 0

-- the netlist that a text denotes
abbrev pub netlist_in : List ℕ → NetlistOf
netlist_in text = first_net (lines_of text)

-- the clock of the registers that a text denotes, where they have one
abbrev pub clock_in : List ℕ → Option Clock
clock_in text = clock_text Registers (first_lines (lines_of text))

-- a plan of nothing, which stands for that of lines without a plan line
abbrev pub no_plan : CodePlan
no_plan = record { version = 1; code = Parity; outputs = 0; checks = []; groups = []; latches = 0; weight = 0; states = []; rail1 = 0; rail2 = 0 }

-- the plan that the section of the lines from a place on states for its netlist
abbrev pub plan_from : List TextLine → ℕ → CodePlan
plan_from lines from = unwrap_or (plan_text Netlist (lines_from lines from) (net_from lines from)) no_plan

-- the plan that the first section states
abbrev pub first_plan : List TextLine → CodePlan
first_plan lines = plan_from lines 0

-- the same of a section whose plan may list no states: then it is the plan of the netlist with its registers as further inputs
abbrev pub first_any_plan : List TextLine → CodePlan
first_any_plan lines = unwrap_or (plan_text AnyPlan (first_lines lines) (first_net lines)) no_plan

-- the plan that a text states
abbrev pub plan_in : List ℕ → CodePlan
plan_in text = first_plan (lines_of text)

-- the lines after the first section
abbrev pub lines_behind : List TextLine → List TextLine
lines_behind lines = drop (first_section lines).next lines

-- the first KISS2 section of the lines; a PLA section ends as one of KISS2 does
abbrev pub machine_section : List TextLine → Section
machine_section lines = section_of lines 0 KissEnd

-- the lines of the first section, of KISS2 or of PLA
abbrev pub machine_lines : List TextLine → List TextLine
machine_lines lines = section_lines lines (machine_section lines)

-- the state table that a text denotes
abbrev pub machine_in : List ℕ → StateTable
machine_in text = (machine_text (machine_lines (lines_of text))).table

-- the names of that table's inputs
abbrev pub inputs_in : List ℕ → List (List ℕ)
inputs_in text = input_names (machine_lines (lines_of text))

-- the names of that table's outputs
abbrev pub outputs_in : List ℕ → List (List ℕ)
outputs_in text = output_names (machine_lines (lines_of text))

-- the table that the lines denote
abbrev pub table_of : List TextLine → TableOf
table_of lines = table_text (machine_lines lines)

-- the network of the table's values
abbrev pub values_of : List TextLine → NetlistOf
values_of lines = netlist_of (value_text (machine_lines lines))

-- the network of the table's free bits
abbrev pub frees_of : List TextLine → NetlistOf
frees_of lines = netlist_of (free_text (machine_lines lines))

-- the table that a text denotes
abbrev pub table_in : List ℕ → TableOf
table_in text = table_of (lines_of text)

-- the network of the values of a text's table
abbrev pub values_in : List ℕ → NetlistOf
values_in text = values_of (lines_of text)

-- the network of the free bits of a text's table
abbrev pub frees_in : List ℕ → NetlistOf
frees_in text = frees_of (lines_of text)

-- the place after the source that the lines begin with
abbrev pub behind_source : SourceFormat → List TextLine → ℕ
behind_source Blif lines = (first_section lines).next
behind_source Kiss lines = (machine_section lines).next
behind_source Pla lines = (machine_section lines).next

-- the source that the lines begin with: a network, a machine, or a network with free bits
abbrev pub source_of : SourceFormat → List TextLine → Logic
source_of Blif lines = Network (first_net lines).circuit
source_of Kiss lines = States (machine_text (machine_lines lines)).table
source_of Pla lines = Loose (values_of lines).circuit (frees_of lines).circuit

-- the source that a text begins with
abbrev pub source_in : SourceFormat → List ℕ → Logic
source_in format text = source_of format (lines_of text)

-- the netlist that the section after the source of a text denotes
abbrev pub second_netlist_in : SourceFormat → List ℕ → NetlistOf
second_netlist_in format text = net_from (lines_of text) (behind_source format (lines_of text))

-- the plan that the section after the source of a text states for its netlist
abbrev pub second_plan_in : SourceFormat → List ℕ → CodePlan
second_plan_in format text = plan_from (lines_of text) (behind_source format (lines_of text))
