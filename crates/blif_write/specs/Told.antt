-- What the text of a netlist says when it is read, whatever the reader's limits are.
use Rattle.std.specs.Prelude.{◌≡◌, ℕ, ◌<◌, true, List, [], Option, None, Some, length, IsTrue, All}
use Rattle.std.specs.List.{list_all}
use Rattle.tsc_text.specs.Bytes.{is_allowed, bad_line}
use Rattle.tsc_text.specs.Lines.{lines_of}
use Rattle.tsc_text.specs.Section.{section_of, section_lines}
use Rattle.tsc_text.specs.TextLine.{TextLine}
use Rattle.tsc_text.specs.Written.{WrittenLine, can_be_written, is_name, numbered}
use Rattle.tsc_text.specs.declared.section.End.TheVariants.{Blif}
use Rattle.tsc_text.specs.declared.section.Section.{Section}
use Rattle.fault_secure.specs.Circuit.{NodeOf}
use Rattle.tsc_net.specs.NetlistOf.{NetlistOf, named_of, netlist_of}
use Rattle.blif_read.specs.Clocks.{clock_text}
use Rattle.blif_read.specs.Denotes.{DenotesSource}
use Rattle.blif_read.specs.NamedText.{named_text}
use Rattle.blif_read.specs.declared.clocks.Clock.{Clock}
use Rattle.blif_read.specs.declared.error.BlifError.{BlifError}
use Rattle.blif_read.specs.declared.error.BlifError.TheVariants.{Limit}
use Rattle.blif_read.specs.declared.kinds.Kind.TheVariants.{Registers}
use Rattle.blif_write.specs.Layout.{clocked_layout, clocked_section}
use Rattle.blif_write.specs.RegisterText.{clock_words}

-- a name of any length that a text can hold: a word without `#`, of bytes that a text may hold
pub record IsWordName (name : List ℕ) : Type 0 where
  pub word : IsTrue (is_name name)
  pub allowed : IsTrue (list_all is_allowed name)

-- a node that a text tells: an on-set where there is no row
abbrev pub IsToldNode : NodeOf → Type 0
IsToldNode n = n.cover.rows ≡ [] → n.cover.on ≡ true

-- a netlist of any size that a text tells: its names are words, of any length
pub record IsTellable (net : NetlistOf) : Type 0 where
  pub model : IsWordName net.model
  pub names : All IsWordName net.names
  pub each_node : All IsToldNode net.circuit.nodes

-- a clock that a text tells: its control is a word
abbrev pub IsToldClock : Option Clock → Type 0
IsToldClock None = Unit {0}
IsToldClock (Some clock) = IsWordName clock.control

-- a plan line that a text can hold: its words are words, of bytes that a text may hold
pub record IsPlanLine (line : WrittenLine) : Type 0 where
  pub plan : line.is_plan ≡ true
  pub words : IsTrue (can_be_written line)
  pub allowed : All (λ word. IsTrue (list_all is_allowed word)) line.words

-- the lines of a netlist with the words of a clock and with plan lines, numbered from 1
abbrev pub clocked_lines : List (List ℕ) → NetlistOf → List WrittenLine → List TextLine
clocked_lines clock net plan = numbered 1 (clocked_layout clock (named_of net) plan)

-- those before `.end`
abbrev pub clocked_before_end : List (List ℕ) → NetlistOf → List WrittenLine → List TextLine
clocked_before_end clock net plan = numbered 1 (clocked_section clock (named_of net) plan)

-- the section that begins at the first line
abbrev pub first_clocked : List (List ℕ) → NetlistOf → List WrittenLine → Section
first_clocked clock net plan = section_of (clocked_lines clock net plan) 0 Blif

-- the lines without a clock, those before `.end`, and the section that begins at the first line
abbrev pub told_lines : NetlistOf → List WrittenLine → List TextLine
told_lines net plan = clocked_lines [] net plan

abbrev pub told_before_end : NetlistOf → List WrittenLine → List TextLine
told_before_end net plan = clocked_before_end [] net plan

abbrev pub told_section : NetlistOf → List WrittenLine → Section
told_section net plan = first_clocked [] net plan

-- the text tells the netlist, with the words of a clock and with these plan lines: no byte of it is refused, its lines are those of the layout,
-- and its first section has those before `.end` and is its last. What the section denotes is the netlist: this netlist, number by number
pub record TellsWith (clock : List (List ℕ)) (text : List ℕ) (net : NetlistOf) (plan : List WrittenLine) : Type 0 where
  pub allowed : bad_line text ≡ None
  pub lines : lines_of text ≡ clocked_lines clock net plan
  pub section : section_lines (clocked_lines clock net plan) (first_clocked clock net plan) ≡ clocked_before_end clock net plan
  pub ends : (first_clocked clock net plan).next ≡ length (clocked_lines clock net plan)
  pub denoted : DenotesSource (clocked_before_end clock net plan) net
  pub same : netlist_of (named_text (clocked_before_end clock net plan)) ≡ net

-- the text tells the netlist without a clock
abbrev pub Tells : List ℕ → NetlistOf → List WrittenLine → Type 0
Tells text net plan = TellsWith [] text net plan

-- the text tells the netlist with its registers and their clock: the lines of the section have this clock, where there is a register
pub record TellsRegisters (clock : Option Clock) (text : List ℕ) (net : NetlistOf) (plan : List WrittenLine) : Type 0 where
  pub told : TellsWith (clock_words clock) text net plan
  pub clocked : 0 < length net.circuit.latches → clock_text Registers (clocked_before_end (clock_words clock) net plan) ≡ clock

-- a node with one literal per pin in each row
abbrev pub HasWholeRows : NodeOf → Type 0
HasWholeRows n = All (λ row. length row ≡ n.cover.width) n.cover.rows

-- nothing is refused, or it is a limit that is passed
abbrev pub IsLimitAlone : Option BlifError → Type 0
IsLimitAlone None = Unit {0}
IsLimitAlone (Some (Limit line which)) = Unit {0}
IsLimitAlone (Some error) = ⊥
