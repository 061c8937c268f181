-- What a written text says when it is read.
use Rattle.std.specs.Prelude.{◌≡◌, ℕ, List, None, length}
use Rattle.tsc_text.specs.Bytes.{bad_line}
use Rattle.tsc_text.specs.Lines.{lines_of}
use Rattle.tsc_text.specs.Section.{section_of, section_lines}
use Rattle.tsc_text.specs.TextLine.{TextLine}
use Rattle.tsc_text.specs.Written.{numbered}
use Rattle.tsc_text.specs.declared.section.End.TheVariants.{Blif}
use Rattle.tsc_text.specs.declared.section.Section.{Section}
use Rattle.fault_secure.specs.CodePlan.{CodePlan}
use Rattle.tsc_net.specs.NetlistOf.{NetlistOf, named_of, netlist_of}
use Rattle.blif_read.specs.Denotes.{DenotesNetlist, refusal}
use Rattle.blif_read.specs.NamedText.{named_text}
use Rattle.blif_read.specs.declared.kinds.Kind.TheVariants.{Netlist}
use Rattle.blif_write.specs.Layout.{layout, section_lines as written_before_end}
use Rattle.blif_write.specs.NamedPlan.{named_plan}

-- the lines of a layout, numbered from 1
abbrev pub all_lines : NetlistOf → CodePlan → List TextLine
all_lines net P = numbered 1 (layout (named_of net) (named_plan net P))

-- those before `.end`
abbrev pub lines_before_end : NetlistOf → CodePlan → List TextLine
lines_before_end net P = numbered 1 (written_before_end (named_of net) (named_plan net P))

-- the section that begins at the first line
abbrev pub first_section : NetlistOf → CodePlan → Section
first_section net P = section_of (all_lines net P) 0 Blif

-- the text is read as the netlist with its plan: no byte of it is refused, its lines are those of the layout, and its first section has those
-- before `.end` and is its last. The reader refuses nothing of the section, not a line, not the netlist, not the plan, and what the section
-- denotes is the netlist with the plan: this netlist, number by number
pub record IsReadAs (text : List ℕ) (net : NetlistOf) (P : CodePlan) : Type 0 where
  pub allowed : bad_line text ≡ None
  pub lines : lines_of text ≡ all_lines net P
  pub section : section_lines (all_lines net P) (first_section net P) ≡ lines_before_end net P
  pub ends : (first_section net P).next ≡ length (all_lines net P)
  pub refused : refusal Netlist (lines_before_end net P) ≡ None
  pub denoted : DenotesNetlist (lines_before_end net P) net P
  pub same : netlist_of (named_text (lines_before_end net P)) ≡ net
