-- A text as a netlist with its plan lines, which may list no states, and after it a mapped one, whose plan lines are passed over: what it denotes, and what is
-- refused of it.
use Rattle.std.specs.Prelude.{ℕ, List, Option}
use Rattle.tsc_text.specs.Bytes.{bad_line}
use Rattle.tsc_text.specs.Lines.{lines_of}
use Rattle.tsc_text.specs.TextLine.{TextLine}
use Rattle.tsc_net.specs.NetlistOf.{NetlistOf}
use Rattle.blif_read.specs.declared.kinds.Kind.TheVariants.{AnyPlan, Unplanned}
use Rattle.refusals.specs.declared.text_refusal.TextRefusal.{TextRefusal}
use Rattle.text_sections.specs.Denoted.{first_section, net_from}
use Rattle.text_sections.specs.Refused.{behind_refusal, byte_refusal, first_of, first_refusal}

-- the netlist that the section after the first one denotes
abbrev pub mapped_net : List TextLine → NetlistOf
mapped_net lines = net_from lines (first_section lines).next

-- the netlist that a text's section after the first one denotes
abbrev pub mapped_in : List ℕ → NetlistOf
mapped_in text = mapped_net (lines_of text)

-- the lines: the netlist with its plan, then the mapped one after it
abbrev pub mapped_lines_refusal : List TextLine → Option TextRefusal
mapped_lines_refusal lines = first_of (first_refusal AnyPlan lines) (behind_refusal Unplanned lines (first_section lines).next)

-- a text: its bytes, then its lines
abbrev pub mapped_refusal : List ℕ → Option TextRefusal
mapped_refusal text = first_of (byte_refusal (bad_line text)) (mapped_lines_refusal (lines_of text))
