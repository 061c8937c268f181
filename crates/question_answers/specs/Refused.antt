-- What is refused of a text of a network and a netlist that is asked about: the first refusal, in order. There is no limit of points.
use Rattle.std.specs.Prelude.{ℕ, List, Option}
use Rattle.tsc_text.specs.Bytes.{bad_line}
use Rattle.tsc_text.specs.Lines.{lines_of}
use Rattle.tsc_text.specs.TextLine.{TextLine}
use Rattle.refusals.specs.declared.text_refusal.TextRefusal.{TextRefusal}
use Rattle.commands.specs.declared.source_format.SourceFormat.TheVariants.{Blif}
use Rattle.text_sections.specs.Denoted.{behind_source}
use Rattle.text_sections.specs.Refused.{byte_refusal, first_of, netlist_refusal, source_refusal}

-- the lines of a text: the network, then the netlist after it
abbrev pub question_lines_refusal : List TextLine → Option TextRefusal
question_lines_refusal lines = first_of (source_refusal Blif lines) (netlist_refusal lines (behind_source Blif lines))

-- a text: its bytes, then its lines
abbrev pub question_refusal : List ℕ → Option TextRefusal
question_refusal text = first_of (byte_refusal (bad_line text)) (question_lines_refusal (lines_of text))
