-- What the text of a number is to the reader of machines.
use Rattle.std.specs.Prelude.{◌≡◌, ℕ, Bool, true, false, List, length, nat_lt, Option, None, Some}
use Rattle.std.specs.List.{list_all}
use Rattle.fault_secure.specs.Logic.{StateTable}
use Rattle.tsc_text.specs.Bytes.{bad_line}
use Rattle.tsc_text.specs.Lines.{lines_of}
use Rattle.tsc_text.specs.TextLine.{TextLine}
use Rattle.tsc_text.specs.Section.{section_of, section_lines}
use Rattle.tsc_text.specs.declared.section.Section.{Section}
use Rattle.tsc_text.specs.declared.section.End.TheVariants.{Kiss}
use Rattle.kiss_read.specs.Refusal.{refusal}
use Rattle.kiss_read.specs.TableText.{table_text}
use Rattle.machine_maker.specs.MadeText.{made_text}

-- the section of a machine that a text begins with, its lines, and the table that they denote
abbrev pub section_in : List ℕ → Section
section_in text = section_of (lines_of text) 0 Kiss

abbrev pub lines_in : List ℕ → List TextLine
lines_in text = section_lines (lines_of text) (section_in text)

abbrev pub table_in : List ℕ → StateTable
table_in text = table_text (lines_in text)

-- the row names its state, which is one of so many
abbrev pub names_state_below : ℕ → Option ℕ → Bool
names_state_below states None = false
names_state_below states (Some state) = nat_lt state states

-- nothing refuses the text as a machine, all its lines belong to it, and it has these inputs, outputs, rows and states
pub record IsMade (text : List ℕ) : Type 0 where
  pub bytes : bad_line text ≡ None
  pub lines : refusal (lines_in text) ≡ None
  pub whole : (section_in text).next ≡ length (lines_of text)
  pub inputs : (table_in text).inputs ≡ 7
  pub outputs : (table_in text).outputs ≡ 8
  pub rows : length (table_in text).rows ≡ 192
  pub states : (table_in text).states ≡ 48
  pub named : list_all (λ row. names_state_below 48 row.from) (table_in text).rows ≡ true

abbrev pub MadeTextsAreMachines : Type 0
MadeTextsAreMachines = (number : ℕ) → IsMade (made_text number)
