-- Sections of a text: its lines up to an end line.
use Rattle.std.specs.Prelude.{ℕ, ◌+◌, ◌≤◌, Bool, cond, not, ◌&&◌, ◌||◌, List, codes, drop, length, nat_lt, slice_range}
use Rattle.std.specs.List.{position_or_len}
use Rattle.std.specs.Str.{bytes_eq}
use Rattle.tsc_text.specs.declared.section.End.{End}
use Rattle.tsc_text.specs.declared.section.End.TheVariants.{Blif, Kiss}
use Rattle.tsc_text.specs.declared.section.Section.{Section}
use Rattle.tsc_text.specs.TextLine.{TextLine, the_word}

-- whether a line with this first word ends a section
abbrev pub is_end_word : End → List ℕ → Bool
is_end_word Blif word = bytes_eq word (codes ".end")
is_end_word Kiss word = bytes_eq word (codes ".e") || bytes_eq word (codes ".end")

-- whether a line ends a section. A plan line does not
abbrev pub is_end_line : End → TextLine → Bool
is_end_line end line = not line.is_plan && is_end_word end (the_word line 0)

-- the place of the first line from `from` on that ends a section, or after the last line
abbrev pub end_of : List TextLine → ℕ → End → ℕ
end_of lines from end = from + position_or_len (is_end_line end) (drop from lines)

-- the section that begins at the line `from` and runs up to the line `past`
abbrev pub section_to : List TextLine → ℕ → ℕ → Section
section_to lines from past = record { first = from; past = past; next = cond (nat_lt past (length lines)) (past + 1) past }

-- the section that begins at the line `from`
abbrev pub section_of : List TextLine → ℕ → End → Section
section_of lines from end = section_to lines from (end_of lines from end)

-- the section is one of these lines
pub record IsSectionOf (lines : List TextLine) (section : Section) : Type 0 where
  pub order : section.first ≤ section.past
  pub within : section.past ≤ length lines

-- the lines of a section
abbrev pub section_lines : List TextLine → Section → List TextLine
section_lines lines section = slice_range lines section.first section.past
