-- Whether a latch of a netlist and the latch of another one at its place have different clocks: by the lines of both, in order.
use Rattle.std.specs.Prelude.{ℕ, Bool, true, false, not, ◌&&◌, ◌||◌, List, [], ◌∷◌}
use Rattle.std.specs.Str.{bytes_eq}
use Rattle.tsc_text.specs.Lines.{lines_of}
use Rattle.tsc_text.specs.TextLine.{TextLine}
use Rattle.blif_read.specs.LineKind.{kind_of}
use Rattle.blif_read.specs.Clocks.{control_word, edge_word, has_clock, is_latch}
use Rattle.text_sections.specs.Denoted.{first_lines, first_section, lines_from}

-- the line is that of a latch
abbrev pub is_latch_line : TextLine → Bool
is_latch_line line = is_latch (kind_of line)

-- lines of latches with this line before them, where it is one
abbrev pub with_latch : Bool → TextLine → List TextLine → List TextLine
with_latch true line lines = line ∷ lines
with_latch false line lines = lines

-- the lines of latches among the lines of a section, in order
abbrev pub latch_lines : List TextLine → List TextLine
latch_lines [] = []
latch_lines (line ∷ lines) = with_latch (is_latch_line line) line (latch_lines lines)

-- the lines of two latches have the same type, and the same control by name
abbrev pub has_same_clock : TextLine → TextLine → Bool
has_same_clock line other = bytes_eq (edge_word line) (edge_word other) && bytes_eq (control_word line) (control_word other)

-- the lines of two latches both have a type and a control, and these differ
abbrev pub is_other_clock : TextLine → TextLine → Bool
is_other_clock line other = (has_clock line && has_clock other) && not (has_same_clock line other)

-- the lines of latches differ so at some place
abbrev pub some_other_clock : List TextLine → List TextLine → Bool
some_other_clock [] others = false
some_other_clock (line ∷ lines) [] = false
some_other_clock (line ∷ lines) (other ∷ others) = is_other_clock line other || some_other_clock lines others

-- some latch of the first section and the latch of the second one at its place have different clocks
abbrev pub has_other_clock : List TextLine → List TextLine → Bool
has_other_clock lines others = some_other_clock (latch_lines lines) (latch_lines others)

-- so it is of the netlist that the lines of a text begin with, and of the mapped one after it
abbrev pub lines_have_other_clock : List TextLine → Bool
lines_have_other_clock lines = has_other_clock (first_lines lines) (lines_from lines (first_section lines).next)

-- so it is of a text
abbrev pub text_has_other_clock : List ℕ → Bool
text_has_other_clock text = lines_have_other_clock (lines_of text)
