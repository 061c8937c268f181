-- Texts whose last line does not go on past their end, and lines numbered higher.
use Rattle.std.specs.Prelude.{◌≡◌, ℕ, ◌+◌, List, [], ◌∷◌, map, Option, None}
use Rattle.tsc_text.specs.TextLine.{TextLine}
use Rattle.tsc_text.specs.Lines.{OpenLine, line_left, physical_lines}

-- the line that is open after these physical lines, if one is
abbrev pub open_after : Option OpenLine → ℕ → List (List ℕ) → Option OpenLine
open_after open_line number [] = open_line
open_after open_line number (p ∷ ps) = open_after (line_left open_line number p) (number + 1) ps

-- no line of the text goes on past its end
abbrev pub HasNoOpenLine : List ℕ → Type 0
HasNoOpenLine text = open_after None 1 (physical_lines text) ≡ None

-- a line, numbered higher by `more`
abbrev pub moved_line : ℕ → TextLine → TextLine
moved_line more line = record line { number = line.number + more }

-- the lines, numbered higher by `more`
abbrev pub moved : ℕ → List TextLine → List TextLine
moved more lines = map (moved_line more) lines
