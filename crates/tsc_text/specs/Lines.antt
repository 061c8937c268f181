-- The lines of a text: physical lines, comments, lines that go on, plan lines, and the words of each.
use Rattle.std.specs.Prelude.{ℕ, ◌+◌, Bool, true, false, cond, ◌&&◌, ◌==◌, List, [], ◌∷◌, ◌++◌, drop, map, codes, Option, None, Some}
use Rattle.tsc_text.specs.TextLine.{TextLine, line_with}
use Rattle.tsc_text.specs.Bytes.{is_feed, is_blank}

-- the pieces, where byte `b` before them parts them or stands in the first
abbrev pub with_byte : Bool → ℕ → List (List ℕ) → List (List ℕ)
with_byte true b ps = [] ∷ ps
with_byte false b [] = (b ∷ []) ∷ []
with_byte false b (p ∷ ps) = (b ∷ p) ∷ ps

-- the pieces of a text between the bytes that part it
abbrev pub pieces : (ℕ → Bool) → List ℕ → List (List ℕ)
pieces parts [] = [] ∷ []
pieces parts (b ∷ bs) = with_byte (parts b) b (pieces parts bs)

-- the pieces that hold a byte
abbrev pub filled : List (List ℕ) → List (List ℕ)
filled [] = []
filled ([] ∷ ps) = filled ps
filled ((b ∷ p) ∷ ps) = (b ∷ p) ∷ filled ps

-- the words of some bytes: what stands between blanks
abbrev pub words_of : List ℕ → List (List ℕ)
words_of bytes = filled (pieces is_blank bytes)

-- whether the last byte is `b`
abbrev pub ends_in : ℕ → List ℕ → Bool
ends_in b [] = false
ends_in b (c ∷ []) = c == b
ends_in b (c ∷ d ∷ cs) = ends_in b (d ∷ cs)

-- the bytes without the last
abbrev pub without_last : List ℕ → List ℕ
without_last [] = []
without_last (c ∷ []) = []
without_last (c ∷ d ∷ cs) = c ∷ without_last (d ∷ cs)

-- the bytes before the first `#`
abbrev pub before_comment : List ℕ → List ℕ
before_comment [] = []
before_comment (b ∷ bs) = cond (b == 35) [] (b ∷ before_comment bs)

-- a piece without a CR at its end
abbrev pub without_return : List ℕ → List ℕ
without_return p = cond (ends_in 13 p) (without_last p) p

-- the physical lines of a text
abbrev pub physical_lines : List ℕ → List (List ℕ)
physical_lines text = map without_return (pieces is_feed text)

-- whether some bytes begin with these
abbrev pub begins_with : List ℕ → List ℕ → Bool
begins_with [] bytes = true
begins_with (x ∷ xs) [] = false
begins_with (x ∷ xs) (b ∷ bs) = (b == x) && begins_with xs bs

-- whether a physical line begins with `#tsc `
abbrev pub begins_plan : List ℕ → Bool
begins_plan p = begins_with (codes "#tsc ") p

-- a line that is joined to the next physical line: its number, and its bytes so far
pub record OpenLine : Type 0 where
  pub number : ℕ
  pub bytes : List ℕ

-- what physical line `p`, numbered `number`, adds to the line that is open, if one is
abbrev pub joined : Option OpenLine → ℕ → List ℕ → OpenLine
joined None number p = record { number = number; bytes = before_comment p }
joined (Some open_line) number p = record { number = open_line.number; bytes = open_line.bytes ++ before_comment p }

-- the line that ends with these bytes, if it does
abbrev pub closed : OpenLine → List TextLine
closed line = cond (ends_in 92 line.bytes) [] (line_with line.number false (words_of line.bytes))

-- the line that goes on, if it does: a blank stands in place of the `\` at its end
abbrev pub left_open : OpenLine → Option OpenLine
left_open line = cond (ends_in 92 line.bytes) (Some (record { number = line.number; bytes = without_last line.bytes ++ 32 ∷ [] })) None

-- whether physical line `p` is a plan line, which it is only where no line is open
abbrev pub is_plan_line : Option OpenLine → List ℕ → Bool
is_plan_line None p = begins_plan p
is_plan_line (Some _) p = false

-- the line that ends with physical line `p`, if one does
abbrev pub line_ended : Option OpenLine → ℕ → List ℕ → List TextLine
line_ended open_line number p =
    cond (is_plan_line open_line p) (line_with number true (words_of (drop 5 p))) (closed (joined open_line number p))

-- the line that is open after physical line `p`, if one is
abbrev pub line_left : Option OpenLine → ℕ → List ℕ → Option OpenLine
line_left open_line number p = cond (is_plan_line open_line p) None (left_open (joined open_line number p))

-- the line that is open at the end of the text, where there is nothing to join
abbrev pub line_at_end : Option OpenLine → List TextLine
line_at_end None = []
line_at_end (Some line) = line_with line.number false (words_of line.bytes)

-- the lines of these physical lines, the first of which has the number `number`
abbrev pub lines_from : Option OpenLine → ℕ → List (List ℕ) → List TextLine
lines_from open_line number [] = line_at_end open_line
lines_from open_line number (p ∷ ps) =
    line_ended open_line number p ++ lines_from (line_left open_line number p) (number + 1) ps

-- the lines of a text
abbrev pub lines_of : List ℕ → List TextLine
lines_of text = lines_from None 1 (physical_lines text)
