-- A text has at most two lines more than bytes.
use Rattle.std.proofs.Common.{ℕ, ◌+◌, ◌≤◌, Bool, true, false, cond, List, [], ◌∷◌, ◌++◌, drop, length, Option, Some, None, arith, length-append}
use Rattle.std.proofs.lemmas.List.{length-map}
use Rattle.tsc_text.specs.Bytes.{is_feed}
use Rattle.tsc_text.specs.Lines.{OpenLine, closed, ends_in, is_plan_line, joined, left_open, line_at_end, line_ended, line_left, lines_from, lines_of, physical_lines, pieces, with_byte, without_return, words_of}
use Rattle.tsc_text.specs.TextLine.{TextLine, line_with}

with_byte_few : (t : Bool) (b : ℕ) (ps : List (List ℕ)) → length (with_byte t b ps) ≤ length ps + 1
with_byte_few true b ps = omega arith
with_byte_few false b [] = omega arith
with_byte_few false b (p ∷ ps) = omega arith

pieces_few : (parts : ℕ → Bool) (bytes : List ℕ) → length (pieces parts bytes) ≤ length bytes + 1
pieces_few parts [] = omega arith
pieces_few parts (b ∷ bytes) = omega (arith, with_byte_few (parts b) b (pieces parts bytes), pieces_few parts bytes)

line_with_few : (number : ℕ) (is_plan : Bool) (words : List (List ℕ)) → length (line_with number is_plan words) ≤ 1
line_with_few number is_plan [] = omega arith
line_with_few number is_plan (w ∷ words) = omega arith

either_few : (b : Bool) (xs ys : List TextLine) → length xs ≤ 1 → length ys ≤ 1 → length (cond b xs ys) ≤ 1
either_few true xs ys first second = first
either_few false xs ys first second = second

closed_few : (line : OpenLine) → length (closed line) ≤ 1
closed_few line =
    either_few (ends_in 92 line.bytes) [] (line_with line.number false (words_of line.bytes)) (omega arith) (line_with_few line.number false (words_of line.bytes))

ended_few : (open_line : Option OpenLine) (number : ℕ) (p : List ℕ) → length (line_ended open_line number p) ≤ 1
ended_few open_line number p =
    either_few (is_plan_line open_line p) (line_with number true (words_of (drop 5 p))) (closed (joined open_line number p))
    (line_with_few number true (words_of (drop 5 p))) (closed_few (joined open_line number p))

at_end_few : (open_line : Option OpenLine) → length (line_at_end open_line) ≤ 1
at_end_few None = omega arith
at_end_few (Some line) = line_with_few line.number false (words_of line.bytes)

lines_few : (open_line : Option OpenLine) (number : ℕ) (ps : List (List ℕ)) → length (lines_from open_line number ps) ≤ length ps + 1
lines_few open_line number [] = omega (arith, at_end_few open_line)
lines_few open_line number (p ∷ ps) =
    omega (
      arith,
      length-append (line_ended open_line number p) (lines_from (line_left open_line number p) (number + 1) ps),
      ended_few open_line number p,
      lines_few (line_left open_line number p) (number + 1) ps,
    )

pub lines_of_few : (text : List ℕ) → length (lines_of text) ≤ length text + 2
lines_of_few text =
    omega (arith, lines_few None 1 (physical_lines text), length-map (pieces is_feed text) without_return, pieces_few is_feed text)
