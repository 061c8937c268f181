-- The words of a text's lines have no more bytes than the text.
use Rattle.std.proofs.Common.{◌≡◌, ℕ, zero, suc, ◌+◌, ◌≤◌, ◌==◌, Bool, true, false, cond, List, [], ◌∷◌, ◌++◌, map, drop, length, slice_range, take, ◌-◌, Option, Some, None, refl, arith, length-append, length-drop}
use Rattle.tsc_text.specs.Bytes.{is_blank, is_feed}
use Rattle.tsc_text.specs.Lines.{OpenLine, before_comment, closed, ends_in, filled, is_plan_line, joined, left_open, line_at_end, line_ended, line_left, lines_from, lines_of, physical_lines, pieces, with_byte, without_last, without_return, words_of}
use Rattle.tsc_text.specs.TextLine.{TextLine, line_with}
use Rattle.proof_answers.specs.Sizes.{bytes_of, total}

-- ---- pieces and words

with_byte_total : (t : Bool) (b : ℕ) (ps : List (List ℕ)) → total (with_byte t b ps) ≤ total ps + 1
with_byte_total true b ps = omega arith
with_byte_total false b [] = omega arith
with_byte_total false b (p ∷ ps) = omega arith

pieces_total : (parts : ℕ → Bool) (bytes : List ℕ) → total (pieces parts bytes) ≤ length bytes
pieces_total parts [] = omega arith
pieces_total parts (b ∷ bytes) = omega (arith, with_byte_total (parts b) b (pieces parts bytes), pieces_total parts bytes)

filled_total : (ps : List (List ℕ)) → total (filled ps) ≤ total ps
filled_total [] = omega arith
filled_total ([] ∷ ps) = omega (arith, filled_total ps)
filled_total ((b ∷ p) ∷ ps) = omega (arith, filled_total ps)

words_total : (bytes : List ℕ) → total (words_of bytes) ≤ length bytes
words_total bytes = omega (arith, filled_total (pieces is_blank bytes), pieces_total is_blank bytes)

-- ---- lines

with_total : (number : ℕ) (is_plan : Bool) (words : List (List ℕ)) → bytes_of (line_with number is_plan words) ≤ total words
with_total number is_plan [] = omega arith
with_total number is_plan (w ∷ words) = omega arith

last_long : (bytes : List ℕ) → length (without_last bytes) ≤ length bytes
last_long [] = omega arith
last_long (b ∷ []) = omega arith
last_long (b ∷ c ∷ bytes) = omega (arith, last_long (c ∷ bytes))

last_shorter : (end : ℕ) (bytes : List ℕ) → ends_in end bytes ≡ true → length (without_last bytes) + 1 ≤ length bytes
last_shorter end [] is = absurd (cc)
last_shorter end (b ∷ []) is = omega arith
last_shorter end (b ∷ c ∷ bytes) is = omega (arith, last_shorter end (c ∷ bytes) is)

return_long : (p : List ℕ) → length (without_return p) ≤ length p
return_long p = by (ends_in 13 p)
  where
    by : (b : Bool) → length (cond b (without_last p) p) ≤ length p
    by true = last_long p
    by false = omega arith

comment_long : (bytes : List ℕ) → length (before_comment bytes) ≤ length bytes
comment_long [] = omega arith
comment_long (b ∷ bytes) = by (b == 35) (comment_long bytes)
  where
    by : (is : Bool) → length (before_comment bytes) ≤ length bytes → length (cond is [] (b ∷ before_comment bytes)) ≤ length (b ∷ bytes)
    by true rest = omega arith
    by false rest = omega (arith, rest)

returns_total : (ps : List (List ℕ)) → total (map without_return ps) ≤ total ps
returns_total [] = omega arith
returns_total (p ∷ ps) = omega (arith, return_long p, returns_total ps)

-- the bytes of the line that is open
abbrev open_bytes : Option OpenLine → ℕ
open_bytes None = 0
open_bytes (Some line) = length line.bytes

joined_long : (open_line : Option OpenLine) (number : ℕ) (p : List ℕ) → length (joined open_line number p).bytes ≤ open_bytes open_line + length p
joined_long None number p = omega (arith, comment_long p)
joined_long (Some line) number p = omega (arith, length-append line.bytes (before_comment p), comment_long p)

-- a line is closed, or goes on: its bytes stand in one of both
closed_or_open : (line : OpenLine) → bytes_of (closed line) + open_bytes (left_open line) ≤ length line.bytes
closed_or_open line = by (ends_in 92 line.bytes) refl
  where
    by : (b : Bool) → ends_in 92 line.bytes ≡ b
        → bytes_of (cond b [] (line_with line.number false (words_of line.bytes)))
        + open_bytes (cond b (Some (record { number = line.number; bytes = without_last line.bytes ++ 32 ∷ [] })) None) ≤ length line.bytes
    by true is = omega (arith, length-append (without_last line.bytes) (32 ∷ []), last_shorter 92 line.bytes is)
    by false is = omega (arith, with_total line.number false (words_of line.bytes), words_total line.bytes)

step_total : (open_line : Option OpenLine) (number : ℕ) (p : List ℕ)
    → bytes_of (line_ended open_line number p) + open_bytes (line_left open_line number p) ≤ open_bytes open_line + length p
step_total open_line number p = by (is_plan_line open_line p)
  where
    by : (b : Bool) → bytes_of (cond b (line_with number true (words_of (drop 5 p))) (closed (joined open_line number p)))
        + open_bytes (cond b None (left_open (joined open_line number p))) ≤ open_bytes open_line + length p
    by true = omega (arith, with_total number true (words_of (drop 5 p)), words_total (drop 5 p), length-drop 5 p)
    by false = omega (arith, closed_or_open (joined open_line number p), joined_long open_line number p)

bytes_append : (xs ys : List TextLine) → bytes_of (xs ++ ys) ≡ bytes_of xs + bytes_of ys
bytes_append [] ys = omega arith
bytes_append (x ∷ xs) ys = omega (arith, bytes_append xs ys)

end_total : (open_line : Option OpenLine) → bytes_of (line_at_end open_line) ≤ open_bytes open_line
end_total None = omega arith
end_total (Some line) = omega (arith, with_total line.number false (words_of line.bytes), words_total line.bytes)

lines_total : (open_line : Option OpenLine) (number : ℕ) (ps : List (List ℕ)) → bytes_of (lines_from open_line number ps) ≤ open_bytes open_line + total ps
lines_total open_line number [] = omega (arith, end_total open_line)
lines_total open_line number (p ∷ ps) =
    omega (
      arith,
      bytes_append (line_ended open_line number p) (lines_from (line_left open_line number p) (number + 1) ps),
      step_total open_line number p,
      lines_total (line_left open_line number p) (number + 1) ps,
    )

-- the words of a text's lines have no more bytes than the text
pub lines_of_bytes : (text : List ℕ) → bytes_of (lines_of text) ≤ length text
lines_of_bytes text = omega (arith, lines_total None 1 (physical_lines text), returns_total (pieces is_feed text), pieces_total is_feed text)

-- ---- some of the lines

drop_bytes : (n : ℕ) (lines : List TextLine) → bytes_of (drop n lines) ≤ bytes_of lines
drop_bytes zero lines = omega arith
drop_bytes (suc n) [] = omega arith
drop_bytes (suc n) (line ∷ lines) = omega (arith, drop_bytes n lines)

take_bytes : (n : ℕ) (lines : List TextLine) → bytes_of (take n lines) ≤ bytes_of lines
take_bytes zero lines = omega arith
take_bytes (suc n) [] = omega arith
take_bytes (suc n) (line ∷ lines) = omega (arith, take_bytes n lines)

pub range_bytes : (lines : List TextLine) (from to : ℕ) → bytes_of (slice_range lines from to) ≤ bytes_of lines
range_bytes lines from to = omega (arith, take_bytes (to - from) (drop from lines), drop_bytes from lines)
