-- Lines that are written as text, and which can be.
use Rattle.std.specs.Prelude.{ℕ, ◌+◌, Bool, true, false, cond, not, ◌&&◌, ◌||◌, ◌==◌, nat_le, List, [], ◌∷◌, ◌++◌, codes, length, map}
use Rattle.std.specs.List.{concat, join_with_byte, list_all}
use Rattle.tsc_text.specs.Bytes.{is_blank, is_feed}
use Rattle.tsc_text.specs.Lines.{ends_in}
use Rattle.tsc_text.specs.TextLine.{TextLine}

-- a line to be written: whether it is a plan line, and its words
pub record WrittenLine : Type 0 where
  pub is_plan : Bool
  pub words : List (List ℕ)

-- whether a byte may stand in a word: it is no blank and no LF and, but in a plan line, no `#`
abbrev pub is_word_byte : Bool → ℕ → Bool
is_word_byte is_plan b = not (is_blank b) && (not (is_feed b) && (is_plan || not (b == 35)))

-- whether some bytes are a word of a plan line, or of another line
abbrev pub is_word : Bool → List ℕ → Bool
is_word is_plan word = nat_le 1 (length word) && list_all (is_word_byte is_plan) word

-- whether some bytes are a name: a word of a line that is no plan line
abbrev pub is_name : List ℕ → Bool
is_name word = is_word false word

-- whether a line can be written: it has words, and each of them is one
abbrev pub can_be_written : WrittenLine → Bool
can_be_written line = nat_le 1 (length line.words) && list_all (is_word line.is_plan) line.words

-- a line of a text, to be written
abbrev pub written : TextLine → WrittenLine
written line = record { is_plan = line.is_plan; words = line.words }

-- what a plan line begins with
abbrev pub plan_mark : Bool → List ℕ
plan_mark true = codes "#tsc "
plan_mark false = []

-- a blank after a `\` at the end, which would join the next line
abbrev pub kept_apart : List ℕ → List ℕ
kept_apart bytes = cond (ends_in 92 bytes) (bytes ++ 32 ∷ []) bytes

-- the bytes of a line before its LF: its words, parted by one blank
abbrev pub line_bytes : WrittenLine → List ℕ
line_bytes line = kept_apart (plan_mark line.is_plan ++ join_with_byte 32 line.words)

-- the bytes of a line, closed by LF
abbrev pub line_text : WrittenLine → List ℕ
line_text line = line_bytes line ++ 10 ∷ []

-- the text of some lines
abbrev pub text_of : List WrittenLine → List ℕ
text_of lines = concat (map line_text lines)

-- the lines, numbered from `number` on
abbrev pub numbered : ℕ → List WrittenLine → List TextLine
numbered number [] = []
numbered number (line ∷ lines) = record { number = number; is_plan = line.is_plan; words = line.words } ∷ numbered (number + 1) lines

-- a line of these words
abbrev pub line_of_words : List (List ℕ) → WrittenLine
line_of_words words = record { is_plan = false; words = words }
