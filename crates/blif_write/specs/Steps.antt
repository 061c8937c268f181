-- Writing step by step: what the text is after one more word, one more line, and more of them.
use Rattle.std.specs.Prelude.{ℕ, Bool, true, false, cond, List, [], ◌∷◌, ◌++◌, codes}
use Rattle.tsc_text.specs.Lines.{ends_in}
use Rattle.tsc_text.specs.Written.{WrittenLine}

-- after a blank and a word
abbrev pub after_word : List ℕ → List ℕ → List ℕ
after_word text word = (text ++ 32 ∷ []) ++ word

-- after words, with a blank before each
abbrev pub after_words : List ℕ → List (List ℕ) → List ℕ
after_words text [] = text
after_words text (w ∷ ws) = after_words (after_word text w) ws

-- what closes a line of these bytes: an LF, and before it one blank where they end in `\`
abbrev pub line_end : List ℕ → List ℕ
line_end bytes = cond (ends_in 92 bytes) (32 ∷ 10 ∷ []) (10 ∷ [])

-- after the end of the line
abbrev pub after_end : List ℕ → List ℕ
after_end text = text ++ line_end text

-- after the words of a line, the first of which stands at its front
abbrev pub after_front : List ℕ → List (List ℕ) → List ℕ
after_front text [] = text
after_front text (w ∷ ws) = after_words (text ++ w) ws

-- after the words of a line, which follow `#tsc` in a plan line
abbrev pub after_marked : List ℕ → Bool → List (List ℕ) → List ℕ
after_marked text true words = after_words (text ++ codes "#tsc") words
after_marked text false words = after_front text words

-- after a line
abbrev pub after_line : List ℕ → WrittenLine → List ℕ
after_line text line = after_end (after_marked text line.is_plan line.words)

-- after lines
abbrev pub after_lines : List ℕ → List WrittenLine → List ℕ
after_lines text [] = text
after_lines text (line ∷ lines) = after_lines (after_line text line) lines
