-- Writing step by step gives the text of the lines.
use Rattle.std.proofs.Common.{◌≡◌, ℕ, Bool, true, false, cond, List, [], ◌∷◌, ◌++◌, codes, refl, sym, ap, ◌∙◌, append_assoc, append-nil}
use Rattle.std.specs.List.{join_with_byte}
use Rattle.tsc_text.specs.Lines.{ends_in}
use Rattle.tsc_text.specs.Written.{WrittenLine, kept_apart, line_text, text_of}
use Rattle.tsc_text.proofs.Parts.{ends_in-append}
use Rattle.blif_write.specs.Steps.{after_word, after_words, line_end, after_end, after_marked, after_line, after_lines}
use Rattle.blif_write.proofs.Filled.{Filled, AllFilled}

-- writing some words and then others is writing all of them as one list
pub after_words-append : (text : List ℕ) (xs ys : List (List ℕ)) → after_words text (xs ++ ys) ≡ after_words (after_words text xs) ys
after_words-append text [] ys = refl
after_words-append text (x ∷ xs) ys = after_words-append (after_word text x) xs ys

pub after_lines-append : (text : List ℕ) (xs ys : List WrittenLine) → after_lines text (xs ++ ys) ≡ after_lines (after_lines text xs) ys
after_lines-append text [] ys = refl
after_lines-append text (x ∷ xs) ys = after_lines-append (after_line text x) xs ys

-- words, with one blank before each
abbrev behind_blanks : List (List ℕ) → List ℕ
behind_blanks [] = []
behind_blanks (w ∷ ws) = (32 ∷ w) ++ behind_blanks ws

after_words-text : (text : List ℕ) (ws : List (List ℕ)) → after_words text ws ≡ text ++ behind_blanks ws
after_words-text text [] = sym (append-nil text)
after_words-text text (w ∷ ws) = after_words-text (after_word text w) ws
    ∙ append_assoc (text ++ 32 ∷ []) w (behind_blanks ws) ∙ append_assoc text (32 ∷ []) (w ++ behind_blanks ws)

join-behind : (w : List ℕ) (ws : List (List ℕ)) → join_with_byte 32 (w ∷ ws) ≡ w ++ behind_blanks ws
join-behind w [] = sym (append-nil w)
join-behind w (v ∷ ws) = ap (λ rest. w ++ 32 ∷ rest) (join-behind v ws)

line_end-kept : (ends : Bool) (bytes : List ℕ) → bytes ++ cond ends (32 ∷ 10 ∷ []) (10 ∷ []) ≡ cond ends (bytes ++ 32 ∷ []) bytes ++ 10 ∷ []
line_end-kept true bytes = sym (append_assoc bytes (32 ∷ []) (10 ∷ []))
line_end-kept false bytes = refl

after_end-text : (text : List ℕ) (b : ℕ) (r : List ℕ) → after_end (text ++ b ∷ r) ≡ text ++ (kept_apart (b ∷ r) ++ 10 ∷ [])
after_end-text text b r = ap (λ v. (text ++ b ∷ r) ++ cond v (32 ∷ 10 ∷ []) (10 ∷ [])) (ends_in-append 92 text b r)
    ∙ append_assoc text (b ∷ r) (line_end (b ∷ r))
    ∙ ap (λ rest. text ++ rest) (line_end-kept (ends_in 92 (b ∷ r)) (b ∷ r))

-- a line that begins with a byte is written behind any text as it is alone
after_line-text : (text : List ℕ) (is_plan : Bool) (words : List (List ℕ)) → Filled is_plan words → after_end (after_marked text is_plan words) ≡ text ++ line_text (record { is_plan = is_plan; words = words })
after_line-text text true [] h = absurd h
after_line-text text true (w ∷ ws) h =
    ap after_end (after_words-text (text ++ codes "#tsc") (w ∷ ws) ∙ append_assoc text (codes "#tsc") (behind_blanks (w ∷ ws)))
    ∙ after_end-text text 35 (116 ∷ 115 ∷ 99 ∷ 32 ∷ (w ++ behind_blanks ws))
    ∙ ap (λ body. text ++ (kept_apart (codes "#tsc " ++ body) ++ 10 ∷ [])) (sym (join-behind w ws))
after_line-text text false [] h = absurd h
after_line-text text false ([] ∷ ws) h = absurd h
after_line-text text false ((b ∷ w) ∷ ws) h =
    ap after_end (after_words-text (text ++ b ∷ w) ws ∙ append_assoc text (b ∷ w) (behind_blanks ws))
    ∙ after_end-text text b (w ++ behind_blanks ws)
    ∙ ap (λ body. text ++ (kept_apart body ++ 10 ∷ [])) (sym (join-behind (b ∷ w) ws))

-- filled lines, written step by step after a text, give the text and then the lines' own text
pub after_lines-text : (text : List ℕ) (lines : List WrittenLine) → AllFilled lines → after_lines text lines ≡ text ++ text_of lines
after_lines-text text [] h = sym (append-nil text)
after_lines-text text (line ∷ lines) h = after_lines-text (after_line text line) lines h.1
    ∙ ap (λ t. t ++ text_of lines) (after_line-text text line.is_plan line.words h.0)
    ∙ append_assoc text (line_text line) (text_of lines)
