-- The texts of lines, word by word.
use Rattle.std.proofs.Common.{◌≡◌, ℕ, zero, suc, Bool, true, false, cond, List, [], ◌∷◌, ◌++◌, Option, None, Some, codes, length, ◌==◌, true≢false, refl, sym, ap, ◌∙◌, append_assoc, append-nil}
use Rattle.std.specs.List.{join_with_byte}
use Rattle.std.proofs.Math.Dec.{eqb-suc-zero}
use Rattle.tsc_cover.specs.Cover.{Literal, literals}
use Rattle.tsc_cover.specs.Text.{text_of_literals}
use Rattle.tsc_text.specs.Lines.{ends_in}
use Rattle.tsc_text.specs.Written.{WrittenLine, kept_apart, line_text, text_of, line_of_words}
use Rattle.tsc_text.proofs.Parts.{ends_in-append}
use Rattle.tsc_net.specs.Named.{NamedLatch, NamedNode}
use Rattle.blif_read.specs.declared.clocks.Clock.{Clock}
use Rattle.blif_write.specs.Layout.{bit_character, clocked_latch_line, names_line, row_line}
use Rattle.blif_write.specs.RegisterText.{clock_words, type_word}
use Rattle.blif_write.specs.Steps.{line_end}
use Rattle.joint_text.specs.LineWords.{spaced, row_end, latch_end, type_text, control_text}

pub text_of-append : (xs ys : List WrittenLine) → text_of (xs ++ ys) ≡ text_of xs ++ text_of ys
text_of-append [] ys = refl
text_of-append (x ∷ xs) ys = ap (λ t. line_text x ++ t) (text_of-append xs ys) ∙ sym (append_assoc (line_text x) (text_of xs) (text_of ys))

-- the last byte of a line is that of its last word
pub last_word : (before last : List ℕ) → ends_in 92 (before ++ 32 ∷ last) ≡ ends_in 92 last
last_word before [] = ends_in-append 92 before 32 []
last_word before (c ∷ last) = ends_in-append 92 before 32 (c ∷ last)

-- and that of two texts is that of the second, where it has one
pub ends_behind : (xs ys : List ℕ) → (length ys == 0) ≡ false → ends_in 92 ys ≡ ends_in 92 (xs ++ ys)
ends_behind xs [] e = absurd (true≢false e)
ends_behind xs (c ∷ ys) e = sym (ends_in-append 92 xs c ys)

pub end_of_last : (before last : List ℕ) → line_end (before ++ 32 ∷ last) ≡ line_end last
end_of_last before last = ap (λ v. cond v (32 ∷ 10 ∷ []) (10 ∷ [])) (last_word before last)

-- a bit is no `\`
bit_end : (b : Bool) → line_end (bit_character b ∷ []) ≡ 10 ∷ []
bit_end true = refl
bit_end false = refl

join_spaced : (word : List ℕ) (words : List (List ℕ)) → join_with_byte 32 (word ∷ words) ≡ word ++ spaced words
join_spaced word [] = sym (append-nil word)
join_spaced word (next ∷ words) = ap (λ rest. word ++ 32 ∷ rest) (join_spaced next words)

pub spaced-append : (xs ys : List (List ℕ)) → spaced (xs ++ ys) ≡ spaced xs ++ spaced ys
spaced-append [] ys = refl
spaced-append (x ∷ xs) ys = ap (λ rest. 32 ∷ (x ++ rest)) (spaced-append xs ys) ∙ ap (λ rest. 32 ∷ rest) (sym (append_assoc x (spaced xs) (spaced ys)))

kept : (ends : Bool) (bytes : List ℕ) → cond ends (bytes ++ 32 ∷ []) bytes ++ 10 ∷ [] ≡ bytes ++ cond ends (32 ∷ 10 ∷ []) (10 ∷ [])
kept true bytes = append_assoc bytes (32 ∷ []) (10 ∷ [])
kept false bytes = refl

pub line_text_is : (word : List ℕ) (words : List (List ℕ)) → line_text (line_of_words (word ∷ words)) ≡ (word ++ spaced words) ++ line_end (word ++ spaced words)
line_text_is word words = ap (λ bytes. kept_apart bytes ++ 10 ∷ []) (join_spaced word words) ∙ kept (ends_in 92 (word ++ spaced words)) (word ++ spaced words)

-- a line whose bytes are some, a blank and a last word
line_ended : (word : List ℕ) (words : List (List ℕ)) (before last : List ℕ) → word ++ spaced words ≡ before ++ 32 ∷ last
    → line_text (line_of_words (word ∷ words)) ≡ before ++ (32 ∷ (last ++ line_end last))
line_ended word words before last is =
    line_text_is word words
    ∙ ap (λ bytes. bytes ++ line_end bytes) is
    ∙ ap (λ e. (before ++ 32 ∷ last) ++ e) (end_of_last before last)
    ∙ append_assoc before (32 ∷ last) (line_end last)

-- the line of a node
pub names_line_is : (n : NamedNode) → line_text (names_line n) ≡ codes ".names" ++ (spaced n.reads ++ (32 ∷ (n.out ++ line_end n.out)))
names_line_is n =
    line_ended (codes ".names") (n.reads ++ n.out ∷ []) (codes ".names" ++ spaced n.reads) n.out
    (ap (λ rest. codes ".names" ++ rest) (spaced-append n.reads (n.out ∷ []) ∙ ap (λ rest. spaced n.reads ++ 32 ∷ rest) (append-nil n.out))
    ∙ sym (append_assoc (codes ".names") (spaced n.reads) (32 ∷ n.out)))
    ∙ append_assoc (codes ".names") (spaced n.reads) (32 ∷ (n.out ++ line_end n.out))

-- the words of a clock in a line
pub clock_spaced : (clock : Option Clock) → type_text clock ++ control_text clock ≡ spaced (clock_words clock)
clock_spaced None = refl
clock_spaced (Some clock) =
    let type = type_word clock.edge in
    ap (λ rest. 32 ∷ rest) (append_assoc type (32 ∷ []) clock.control ∙ ap (λ rest. type ++ 32 ∷ rest) (sym (append-nil clock.control)))

-- the line of a latch, with the words of a clock
pub latch_line_is : (clock : List (List ℕ)) (l : NamedLatch)
    → line_text (clocked_latch_line clock l) ≡ codes ".latch " ++ (l.reads ++ (32 ∷ (l.out ++ (spaced clock ++ latch_end l.init))))
latch_line_is clock l =
    let bit = bit_character l.init ∷ [] in
    let own = l.reads ++ 32 ∷ (l.out ++ spaced clock) in
    line_ended (codes ".latch") (l.reads ∷ l.out ∷ (clock ++ bit ∷ [])) (codes ".latch " ++ own) bit
    (ap (λ rest. codes ".latch " ++ (l.reads ++ 32 ∷ (l.out ++ rest))) (spaced-append clock (bit ∷ []))
    ∙ ap (λ rest. codes ".latch " ++ rest) (placed l.reads l.out (spaced clock) (32 ∷ bit)))
    ∙ ap (λ e. (codes ".latch " ++ own) ++ (32 ∷ bit_character l.init ∷ e)) (bit_end l.init)
    ∙ ap (λ rest. codes ".latch " ++ rest) (sym (placed l.reads l.out (spaced clock) (latch_end l.init)))
  where
    placed : (reads out words rest : List ℕ) → reads ++ (32 ∷ (out ++ (words ++ rest))) ≡ (reads ++ 32 ∷ (out ++ words)) ++ rest
    placed reads out words rest = ap (λ t. reads ++ 32 ∷ t) (sym (append_assoc out words rest)) ∙ sym (append_assoc reads (32 ∷ (out ++ words)) rest)

-- the line of a row
row_line_is : (l : Literal) (row : List Literal) (on : Bool)
    → line_text (row_line on (l ∷ row)) ≡ text_of_literals (l ∷ row) ++ 32 ∷ bit_character on ∷ 10 ∷ []
row_line_is l row on =
    line_ended (text_of_literals (l ∷ row)) ((bit_character on ∷ []) ∷ []) (text_of_literals (l ∷ row)) (bit_character on ∷ []) refl
    ∙ ap (λ e. text_of_literals (l ∷ row) ++ (32 ∷ bit_character on ∷ e)) (bit_end on)

pub row_text : (width care value : ℕ) (on : Bool)
    → line_text (row_line on (literals width care value)) ≡ text_of_literals (literals width care value) ++ row_end width on
row_text zero care value on = line_text_is (bit_character on ∷ []) [] ∙ ap (λ e. bit_character on ∷ e) (bit_end on)
row_text (suc n) care value on =
    row_line_is _ (literals n care value) on
    ∙ ap (λ (v : Bool). text_of_literals (literals (suc n) care value) ++ cond v (bit_character on ∷ 10 ∷ []) (32 ∷ bit_character on ∷ 10 ∷ [])) (sym (eqb-suc-zero n))
