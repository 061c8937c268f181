-- Each word of a line that was read can be written.
use Rattle.std.proofs.Common.{◌≡◌, ◌≤◌, ℕ, zero, suc, ◌+◌, Bool, true, false, cond, not, ◌&&◌, ◌||◌, List, [], ◌∷◌, ◌++◌, drop, map, length, eqb, Option, None, Some, refl, ap, ◌∙◌, arith}
use Rattle.std.specs.List.{list_all}
use Rattle.std.proofs.lemmas.Bool.{le-leb}
use Rattle.tsc_text.specs.Bytes.{is_blank, is_feed}
use Rattle.tsc_text.specs.TextLine.{TextLine, line_with}
use Rattle.tsc_text.specs.Lines.{OpenLine, before_comment, closed, ends_in, filled, is_plan_line, joined, left_open, line_ended, line_left, line_at_end, lines_from, lines_of, pieces, physical_lines, with_byte, without_last, without_return, words_of}
use Rattle.tsc_text.specs.Written.{can_be_written, is_word, is_word_byte, written}
use Rattle.tsc_text.proofs.Parts.{spell, words_of-spell}
use Rattle.tsc_text.proofs.ReaderSteps.{by_test}
use Rattle.tsc_text.proofs.Written.{Both, both, list_all-append}

-- a byte before a comment, or of a plan line
abbrev is_part : Bool → ℕ → Bool
is_part plan b = not (is_feed b) && (plan || not (eqb b 35))

filled-words : (plan : Bool) (w : List ℕ) → list_all (is_word_byte plan) w ≡ true → list_all (is_word plan) (filled (w ∷ [])) ≡ true
filled-words plan [] h = refl
filled-words plan (b ∷ w) h =
    let some : 1 ≤ length (b ∷ w) = omega arith in
    ap (λ (v : Bool). (v && list_all (is_word_byte plan) (b ∷ w)) && true) (le-leb 1 (length (b ∷ w)) some) ∙ ap (λ (v : Bool). v && true) h

words-append : (plan : Bool) (xs ys : List (List ℕ)) → list_all (is_word plan) xs ≡ true → list_all (is_word plan) ys ≡ true → list_all (is_word plan) (xs ++ ys) ≡ true
words-append plan [] ys h k = k
words-append plan (x ∷ xs) ys h k =
    let parts : Both (is_word plan x) (list_all (is_word plan) xs) = both _ _ h in
    ap (λ (v : Bool). v && list_all (is_word plan) (xs ++ ys)) parts.left ∙ words-append plan xs ys parts.right k

-- the words of such bytes
spell-words : (plan : Bool) (w q : List ℕ) → list_all (is_word_byte plan) w ≡ true → list_all (is_part plan) q ≡ true → list_all (is_word plan) (spell w q) ≡ true
spell-words plan [] [] h k = refl
spell-words plan (b ∷ w) [] h k = filled-words plan (b ∷ w) h
spell-words plan w (b ∷ q) h k =
    let parts : Both (is_part plan b) (list_all (is_part plan) q) = both _ _ k in
    by_test (is_blank b) (λ v. is_blank b ≡ v → list_all (is_word plan) (cond v (filled (w ∷ []) ++ spell [] q) (spell (w ++ b ∷ []) q)) ≡ true)
    (λ _ e. words-append plan (filled (w ∷ [])) (spell [] q) (filled-words plan w h) (spell-words plan [] q refl parts.right))
    (λ _ e. spell-words plan (w ++ b ∷ []) q
    (list_all-append (is_word_byte plan) w (b ∷ []) h
    (ap (λ (v : Bool). (not v && is_part plan b) && true) e ∙ ap (λ (v : Bool). v && true) parts.left)) parts.right)
    refl

-- the bytes of physical lines
is_part-from : (b : ℕ) → not (is_feed b) ≡ true → eqb b 35 ≡ false → is_part false b ≡ true
is_part-from b h e = ap (λ (v : Bool). not (is_feed b) && not v) e ∙ ap (λ (v : Bool). v && true) h

cut-parts : (p : List ℕ) → list_all (λ b. not (is_feed b)) p ≡ true → list_all (is_part false) (before_comment p) ≡ true
cut-parts [] h = refl
cut-parts (b ∷ p) h =
    let parts : Both (not (is_feed b)) (list_all (λ c. not (is_feed c)) p) = both _ _ h in
    by_test (eqb b 35) (λ v. eqb b 35 ≡ v → list_all (is_part false) (cond v [] (b ∷ before_comment p)) ≡ true)
    (λ _ e. refl)
    (λ _ e. ap (λ (v : Bool). v && list_all (is_part false) (before_comment p)) (is_part-from b parts.left e) ∙ cut-parts p parts.right)
    refl

plan-parts : (p : List ℕ) → list_all (λ b. not (is_feed b)) p ≡ true → list_all (is_part true) p ≡ true
plan-parts [] h = refl
plan-parts (b ∷ p) h =
    let parts : Both (not (is_feed b)) (list_all (λ c. not (is_feed c)) p) = both _ _ h in
    ap (λ (v : Bool). (v && true) && list_all (is_part true) p) parts.left ∙ plan-parts p parts.right

pub without_last-all : (test : ℕ → Bool) (p : List ℕ) → list_all test p ≡ true → list_all test (without_last p) ≡ true
without_last-all test [] h = refl
without_last-all test (b ∷ []) h = refl
without_last-all test (b ∷ c ∷ p) h =
    let parts : Both (test b) (list_all test (c ∷ p)) = both _ _ h in
    ap (λ (v : Bool). v && list_all test (without_last (c ∷ p))) parts.left ∙ without_last-all test (c ∷ p) parts.right

pub without_return-all : (test : ℕ → Bool) (p : List ℕ) → list_all test p ≡ true → list_all test (without_return p) ≡ true
without_return-all test p h = by_test (ends_in 13 p) (λ v. list_all test (cond v (without_last p) p) ≡ true) (λ _. without_last-all test p h) (λ _. h)

pub drop-all : (test : ℕ → Bool) (n : ℕ) (p : List ℕ) → list_all test p ≡ true → list_all test (drop n p) ≡ true
drop-all test zero p h = h
drop-all test (suc n) [] h = h
drop-all test (suc n) (b ∷ p) h = drop-all test n p (both (test b) (list_all test p) h).right

-- physical lines without LF
abbrev AreLines : List (List ℕ) → Type 0
AreLines [] = Unit {0}
AreLines (p ∷ ps) = (list_all (λ b. not (is_feed b)) p ≡ true) × AreLines ps

with_other : (b : ℕ) (ps : List (List ℕ)) → AreLines ps → is_feed b ≡ false → AreLines (with_byte false b ps)
with_other b [] h e = (ap (λ (v : Bool). not v && true) e, tt)
with_other b (p ∷ ps) h e = (ap (λ (v : Bool). not v && list_all (λ c. not (is_feed c)) p) e ∙ h.0, h.1)

with_byte-lines : (b : ℕ) (ps : List (List ℕ)) → AreLines ps → AreLines (with_byte (is_feed b) b ps)
with_byte-lines b ps h = by_test (is_feed b) (λ v. is_feed b ≡ v → AreLines (with_byte v b ps)) (λ _ e. (refl, h)) (λ _ e. with_other b ps h e) refl

pieces-lines : (text : List ℕ) → AreLines (pieces is_feed text)
pieces-lines [] = (refl, tt)
pieces-lines (b ∷ text) = with_byte-lines b (pieces is_feed text) (pieces-lines text)

returns-lines : (ps : List (List ℕ)) → AreLines ps → AreLines (map without_return ps)
returns-lines [] h = tt
returns-lines (p ∷ ps) h = (without_return-all (λ b. not (is_feed b)) p h.0, returns-lines ps h.1)

-- a line with such words can be written
abbrev CanBeWritten : List TextLine → Type 0
CanBeWritten lines = list_all (λ line. can_be_written (written line)) lines ≡ true

line_with-written : (number : ℕ) (plan : Bool) (ws : List (List ℕ)) → list_all (is_word plan) ws ≡ true → CanBeWritten (line_with number plan ws)
line_with-written number plan [] h = refl
line_with-written number plan (w ∷ ws) h =
    let some : 1 ≤ length (w ∷ ws) = omega arith in
    ap (λ (v : Bool). (v && list_all (is_word plan) (w ∷ ws)) && true) (le-leb 1 (length (w ∷ ws)) some) ∙ ap (λ (v : Bool). v && true) h

lines-append : (xs ys : List TextLine) → CanBeWritten xs → CanBeWritten ys → CanBeWritten (xs ++ ys)
lines-append [] ys h k = k
lines-append (x ∷ xs) ys h k =
    let parts : Both (can_be_written (written x)) (list_all (λ line. can_be_written (written line)) xs) = both _ _ h in
    ap (λ (v : Bool). v && list_all (λ line. can_be_written (written line)) (xs ++ ys)) parts.left ∙ lines-append xs ys parts.right k

words_of-words : (plan : Bool) (c : List ℕ) → list_all (is_part plan) c ≡ true → list_all (is_word plan) (words_of c) ≡ true
words_of-words plan c h = ap (list_all (is_word plan)) (words_of-spell c) ∙ spell-words plan [] c refl h

abbrev IsCleanOpen : Option OpenLine → Type 0
IsCleanOpen None = Unit {0}
IsCleanOpen (Some line) = list_all (is_part false) line.bytes ≡ true

joined-clean : (o : Option OpenLine) (n : ℕ) (p : List ℕ) → IsCleanOpen o → list_all (λ b. not (is_feed b)) p ≡ true → list_all (is_part false) (joined o n p).bytes ≡ true
joined-clean None n p h k = cut-parts p k
joined-clean (Some line) n p h k = list_all-append (is_part false) line.bytes (before_comment p) h (cut-parts p k)

closed-written : (line : OpenLine) → list_all (is_part false) line.bytes ≡ true → CanBeWritten (closed line)
closed-written line h = by_test (ends_in 92 line.bytes) (λ v. CanBeWritten (cond v [] (line_with line.number false (words_of line.bytes))))
    (λ _. refl) (λ _. line_with-written line.number false (words_of line.bytes) (words_of-words false line.bytes h))

left-clean : (line : OpenLine) → list_all (is_part false) line.bytes ≡ true → IsCleanOpen (left_open line)
left-clean line h = by_test (ends_in 92 line.bytes) (λ v. IsCleanOpen (cond v (Some (record { number = line.number; bytes = without_last line.bytes ++ 32 ∷ [] })) None))
    (λ _. list_all-append (is_part false) (without_last line.bytes) (32 ∷ []) (without_last-all (is_part false) line.bytes h) refl) (λ _. tt)

ended-written : (o : Option OpenLine) (n : ℕ) (p : List ℕ) → IsCleanOpen o → list_all (λ b. not (is_feed b)) p ≡ true → CanBeWritten (line_ended o n p)
ended-written o n p h k = by_test (is_plan_line o p) (λ v. CanBeWritten (cond v (line_with n true (words_of (drop 5 p))) (closed (joined o n p))))
    (λ _. line_with-written n true (words_of (drop 5 p)) (words_of-words true (drop 5 p) (plan-parts (drop 5 p) (drop-all (λ b. not (is_feed b)) 5 p k))))
    (λ _. closed-written (joined o n p) (joined-clean o n p h k))

left_by-clean : (o : Option OpenLine) (n : ℕ) (p : List ℕ) → IsCleanOpen o → list_all (λ b. not (is_feed b)) p ≡ true → IsCleanOpen (line_left o n p)
left_by-clean o n p h k = by_test (is_plan_line o p) (λ v. IsCleanOpen (cond v None (left_open (joined o n p)))) (λ _. tt) (λ _. left-clean (joined o n p) (joined-clean o n p h k))

at_end-written : (o : Option OpenLine) → IsCleanOpen o → CanBeWritten (line_at_end o)
at_end-written None h = refl
at_end-written (Some line) h = line_with-written line.number false (words_of line.bytes) (words_of-words false line.bytes h)

lines_from-written : (ps : List (List ℕ)) (o : Option OpenLine) (n : ℕ) → IsCleanOpen o → AreLines ps → CanBeWritten (lines_from o n ps)
lines_from-written [] o n h k = at_end-written o h
lines_from-written (p ∷ ps) o n h k = lines-append (line_ended o n p) (lines_from (line_left o n p) (n + 1) ps) (ended-written o n p h k.0)
    (lines_from-written ps (line_left o n p) (n + 1) (left_by-clean o n p h k.0) k.1)

-- each line of a text can be written: it has words, and they are words
pub lines_of-written : (text : List ℕ) → list_all (λ line. can_be_written (written line)) (lines_of text) ≡ true
lines_of-written text = lines_from-written (physical_lines text) None 1 tt (returns-lines (pieces is_feed text) (pieces-lines text))
