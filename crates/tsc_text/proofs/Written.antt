-- Lines that are written and read again have the same words.
use Rattle.std.proofs.Common.{◌≡◌, ℕ, ◌+◌, Bool, true, false, cond, not, ◌&&◌, ◌||◌, List, [], ◌∷◌, ◌++◌, codes, drop, map, length, eqb, None, Some, refl, sym, ap, subst, ◌∙◌, append_assoc, append-nil, arith}
use Rattle.std.specs.List.{join_with_byte, list_all}
use Rattle.std.proofs.Math.Dec.{leb}
use Rattle.std.proofs.lemmas.Bool.{eqb-true}
use Rattle.tsc_text.specs.Bytes.{is_blank, is_feed}
use Rattle.tsc_text.specs.TextLine.{TextLine, line_with}
use Rattle.tsc_text.specs.Lines.{filled, words_of, ends_in, without_return, before_comment, begins_plan, begins_with, closed, joined, left_open, pieces, with_byte, physical_lines, lines_of, lines_from, without_last}
use Rattle.tsc_text.specs.Written.{WrittenLine, can_be_written, is_word, is_word_byte, kept_apart, line_bytes, line_text, numbered, plan_mark, text_of}
use Rattle.tsc_text.proofs.Parts.{spell, spell-append, words_of-spell, ends_in-append}
use Rattle.tsc_text.proofs.ReaderSteps.{by_test}

-- what a byte of a word is not
pub record IsWordByte (is_plan : Bool) (b : ℕ) : Type 0 where
  pub blank : is_blank b ≡ false
  pub feed : is_feed b ≡ false
  pub comment : is_plan ≡ false → eqb b 35 ≡ false

comment-is : (is_plan c : Bool) → (is_plan || not c) ≡ true → is_plan ≡ false → c ≡ false
comment-is true c h e = cc
comment-is false true h e = cc
comment-is false false h e = refl

word_byte-is : (is_plan : Bool) (b : ℕ) → is_word_byte is_plan b ≡ true → IsWordByte is_plan b
word_byte-is is_plan b h =
    by_test (is_blank b) (λ v. (not v && (not (is_feed b) && (is_plan || not (eqb b 35)))) ≡ true → IsWordByte is_plan b)
    (λ _ k. cc)
    (λ blank. by_test (is_feed b) (λ v. (not v && (is_plan || not (eqb b 35))) ≡ true → IsWordByte is_plan b)
    (λ _ k. cc)
    (λ feed k. record { blank = blank; feed = feed; comment = comment-is is_plan (eqb b 35) k }))
    h

-- both tests pass
pub record Both (a b : Bool) : Type 0 where
  pub left : a ≡ true
  pub right : b ≡ true

-- where two tests pass together, both pass
pub both : (a b : Bool) → (a && b) ≡ true → Both a b
both true b h = record { left = refl; right = h }
both false b h = cc

pieces-line : (bytes rest : List ℕ) → list_all (λ b. not (is_feed b)) bytes ≡ true → pieces is_feed (bytes ++ 10 ∷ rest) ≡ bytes ∷ pieces is_feed rest
pieces-line [] rest h = refl
pieces-line (b ∷ bytes) rest h =
    let parts : Both (not (is_feed b)) (list_all (λ c. not (is_feed c)) bytes) = both _ _ h in
    by_test (is_feed b) (λ v. not v ≡ true → with_byte v b (pieces is_feed (bytes ++ 10 ∷ rest)) ≡ (b ∷ bytes) ∷ pieces is_feed rest)
    (λ _ k. cc)
    (λ _ k. ap (with_byte false b) (pieces-line bytes rest parts.right))
    parts.left

ends_in-none : (x : ℕ) (bytes : List ℕ) → list_all (λ b. not (eqb b x)) bytes ≡ true → ends_in x bytes ≡ false
ends_in-none x [] h = refl
ends_in-none x (b ∷ []) h =
    by_test (eqb b x) (λ v. (not v && true) ≡ true → v ≡ false) (λ _ k. cc) (λ _ k. refl) h
ends_in-none x (b ∷ c ∷ bytes) h = ends_in-none x (c ∷ bytes) (both (not (eqb b x)) (list_all (λ d. not (eqb d x)) (c ∷ bytes)) h).right

before_comment-none : (bytes : List ℕ) → list_all (λ b. not (eqb b 35)) bytes ≡ true → before_comment bytes ≡ bytes
before_comment-none [] h = refl
before_comment-none (b ∷ bytes) h =
    let parts : Both (not (eqb b 35)) (list_all (λ c. not (eqb c 35)) bytes) = both _ _ h in
    by_test (eqb b 35) (λ v. not v ≡ true → cond v [] (b ∷ before_comment bytes) ≡ b ∷ bytes)
    (λ _ k. cc)
    (λ _ k. ap (λ (x : List ℕ). b ∷ x) (before_comment-none bytes parts.right))
    parts.left

-- where all items of two lists pass a test, all of both together do
pub list_all-append : (test : ℕ → Bool) (xs ys : List ℕ) → list_all test xs ≡ true → list_all test ys ≡ true → list_all test (xs ++ ys) ≡ true
list_all-append test [] ys h k = k
list_all-append test (x ∷ xs) ys h k =
    let parts : Both (test x) (list_all test xs) = both _ _ h in
    ap (λ (v : Bool). v && list_all test (xs ++ ys)) parts.left ∙ list_all-append test xs ys parts.right k

-- a test that each byte of a word passes, and the blank
word-all : (plan : Bool) (test : ℕ → Bool) → ((b : ℕ) → IsWordByte plan b → test b ≡ true) → (w : List ℕ) → list_all (is_word_byte plan) w ≡ true → list_all test w ≡ true
word-all plan test each [] h = refl
word-all plan test each (b ∷ w) h =
    let parts : Both (is_word_byte plan b) (list_all (is_word_byte plan) w) = both _ _ h in
    ap (λ (v : Bool). v && list_all test w) (each b (word_byte-is plan b parts.left)) ∙ word-all plan test each w parts.right

word-bytes : (plan : Bool) (w : List ℕ) → is_word plan w ≡ true → list_all (is_word_byte plan) w ≡ true
word-bytes plan w h = (both (leb 1 (length w)) (list_all (is_word_byte plan) w) h).right

joined-all : (plan : Bool) (test : ℕ → Bool) → ((b : ℕ) → IsWordByte plan b → test b ≡ true) → test 32 ≡ true → (words : List (List ℕ)) → list_all (is_word plan) words ≡ true → list_all test (join_with_byte 32 words) ≡ true
joined-all plan test each blank [] h = refl
joined-all plan test each blank (w ∷ []) h = word-all plan test each w (word-bytes plan w (both (is_word plan w) true h).left)
joined-all plan test each blank (w ∷ v ∷ words) h =
    let parts : Both (is_word plan w) (list_all (is_word plan) (v ∷ words)) = both _ _ h in
    list_all-append test w (32 ∷ join_with_byte 32 (v ∷ words)) (word-all plan test each w (word-bytes plan w parts.left))
    (ap (λ (x : Bool). x && list_all test (join_with_byte 32 (v ∷ words))) blank ∙ joined-all plan test each blank (v ∷ words) parts.right)

-- the words of joined words
spell-word : (plan : Bool) (v w q : List ℕ) → list_all (is_word_byte plan) w ≡ true → spell v (w ++ q) ≡ spell (v ++ w) q
spell-word plan v [] q h = ap (λ (x : List ℕ). spell x q) (sym (append-nil v))
spell-word plan v (b ∷ w) q h =
    let parts : Both (is_word_byte plan b) (list_all (is_word_byte plan) w) = both _ _ h in
    ap (λ (x : Bool). cond x (filled (v ∷ []) ++ spell [] (w ++ q)) (spell (v ++ b ∷ []) (w ++ q))) (word_byte-is plan b parts.left).blank
    ∙ spell-word plan (v ++ b ∷ []) w q parts.right
    ∙ ap (λ (x : List ℕ). spell x q) (append_assoc v (b ∷ []) w)

filled-word : (plan : Bool) (w : List ℕ) → is_word plan w ≡ true → filled (w ∷ []) ≡ w ∷ []
filled-word plan [] h = cc
filled-word plan (b ∷ w) h = refl

spell-joined : (plan : Bool) (words : List (List ℕ)) → list_all (is_word plan) words ≡ true → spell [] (join_with_byte 32 words) ≡ words
spell-joined plan [] h = refl
spell-joined plan (w ∷ []) h =
    let word : is_word plan w ≡ true = (both (is_word plan w) true h).left in
    ap (spell []) (sym (append-nil w)) ∙ spell-word plan [] w [] (word-bytes plan w word) ∙ filled-word plan w word
spell-joined plan (w ∷ v ∷ words) h =
    let parts : Both (is_word plan w) (list_all (is_word plan) (v ∷ words)) = both _ _ h in
    spell-word plan [] w (32 ∷ join_with_byte 32 (v ∷ words)) (word-bytes plan w parts.left)
    ∙ ap (λ (x : List (List ℕ)). x ++ spell [] (join_with_byte 32 (v ∷ words))) (filled-word plan w parts.left)
    ∙ ap (λ (x : List (List ℕ)). w ∷ x) (spell-joined plan (v ∷ words) parts.right)

kept_apart-all : (test : ℕ → Bool) → test 32 ≡ true → (bytes : List ℕ) → list_all test bytes ≡ true → list_all test (kept_apart bytes) ≡ true
kept_apart-all test blank bytes h = by_test (ends_in 92 bytes) (λ v. list_all test (cond v (bytes ++ 32 ∷ []) bytes) ≡ true)
    (λ _. list_all-append test bytes (32 ∷ []) h (ap (λ (v : Bool). v && true) blank)) (λ _. h)

kept_apart-ends : (bytes : List ℕ) → ends_in 92 (kept_apart bytes) ≡ false
kept_apart-ends bytes = by_test (ends_in 92 bytes) (λ v. ends_in 92 bytes ≡ v → ends_in 92 (cond v (bytes ++ 32 ∷ []) bytes) ≡ false)
    (λ _ k. ends_in-append 92 bytes 32 []) (λ _ k. k) refl

spell-kept_apart : (bytes : List ℕ) → spell [] (kept_apart bytes) ≡ spell [] bytes
spell-kept_apart bytes = by_test (ends_in 92 bytes) (λ v. spell [] (cond v (bytes ++ 32 ∷ []) bytes) ≡ spell [] bytes)
    (λ _. spell-append [] bytes [] ∙ append-nil (spell [] bytes)) (λ _. refl)

begins_plan-none : (bytes : List ℕ) → list_all (λ b. not (eqb b 35)) bytes ≡ true → begins_plan bytes ≡ false
begins_plan-none [] h = refl
begins_plan-none (b ∷ bytes) h =
    let rest : List ℕ = 116 ∷ 115 ∷ 99 ∷ 32 ∷ [] in
    by_test (eqb b 35) (λ v. (not v && list_all (λ c. not (eqb c 35)) bytes) ≡ true → (v && begins_with rest bytes) ≡ false) (λ _ k. cc) (λ _ k. refl) h

-- the bytes of a line, without LF and CR
mark-all : (test : ℕ → Bool) (is_plan : Bool) → list_all test (codes "#tsc ") ≡ true → (bytes : List ℕ) → list_all test bytes ≡ true → list_all test (plan_mark is_plan ++ bytes) ≡ true
mark-all test true mark bytes h = list_all-append test (codes "#tsc ") bytes mark h
mark-all test false mark bytes h = h

line_bytes-all : (test : ℕ → Bool) → ((plan : Bool) (b : ℕ) → IsWordByte plan b → test b ≡ true) → test 32 ≡ true → list_all test (codes "#tsc ") ≡ true → (line : WrittenLine) → can_be_written line ≡ true → list_all test (line_bytes line) ≡ true
line_bytes-all test each blank mark line h =
    kept_apart-all test blank (plan_mark line.is_plan ++ join_with_byte 32 line.words)
    (mark-all test line.is_plan mark (join_with_byte 32 line.words) (joined-all line.is_plan test (each line.is_plan) blank line.words (both (leb 1 (length line.words)) (list_all (is_word line.is_plan) line.words) h).right))

no_return : (plan : Bool) (b : ℕ) → IsWordByte plan b → not (eqb b 13) ≡ true
no_return plan b h = by_test (eqb b 13) (λ v. not v ≡ true)
    (λ t. let P : ℕ → Type 0 = λ x. is_blank x ≡ false in let k : true ≡ false = subst P (eqb-true b 13 t) h.blank in cc) (λ _. refl)

line_bytes-pieces : (line : WrittenLine) → can_be_written line ≡ true → (rest : List ℕ) → pieces is_feed (line_text line ++ rest) ≡ line_bytes line ∷ pieces is_feed rest
line_bytes-pieces line h rest = ap (pieces is_feed) (append_assoc (line_bytes line) (10 ∷ []) rest)
    ∙ pieces-line (line_bytes line) rest (line_bytes-all (λ b. not (is_feed b)) (λ plan b k. ap not k.feed) refl refl line h)

line_bytes-return : (line : WrittenLine) → can_be_written line ≡ true → without_return (line_bytes line) ≡ line_bytes line
line_bytes-return line h =
    ap (λ (v : Bool). cond v (without_last (line_bytes line)) (line_bytes line)) (ends_in-none 13 (line_bytes line) (line_bytes-all (λ b. not (eqb b 13)) no_return refl refl line h))

-- a line with a word
some-line : (number : ℕ) (is_plan : Bool) (words : List (List ℕ)) → leb 1 (length words) ≡ true → line_with number is_plan words ≡ record { number = number; is_plan = is_plan; words = words } ∷ []
some-line number is_plan [] h = cc
some-line number is_plan (w ∷ words) h = refl

plan-begins-kept : (bytes : List ℕ) → begins_plan (kept_apart (codes "#tsc " ++ bytes)) ≡ true
plan-begins-kept bytes = by_test (ends_in 92 (codes "#tsc " ++ bytes)) (λ v. begins_plan (cond v ((codes "#tsc " ++ bytes) ++ 32 ∷ []) (codes "#tsc " ++ bytes)) ≡ true) (λ _. refl) (λ _. refl)

plan-words-kept : (bytes : List ℕ) → spell [] (drop 5 (kept_apart (codes "#tsc " ++ bytes))) ≡ spell [] bytes
plan-words-kept bytes = by_test (ends_in 92 (codes "#tsc " ++ bytes)) (λ v. spell [] (drop 5 (cond v ((codes "#tsc " ++ bytes) ++ 32 ∷ []) (codes "#tsc " ++ bytes))) ≡ spell [] bytes)
    (λ _. spell-append [] bytes [] ∙ append-nil (spell [] bytes)) (λ _. refl)

plan-line : (n : ℕ) (words : List (List ℕ)) (ps : List (List ℕ)) → leb 1 (length words) ≡ true → list_all (is_word true) words ≡ true →
    lines_from None n (kept_apart (codes "#tsc " ++ join_with_byte 32 words) ∷ ps) ≡ record { number = n; is_plan = true; words = words } ∷ lines_from None (n + 1) ps
plan-line n words ps some h =
    let body : List ℕ = kept_apart (codes "#tsc " ++ join_with_byte 32 words) in
    ap (λ (v : Bool). cond v (line_with n true (words_of (drop 5 body))) (closed (joined None n body)) ++ lines_from (cond v None (left_open (joined None n body))) (n + 1) ps) (plan-begins-kept (join_with_byte 32 words))
    ∙ ap (λ (ws : List (List ℕ)). line_with n true ws ++ lines_from None (n + 1) ps) (words_of-spell (drop 5 body) ∙ plan-words-kept (join_with_byte 32 words) ∙ spell-joined true words h)
    ∙ ap (λ (x : List TextLine). x ++ lines_from None (n + 1) ps) (some-line n true words some)

other-line : (n : ℕ) (words : List (List ℕ)) (ps : List (List ℕ)) → leb 1 (length words) ≡ true → list_all (is_word false) words ≡ true →
    lines_from None n (kept_apart (join_with_byte 32 words) ∷ ps) ≡ record { number = n; is_plan = false; words = words } ∷ lines_from None (n + 1) ps
other-line n words ps some h =
    let body : List ℕ = kept_apart (join_with_byte 32 words) in
    let plain : list_all (λ b. not (eqb b 35)) body ≡ true = kept_apart-all (λ b. not (eqb b 35)) refl (join_with_byte 32 words) (joined-all false (λ b. not (eqb b 35)) (λ b k. ap not (k.comment refl)) refl words h) in
    ap (λ (v : Bool). cond v (line_with n true (words_of (drop 5 body))) (closed (joined None n body)) ++ lines_from (cond v None (left_open (joined None n body))) (n + 1) ps) (begins_plan-none body plain)
    ∙ ap (λ (x : List ℕ). closed (record { number = n; bytes = x }) ++ lines_from (left_open (record { number = n; bytes = x })) (n + 1) ps) (before_comment-none body plain)
    ∙ ap (λ (v : Bool). cond v [] (line_with n false (words_of body)) ++ lines_from (cond v (Some (record { number = n; bytes = without_last body ++ 32 ∷ [] })) None) (n + 1) ps) (kept_apart-ends (join_with_byte 32 words))
    ∙ ap (λ (ws : List (List ℕ)). line_with n false ws ++ lines_from None (n + 1) ps) (words_of-spell body ∙ spell-kept_apart (join_with_byte 32 words) ∙ spell-joined false words h)
    ∙ ap (λ (x : List TextLine). x ++ lines_from None (n + 1) ps) (some-line n false words some)

line-at : (is_plan : Bool) (n : ℕ) (words : List (List ℕ)) (ps : List (List ℕ)) → leb 1 (length words) ≡ true → list_all (is_word is_plan) words ≡ true →
    lines_from None n (kept_apart (plan_mark is_plan ++ join_with_byte 32 words) ∷ ps) ≡ record { number = n; is_plan = is_plan; words = words } ∷ lines_from None (n + 1) ps
line-at true n words ps some h = plan-line n words ps some h
line-at false n words ps some h = other-line n words ps some h

-- a written line, and what follows it
pub lines_from-line : (line : WrittenLine) → can_be_written line ≡ true → (n : ℕ) (rest : List ℕ) →
    lines_from None n (physical_lines (line_text line ++ rest)) ≡ record { number = n; is_plan = line.is_plan; words = line.words } ∷ lines_from None (n + 1) (physical_lines rest)
lines_from-line line h n rest =
    let parts : Both (leb 1 (length line.words)) (list_all (is_word line.is_plan) line.words) = both _ _ h in
    ap (λ (ps : List (List ℕ)). lines_from None n (map without_return ps)) (line_bytes-pieces line h rest)
    ∙ ap (λ (p : List ℕ). lines_from None n (p ∷ physical_lines rest)) (line_bytes-return line h)
    ∙ line-at line.is_plan n line.words (physical_lines rest) parts.left parts.right

-- written lines, and what follows them
pub lines_from-text : (lines : List WrittenLine) → list_all can_be_written lines ≡ true → (n : ℕ) (rest : List ℕ) →
    lines_from None n (physical_lines (text_of lines ++ rest)) ≡ numbered n lines ++ lines_from None (n + length lines) (physical_lines rest)
lines_from-text [] h n rest = let e : n ≡ n + 0 = omega arith in ap (λ (m : ℕ). lines_from None m (physical_lines rest)) e
lines_from-text (line ∷ lines) h n rest =
    let parts : Both (can_be_written line) (list_all can_be_written lines) = both _ _ h in
    let e : n + 1 + length lines ≡ n + length (line ∷ lines) = omega arith in
    ap (λ (x : List ℕ). lines_from None n (physical_lines x)) (append_assoc (line_text line) (text_of lines) rest)
    ∙ lines_from-line line parts.left n (text_of lines ++ rest)
    ∙ ap (λ (x : List TextLine). record { number = n; is_plan = line.is_plan; words = line.words } ∷ x)
    (lines_from-text lines parts.right (n + 1) rest ∙ ap (λ (m : ℕ). numbered (n + 1) lines ++ lines_from None m (physical_lines rest)) e)

-- written lines are read again, numbered from 1 on
pub lines_of-text_of : (lines : List WrittenLine) → list_all can_be_written lines ≡ true → lines_of (text_of lines) ≡ numbered 1 lines
lines_of-text_of lines h =
    ap (λ (x : List ℕ). lines_from None 1 (physical_lines x)) (sym (append-nil (text_of lines)))
    ∙ lines_from-text lines h 1 [] ∙ append-nil (numbered 1 lines)
