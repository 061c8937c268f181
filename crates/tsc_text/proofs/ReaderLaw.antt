-- The reader with words reads the lines of a text.
use Rattle.std.proofs.Common.{◌≡◌, ℕ, ◌+◌, Bool, true, false, cond, List, [], ◌∷◌, ◌++◌, drop, map, Option, None, Some, eqb, refl, sym, ap, subst, ◌∙◌, append_assoc, append-nil}
use Rattle.tsc_text.specs.declared.mode.Mode.{Mode}
use Rattle.tsc_text.specs.declared.mode.Mode.TheVariants.{Fresh, Hash, HashT, HashTs, HashTsc, Plan, Words, Slash, SlashReturn, Comment, CommentJoined}
use Rattle.tsc_text.specs.TextLine.{TextLine, line_with}
use Rattle.tsc_text.specs.Bytes.{is_blank, is_feed}
use Rattle.tsc_text.specs.Lines.{words_of, ends_in, without_last, without_return, before_comment, begins_plan, pieces, with_byte, lines_of, lines_from, OpenLine, joined, closed, left_open, line_ended, line_left, line_at_end}
use Rattle.tsc_text.proofs.Parts.{spell, part_words, ends_in-append, without_last-append, words_of-append, words_of-spell}
use Rattle.tsc_text.proofs.Reader.{IsSoundReader, OpenWords, Reader, line_of, open_of, part, read_end, read_feed, read_in_line, read_step, read_words, to_come, with_slash, words_at_end, words_ended, words_from, words_joined, words_left}
use Rattle.tsc_text.proofs.ReaderSteps.{by_test, line-step}

-- nothing is open before the first byte of a line that is not joined
line-sound-words : (r : Reader) (b : ℕ) → IsSoundReader (read_words r b)
line-sound-words r b = by_test (eqb b 35) (λ v. IsSoundReader (cond v (record (part r) { mode = Comment }) (cond (eqb b 92) (record r { mode = Slash }) (cond (is_blank b) (record (part r) { mode = Words }) (record r { word = r.word ++ b ∷ []; mode = Words })))))
    (λ _. tt)
    (λ _. by_test (eqb b 92) (λ v. IsSoundReader (cond v (record r { mode = Slash }) (cond (is_blank b) (record (part r) { mode = Words }) (record r { word = r.word ++ b ∷ []; mode = Words }))))
    (λ _. tt)
    (λ _. by_test (is_blank b) (λ v. IsSoundReader (cond v (record (part r) { mode = Words }) (record r { word = r.word ++ b ∷ []; mode = Words }))) (λ _. tt) (λ _. tt)))

line-sound-at : (m : Mode) (r : Reader) (s : IsSoundReader (record r { mode = m })) (b : ℕ) → IsSoundReader (read_in_line (record r { mode = m }) b)
line-sound-at Fresh r s b = by_test (eqb b 35) (λ v. IsSoundReader (cond v (record r { mode = Hash }) (read_words (record r { mode = Fresh }) b))) (λ _. record { words = s.words; word = s.word; number = s.number }) (λ _. line-sound-words (record r { mode = Fresh }) b)
line-sound-at Hash r s b = by_test (eqb b 116) (λ v. IsSoundReader (record r { mode = cond v HashT Comment })) (λ _. record { words = s.words; word = s.word; number = s.number }) (λ _. tt)
line-sound-at HashT r s b = by_test (eqb b 115) (λ v. IsSoundReader (record r { mode = cond v HashTs Comment })) (λ _. record { words = s.words; word = s.word; number = s.number }) (λ _. tt)
line-sound-at HashTs r s b = by_test (eqb b 99) (λ v. IsSoundReader (record r { mode = cond v HashTsc Comment })) (λ _. record { words = s.words; word = s.word; number = s.number }) (λ _. tt)
line-sound-at HashTsc r s b = by_test (eqb b 32) (λ v. IsSoundReader (record r { word = []; mode = cond v Plan Comment })) (λ _. tt) (λ _. tt)
line-sound-at Plan r s b = by_test (is_blank b) (λ v. IsSoundReader (cond v (part (record r { mode = Plan })) (record r { word = r.word ++ b ∷ []; mode = Plan }))) (λ _. tt) (λ _. tt)
line-sound-at Words r s b = line-sound-words (record r { mode = Words }) b
line-sound-at Slash r s b = by_test (eqb b 35) (λ v. IsSoundReader (cond v (record (part r) { mode = CommentJoined }) (cond (eqb b 13) (record r { mode = SlashReturn }) (read_words (with_slash (record r { mode = Slash })) b))))
    (λ _. tt)
    (λ _. by_test (eqb b 13) (λ v. IsSoundReader (cond v (record r { mode = SlashReturn }) (read_words (with_slash (record r { mode = Slash })) b))) (λ _. tt) (λ _. line-sound-words (with_slash (record r { mode = Slash })) b))
line-sound-at SlashReturn r s b = line-sound-words (part (with_slash (record r { mode = SlashReturn }))) b
line-sound-at Comment r s b = tt
line-sound-at CommentJoined r s b = tt

feed-sound-at : (m : Mode) (r : Reader) → IsSoundReader (read_feed (record r { mode = m }))
feed-sound-at Fresh r = record { words = refl; word = refl; number = refl }
feed-sound-at Hash r = record { words = refl; word = refl; number = refl }
feed-sound-at HashT r = record { words = refl; word = refl; number = refl }
feed-sound-at HashTs r = record { words = refl; word = refl; number = refl }
feed-sound-at HashTsc r = record { words = refl; word = refl; number = refl }
feed-sound-at Plan r = record { words = refl; word = refl; number = refl }
feed-sound-at Words r = record { words = refl; word = refl; number = refl }
feed-sound-at Slash r = tt
feed-sound-at SlashReturn r = tt
feed-sound-at Comment r = record { words = refl; word = refl; number = refl }
feed-sound-at CommentJoined r = tt

-- no line ends within a physical line
words-lines : (r : Reader) (b : ℕ) → (read_words r b).lines ≡ r.lines
words-lines r b = by_test (eqb b 35) (λ v. (cond v (record (part r) { mode = Comment }) (cond (eqb b 92) (record r { mode = Slash }) (cond (is_blank b) (record (part r) { mode = Words }) (record r { word = r.word ++ b ∷ []; mode = Words })))).lines ≡ r.lines)
    (λ _. refl)
    (λ _. by_test (eqb b 92) (λ v. (cond v (record r { mode = Slash }) (cond (is_blank b) (record (part r) { mode = Words }) (record r { word = r.word ++ b ∷ []; mode = Words }))).lines ≡ r.lines)
    (λ _. refl)
    (λ _. by_test (is_blank b) (λ v. (cond v (record (part r) { mode = Words }) (record r { word = r.word ++ b ∷ []; mode = Words })).lines ≡ r.lines) (λ _. refl) (λ _. refl)))

line-lines-at : (m : Mode) (r : Reader) (b : ℕ) → (read_in_line (record r { mode = m }) b).lines ≡ r.lines
line-lines-at Fresh r b = by_test (eqb b 35) (λ v. (cond v (record r { mode = Hash }) (read_words (record r { mode = Fresh }) b)).lines ≡ r.lines) (λ _. refl) (λ _. words-lines (record r { mode = Fresh }) b)
line-lines-at Hash r b = refl
line-lines-at HashT r b = refl
line-lines-at HashTs r b = refl
line-lines-at HashTsc r b = refl
line-lines-at Plan r b = by_test (is_blank b) (λ v. (cond v (part (record r { mode = Plan })) (record r { word = r.word ++ b ∷ []; mode = Plan })).lines ≡ r.lines) (λ _. refl) (λ _. refl)
line-lines-at Words r b = words-lines (record r { mode = Words }) b
line-lines-at Slash r b = by_test (eqb b 35) (λ v. (cond v (record (part r) { mode = CommentJoined }) (cond (eqb b 13) (record r { mode = SlashReturn }) (read_words (with_slash (record r { mode = Slash })) b))).lines ≡ r.lines)
    (λ _. refl)
    (λ _. by_test (eqb b 13) (λ v. (cond v (record r { mode = SlashReturn }) (read_words (with_slash (record r { mode = Slash })) b)).lines ≡ r.lines) (λ _. refl) (λ _. words-lines (with_slash (record r { mode = Slash })) b))
line-lines-at SlashReturn r b = words-lines (part (with_slash (record r { mode = SlashReturn }))) b
line-lines-at Comment r b = refl
line-lines-at CommentJoined r b = refl

-- an LF
no_words : (r : Reader) (words : r.words ≡ []) (x : List TextLine) → r.lines ++ x ≡ (r.lines ++ line_with r.first false r.words) ++ x
no_words r words x = ap (λ (y : List TextLine). y ++ x) (sym (append-nil r.lines) ∙ ap (λ (ws : List (List ℕ)). r.lines ++ line_with r.first false ws) (sym words))

feed-step-at : (m : Mode) (r : Reader) (s : IsSoundReader (record r { mode = m })) (q : List ℕ) (ps : List (List ℕ)) →
    r.lines ++ to_come (record r { mode = m }) [] (without_return q ∷ ps) ≡ (read_feed (record r { mode = m })).lines ++ to_come (read_feed (record r { mode = m })) q ps
feed-step-at Fresh r s q ps = no_words r s.words _
feed-step-at Hash r s q ps = no_words r s.words _
feed-step-at HashT r s q ps = no_words r s.words _
feed-step-at HashTs r s q ps = no_words r s.words _
feed-step-at HashTsc r s q ps = no_words r s.words _
feed-step-at Plan r s q ps = sym (append_assoc r.lines _ _)
feed-step-at Words r s q ps = sym (append_assoc r.lines _ _)
feed-step-at Slash r s q ps = refl
feed-step-at SlashReturn r s q ps = refl
feed-step-at Comment r s q ps = sym (append_assoc r.lines _ _)
feed-step-at CommentJoined r s q ps = refl

-- the end of the text
end-step-at : (m : Mode) (r : Reader) (s : IsSoundReader (record r { mode = m })) → r.lines ++ to_come (record r { mode = m }) [] [] ≡ (read_end (record r { mode = m })).lines
end-step-at Fresh r s = no_words r s.words []
end-step-at Hash r s = no_words r s.words []
end-step-at HashT r s = no_words r s.words []
end-step-at HashTs r s = no_words r s.words []
end-step-at HashTsc r s = no_words r s.words []
end-step-at Plan r s = sym (append_assoc r.lines _ [])
end-step-at Words r s = sym (append_assoc r.lines _ [])
end-step-at Slash r s = refl
end-step-at SlashReturn r s = refl
end-step-at Comment r s = sym (append_assoc r.lines _ [])
end-step-at CommentJoined r s = refl

-- the bytes of a text, one after another
abbrev pub read_run : Reader → List ℕ → Reader
read_run r [] = r
read_run r (b ∷ bs) = read_run (read_step r b) bs

abbrev pub read_start : Reader
read_start = record { lines = []; number = 1; first = 1; words = []; word = []; mode = Fresh }

-- the lines still to come from the pieces that are left
come : Reader → List (List ℕ) → List TextLine
come r [] = []
come r (p ∷ ps) = to_come r p (map without_return ps)

come-feed : (r : Reader) → IsSoundReader r → (ps : List (List ℕ)) → (q : List ℕ) (qs : List (List ℕ)) → ps ≡ q ∷ qs → r.lines ++ come r ([] ∷ ps) ≡ (read_feed r).lines ++ come (read_feed r) ps
unfolding come
come-feed r s ps q qs e =
    let P : List (List ℕ) → Type 0 = λ x. r.lines ++ come r ([] ∷ x) ≡ (read_feed r).lines ++ come (read_feed r) x in
    subst P (sym e) (feed-step-at r.mode r s q (map without_return qs))

come-line : (r : Reader) → IsSoundReader r → (b : ℕ) (ps : List (List ℕ)) → (q : List ℕ) (qs : List (List ℕ)) → ps ≡ q ∷ qs → r.lines ++ come r (with_byte false b ps) ≡ (read_in_line r b).lines ++ come (read_in_line r b) ps
unfolding come
come-line r s b ps q qs e =
    let P : List (List ℕ) → Type 0 = λ x. r.lines ++ come r (with_byte false b x) ≡ (read_in_line r b).lines ++ come (read_in_line r b) x in
    subst P (sym e) (ap (λ (x : List TextLine). r.lines ++ x) (line-step r s b q (map without_return qs))
    ∙ ap (λ (x : List TextLine). x ++ to_come (read_in_line r b) q (map without_return qs)) (sym (line-lines-at r.mode r b)))

-- there is a first piece
pub some-pieces : (parts : ℕ → Bool) (bs : List ℕ) → (p : List ℕ) × (ps : List (List ℕ)) × (pieces parts bs ≡ p ∷ ps)
some-pieces parts [] = ([], [], refl)
some-pieces parts (b ∷ bs) = elim (parts b) as (λ v. (p : List ℕ) × (ps : List (List ℕ)) × (with_byte v b (pieces parts bs) ≡ p ∷ ps)) [
  | true ↦ ([], pieces parts bs, refl)
  | false ↦ elim (pieces parts bs) as (λ x. (p : List ℕ) × (ps : List (List ℕ)) × (with_byte false b x ≡ p ∷ ps)) [ [] ↦ (b ∷ [], [], refl) | (q ∷ qs) ↦ (b ∷ q, qs, refl) ]
]

read-law : (bs : List ℕ) (r : Reader) → IsSoundReader r → r.lines ++ come r (pieces is_feed bs) ≡ (read_end (read_run r bs)).lines
unfolding come
read-law [] r s = end-step-at r.mode r s
read-law (b ∷ bs) r s =
    let some : (p : List ℕ) × (ps : List (List ℕ)) × (pieces is_feed bs ≡ p ∷ ps) = some-pieces is_feed bs in
    by_test (is_feed b) (λ v. r.lines ++ come r (with_byte v b (pieces is_feed bs)) ≡ (read_end (read_run (cond v (read_feed r) (read_in_line r b)) bs)).lines)
    (λ _. come-feed r s (pieces is_feed bs) some.0 some.1 some.2 ∙ read-law bs (read_feed r) (feed-sound-at r.mode r))
    (λ _. come-line r s b (pieces is_feed bs) some.0 some.1 some.2 ∙ read-law bs (read_in_line r b) (line-sound-at r.mode r s b))

-- an open line, by its bytes and by its words
record IsOpened (line : OpenLine) (open_words : OpenWords) : Type 0 where
  number : line.number ≡ open_words.number
  words : (c : List ℕ) → words_of (line.bytes ++ c) ≡ open_words.words ++ words_of c
  ends : (c : List ℕ) → ends_in 92 (line.bytes ++ c) ≡ ends_in 92 c

abbrev Opened : Option OpenLine → Option OpenWords → Type 0
Opened None None = Unit {0}
Opened None (Some w) = ⊥
Opened (Some o) None = ⊥
Opened (Some o) (Some w) = IsOpened o w

closed-law : (number : ℕ) (before : List ℕ) (ws : List (List ℕ)) (c : List ℕ) →
    ((x : List ℕ) → words_of (before ++ x) ≡ ws ++ words_of x) → ((x : List ℕ) → ends_in 92 (before ++ x) ≡ ends_in 92 x) →
    closed (record { number = number; bytes = before ++ c }) ≡ line_of (ends_in 92 c) (record { number = number; words = ws ++ part_words [] c })
closed-law number before ws c words ends =
    ap (λ (v : Bool). cond v [] (line_with number false (words_of (before ++ c)))) (ends c)
    ∙ ap (λ (x : List (List ℕ)). cond (ends_in 92 c) [] (line_with number false x)) (words c ∙ ap (λ (x : List (List ℕ)). ws ++ x) (words_of-spell c))
    ∙ elim (ends_in 92 c) as (λ v. cond v [] (line_with number false (ws ++ spell [] c)) ≡ cond v [] (line_with number false (ws ++ cond v (spell [] (without_last c)) (spell [] c)))) [ true ↦ refl | false ↦ refl ]

blank-ends : (y c : List ℕ) → ends_in 92 ((y ++ 32 ∷ []) ++ c) ≡ ends_in 92 c
blank-ends y [] = ap (ends_in 92) (append-nil (y ++ 32 ∷ [])) ∙ ends_in-append 92 y 32 []
blank-ends y (d ∷ c) = ends_in-append 92 (y ++ 32 ∷ []) d c

blank-words : (before : List ℕ) (ws : List (List ℕ)) (d : ℕ) (c x : List ℕ) → ((z : List ℕ) → words_of (before ++ z) ≡ ws ++ words_of z) →
    words_of ((without_last (before ++ d ∷ c) ++ 32 ∷ []) ++ x) ≡ (ws ++ spell [] (without_last (d ∷ c))) ++ words_of x
blank-words before ws d c x words =
    let l : List ℕ = without_last (d ∷ c) in
    ap words_of (ap (λ (y : List ℕ). (y ++ 32 ∷ []) ++ x) (without_last-append before d c) ∙ append_assoc (before ++ l) (32 ∷ []) x ∙ append_assoc before l (32 ∷ x))
    ∙ words (l ++ 32 ∷ x)
    ∙ ap (λ (y : List (List ℕ)). ws ++ y) (words_of-append l x)
    ∙ sym (append_assoc ws (words_of l) (words_of x))
    ∙ ap (λ (y : List (List ℕ)). (ws ++ y) ++ words_of x) (words_of-spell l)

left-law : (number : ℕ) (before : List ℕ) (ws : List (List ℕ)) (c : List ℕ) →
    ((x : List ℕ) → words_of (before ++ x) ≡ ws ++ words_of x) → ((x : List ℕ) → ends_in 92 (before ++ x) ≡ ends_in 92 x) →
    Opened (left_open (record { number = number; bytes = before ++ c })) (open_of (ends_in 92 c) (record { number = number; words = ws ++ part_words [] c }))
left-law number before ws [] words ends =
    let P : Bool → Type 0 = λ v. Opened (cond v (Some (record { number = number; bytes = without_last (before ++ []) ++ 32 ∷ [] })) None) None in
    subst P (sym (ends [])) tt
left-law number before ws (d ∷ c) words ends =
    let left : OpenLine = record { number = number; bytes = without_last (before ++ d ∷ c) ++ 32 ∷ [] } in
    let P : Bool → Type 0 = λ v. Opened (cond v (Some left) None) (open_of (ends_in 92 (d ∷ c)) (record { number = number; words = ws ++ part_words [] (d ∷ c) })) in
    subst P (sym (ends (d ∷ c)))
    (elim (ends_in 92 (d ∷ c)) as (λ v. Opened (cond v (Some left) None) (open_of v (record { number = number; words = ws ++ cond v (spell [] (without_last (d ∷ c))) (spell [] (d ∷ c)) }))) [
      | true ↦ record { number = refl; words = λ x. blank-words before ws d c x words; ends = λ x. blank-ends (without_last (before ++ d ∷ c)) x }
      | false ↦ tt
    ])

ended-law : (o : Option OpenLine) (w : Option OpenWords) → Opened o w → (n : ℕ) (p : List ℕ) → line_ended o n p ≡ words_ended w n p
ended-law None None h n p = by_test (begins_plan p) (λ v. cond v (line_with n true (words_of (drop 5 p))) (closed (joined None n p)) ≡ cond v (line_with n true (words_of (drop 5 p))) (line_of (ends_in 92 (before_comment p)) (words_joined None n p)))
    (λ _. refl)
    (λ _. closed-law n [] [] (before_comment p) (λ x. refl) (λ x. refl))
ended-law None (Some w) h n p = absurd h
ended-law (Some o) None h n p = absurd h
ended-law (Some o) (Some w) h n p = closed-law o.number o.bytes w.words (before_comment p) h.words h.ends
    ∙ ap (λ (m : ℕ). line_of (ends_in 92 (before_comment p)) (record { number = m; words = w.words ++ part_words [] (before_comment p) })) h.number

left_by-law : (o : Option OpenLine) (w : Option OpenWords) → Opened o w → (n : ℕ) (p : List ℕ) → Opened (line_left o n p) (words_left w n p)
left_by-law None None h n p = by_test (begins_plan p) (λ v. Opened (cond v None (left_open (joined None n p))) (cond v None (open_of (ends_in 92 (before_comment p)) (words_joined None n p))))
    (λ _. tt)
    (λ _. left-law n [] [] (before_comment p) (λ x. refl) (λ x. refl))
left_by-law None (Some w) h n p = absurd h
left_by-law (Some o) None h n p = absurd h
left_by-law (Some o) (Some w) h n p =
    let P : ℕ → Type 0 = λ m. Opened (left_open (joined (Some o) n p)) (open_of (ends_in 92 (before_comment p)) (record { number = m; words = w.words ++ part_words [] (before_comment p) })) in
    subst P h.number (left-law o.number o.bytes w.words (before_comment p) h.words h.ends)

at_end-law : (o : Option OpenLine) (w : Option OpenWords) → Opened o w → line_at_end o ≡ words_at_end w
at_end-law None None h = refl
at_end-law None (Some w) h = absurd h
at_end-law (Some o) None h = absurd h
at_end-law (Some o) (Some w) h =
    ap (λ (x : List (List ℕ)). line_with o.number false x) (ap words_of (sym (append-nil o.bytes)) ∙ h.words [] ∙ append-nil w.words)
    ∙ ap (λ (m : ℕ). line_with m false w.words) h.number

lines-words : (ps : List (List ℕ)) (o : Option OpenLine) (w : Option OpenWords) (n : ℕ) → Opened o w → lines_from o n ps ≡ words_from w n ps
lines-words [] o w n h = at_end-law o w h
lines-words (p ∷ ps) o w n h =
    ap (λ (x : List TextLine). x ++ lines_from (line_left o n p) (n + 1) ps) (ended-law o w h n p)
    ∙ ap (λ (x : List TextLine). words_ended w n p ++ x) (lines-words ps (line_left o n p) (words_left w n p) (n + 1) (left_by-law o w h n p))

-- the machine with words gives the lines of the text
pub lines_of-read : (text : List ℕ) → lines_of text ≡ (read_end (read_run read_start text)).lines
unfolding come
lines_of-read text =
    let some : (p : List ℕ) × (ps : List (List ℕ)) × (pieces is_feed text ≡ p ∷ ps) = some-pieces is_feed text in
    let P : List (List ℕ) → Type 0 = λ x. lines_from None 1 (map without_return x) ≡ come read_start x in
    subst P (sym some.2) (lines-words (without_return some.0 ∷ map without_return some.1) None None 1 tt)
    ∙ read-law text read_start (record { words = refl; word = refl; number = refl })
