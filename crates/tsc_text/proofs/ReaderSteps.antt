-- The reader with words, a byte at a time: what is still to come of the open line and the lines behind it.
use Rattle.std.proofs.Common.{◌≡◌, ℕ, ◌+◌, Bool, true, false, cond, ◌&&◌, List, [], ◌∷◌, ◌++◌, drop, None, eqb, refl, sym, ap, subst, ◌∙◌, append_assoc, append-nil}
use Rattle.std.proofs.lemmas.Bool.{eqb-true}
use Rattle.tsc_text.specs.declared.mode.Mode.{Mode}
use Rattle.tsc_text.specs.declared.mode.Mode.TheVariants.{Fresh, Hash, HashT, HashTs, HashTsc, Plan, Words, Slash, SlashReturn, Comment, CommentJoined}
use Rattle.tsc_text.specs.TextLine.{TextLine, line_with}
use Rattle.tsc_text.specs.Bytes.{is_blank}
use Rattle.tsc_text.specs.Lines.{filled, words_of, ends_in, without_return, before_comment, begins_plan, begins_with}
use Rattle.tsc_text.proofs.Parts.{spell, part_words, part_words-blank, part_words-letter, part_words-slash, ends_in-cons, without_return-cons, without_return-other, words_of-spell}
use Rattle.tsc_text.proofs.Reader.{IsFresh, IsSoundReader, OpenWords, Reader, line_of, open_of, part, read_behind_slash, read_in_line, read_plan, read_words, rest_by, rest_of, to_come, with_slash, words_from}

-- a case by a test, with what the test gave
pub by_test : (t : Bool) (P : Bool → Type 0) → (t ≡ true → P true) → (t ≡ false → P false) → P t
by_test true P yes_case no_case = yes_case refl
by_test false P yes_case no_case = no_case refl

rest_of-same : (r s : Reader) (c d : List ℕ) (ps : List (List ℕ)) → r.first ≡ s.first → r.number ≡ s.number → r.words ++ part_words r.word c ≡ s.words ++ part_words s.word d → ends_in 92 c ≡ ends_in 92 d → rest_of r c ps ≡ rest_of s d ps
rest_of-same r s c d ps first number words goes =
    ap (λ (f : ℕ). rest_by f r.number (r.words ++ part_words r.word c) (ends_in 92 c) ps) first
    ∙ ap (λ (n : ℕ). rest_by s.first n (r.words ++ part_words r.word c) (ends_in 92 c) ps) number
    ∙ ap (λ (ws : List (List ℕ)). rest_by s.first s.number ws (ends_in 92 c) ps) words
    ∙ ap (λ (v : Bool). rest_by s.first s.number (s.words ++ part_words s.word d) v ps) goes

-- a byte before the comment
before_comment-cons : (b : ℕ) (q : List ℕ) → eqb b 35 ≡ false → before_comment (b ∷ q) ≡ b ∷ before_comment q
before_comment-cons b q n = ap (λ (v : Bool). cond v [] (b ∷ before_comment q)) n

cut-other : (b : ℕ) (p : List ℕ) → eqb b 35 ≡ false → eqb b 13 ≡ false → before_comment (without_return (b ∷ p)) ≡ b ∷ before_comment (without_return p)
cut-other b p n m = ap before_comment (without_return-other b p m) ∙ before_comment-cons b (without_return p) n

cut-before : (b c : ℕ) (p : List ℕ) → eqb b 35 ≡ false → before_comment (without_return (b ∷ c ∷ p)) ≡ b ∷ before_comment (without_return (c ∷ p))
cut-before b c p n = ap before_comment (without_return-cons b c p) ∙ before_comment-cons b (without_return (c ∷ p)) n

cut-comment : (p : List ℕ) → before_comment (without_return (35 ∷ p)) ≡ []
cut-comment p = ap before_comment (without_return-other 35 p refl)

words-comment : (r : Reader) (b : ℕ) (p : List ℕ) (ps : List (List ℕ)) → b ≡ 35 → rest_of r (before_comment (without_return (b ∷ p))) ps ≡ to_come (record (part r) { mode = Comment }) p ps
words-comment r b p ps is =
    let P : ℕ → Type 0 = λ x. rest_of r (before_comment (without_return (x ∷ p))) ps ≡ to_come (record (part r) { mode = Comment }) p ps in
    subst P (sym is) (ap (λ (c : List ℕ). rest_of r c ps) (cut-comment p))

words-slash : (r : Reader) (b : ℕ) (p : List ℕ) (ps : List (List ℕ)) → b ≡ 92 → rest_of r (before_comment (without_return (b ∷ p))) ps ≡ to_come (record r { mode = Slash }) p ps
words-slash r b p ps is =
    let P : ℕ → Type 0 = λ x. rest_of r (before_comment (without_return (x ∷ p))) ps ≡ to_come (record r { mode = Slash }) p ps in
    subst P (sym is) refl

rest_of-blank : (r : Reader) (b : ℕ) (c : List ℕ) (ps : List (List ℕ)) → eqb b 92 ≡ false → is_blank b ≡ true → rest_of r (b ∷ c) ps ≡ rest_of (part r) c ps
rest_of-blank r b c ps n blank = rest_of-same r (part r) (b ∷ c) c ps refl refl
    (ap (λ (x : List (List ℕ)). r.words ++ x) (part_words-blank r.word b c n blank) ∙ sym (append_assoc r.words (filled (r.word ∷ [])) (part_words [] c)))
    (ends_in-cons b c n)

words-blank : (r : Reader) (b : ℕ) (p : List ℕ) (ps : List (List ℕ)) → eqb b 35 ≡ false → eqb b 92 ≡ false → is_blank b ≡ true → rest_of r (before_comment (without_return (b ∷ p))) ps ≡ rest_of (part r) (before_comment (without_return p)) ps
words-blank r b [] ps n m blank = by_test (eqb b 13) (λ v. rest_of r (before_comment (cond v [] (b ∷ []))) ps ≡ rest_of (part r) [] ps)
    (λ _. rest_of-same r (part r) [] [] ps refl refl (sym (append-nil (r.words ++ filled (r.word ∷ [])))) refl)
    (λ _. ap (λ (c : List ℕ). rest_of r c ps) (before_comment-cons b [] n) ∙ rest_of-blank r b [] ps m blank)
words-blank r b (c ∷ p) ps n m blank = ap (λ (x : List ℕ). rest_of r x ps) (cut-before b c p n) ∙ rest_of-blank r b (before_comment (without_return (c ∷ p))) ps m blank

not_blank-13 : (b : ℕ) → is_blank b ≡ false → eqb b 13 ≡ false
not_blank-13 b blank = by_test (eqb b 13) (λ v. v ≡ false) (λ e. let P : ℕ → Type 0 = λ x. is_blank x ≡ false in let h : true ≡ false = subst P (eqb-true b 13 e) blank in h) (λ _. refl)

words-letter : (r : Reader) (b : ℕ) (p : List ℕ) (ps : List (List ℕ)) → eqb b 35 ≡ false → eqb b 92 ≡ false → is_blank b ≡ false → rest_of r (before_comment (without_return (b ∷ p))) ps ≡ rest_of (record r { word = r.word ++ b ∷ [] }) (before_comment (without_return p)) ps
words-letter r b p ps n m blank = ap (λ (x : List ℕ). rest_of r x ps) (cut-other b p n (not_blank-13 b blank))
    ∙ rest_of-same r (record r { word = r.word ++ b ∷ [] }) (b ∷ before_comment (without_return p)) (before_comment (without_return p)) ps refl refl
    (ap (λ (x : List (List ℕ)). r.words ++ x) (part_words-letter r.word b (before_comment (without_return p)) m blank))
    (ends_in-cons b (before_comment (without_return p)) m)

pub words-step : (r : Reader) (b : ℕ) (p : List ℕ) (ps : List (List ℕ)) → rest_of r (before_comment (without_return (b ∷ p))) ps ≡ to_come (read_words r b) p ps
words-step r b p ps =
    let X : List TextLine = rest_of r (before_comment (without_return (b ∷ p))) ps in
    by_test (eqb b 35) (λ v. X ≡ to_come (cond v (record (part r) { mode = Comment }) (cond (eqb b 92) (record r { mode = Slash }) (cond (is_blank b) (record (part r) { mode = Words }) (record r { word = r.word ++ b ∷ []; mode = Words })))) p ps)
    (λ e. words-comment r b p ps (eqb-true b 35 e))
    (λ n. by_test (eqb b 92) (λ v. X ≡ to_come (cond v (record r { mode = Slash }) (cond (is_blank b) (record (part r) { mode = Words }) (record r { word = r.word ++ b ∷ []; mode = Words }))) p ps)
    (λ e. words-slash r b p ps (eqb-true b 92 e))
    (λ m. by_test (is_blank b) (λ v. X ≡ to_come (cond v (record (part r) { mode = Words }) (record r { word = r.word ++ b ∷ []; mode = Words })) p ps)
    (λ blank. words-blank r b p ps n m blank)
    (λ blank. words-letter r b p ps n m blank)))

-- behind a `\`
cut-slash : (q : List ℕ) (d : ℕ) → before_comment (without_return (92 ∷ d ∷ q)) ≡ 92 ∷ before_comment (without_return (d ∷ q))
cut-slash q d = cut-before 92 d q refl

rest_of-slash : (r : Reader) (d : ℕ) (c : List ℕ) (ps : List (List ℕ)) → rest_of r (92 ∷ d ∷ c) ps ≡ rest_of (with_slash r) (d ∷ c) ps
rest_of-slash r d c ps = rest_of-same r (with_slash r) (92 ∷ d ∷ c) (d ∷ c) ps refl refl (ap (λ (x : List (List ℕ)). r.words ++ x) (part_words-slash r.word d c)) refl

slash-comment : (r : Reader) (b : ℕ) (p : List ℕ) (ps : List (List ℕ)) → b ≡ 35 → rest_of r (before_comment (without_return (92 ∷ b ∷ p))) ps ≡ to_come (record (part r) { mode = CommentJoined }) p ps
slash-comment r b p ps is =
    let P : ℕ → Type 0 = λ x. rest_of r (before_comment (without_return (92 ∷ x ∷ p))) ps ≡ to_come (record (part r) { mode = CommentJoined }) p ps in
    subst P (sym is) (ap (λ (c : List ℕ). rest_of r c ps) (cut-slash p 35 ∙ ap (λ (c : List ℕ). 92 ∷ c) (cut-comment p)))

slash-return : (r : Reader) (b : ℕ) (p : List ℕ) (ps : List (List ℕ)) → b ≡ 13 → rest_of r (before_comment (without_return (92 ∷ b ∷ p))) ps ≡ to_come (record r { mode = SlashReturn }) p ps
slash-return r b p ps is =
    let P : ℕ → Type 0 = λ x. rest_of r (before_comment (without_return (92 ∷ x ∷ p))) ps ≡ to_come (record r { mode = SlashReturn }) p ps in
    subst P (sym is) refl

slash-other : (r : Reader) (b : ℕ) (p : List ℕ) (ps : List (List ℕ)) → eqb b 35 ≡ false → eqb b 13 ≡ false → rest_of r (before_comment (without_return (92 ∷ b ∷ p))) ps ≡ rest_of (with_slash r) (before_comment (without_return (b ∷ p))) ps
slash-other r b p ps n m =
    ap (λ (c : List ℕ). rest_of r c ps) (cut-slash p b ∙ ap (λ (c : List ℕ). 92 ∷ c) (cut-other b p n m))
    ∙ rest_of-slash r b (before_comment (without_return p)) ps
    ∙ ap (λ (c : List ℕ). rest_of (with_slash r) c ps) (sym (cut-other b p n m))

slash-step : (r : Reader) (b : ℕ) (p : List ℕ) (ps : List (List ℕ)) → rest_of r (before_comment (without_return (92 ∷ b ∷ p))) ps ≡ to_come (read_behind_slash r b) p ps
slash-step r b p ps =
    let X : List TextLine = rest_of r (before_comment (without_return (92 ∷ b ∷ p))) ps in
    by_test (eqb b 35) (λ v. X ≡ to_come (cond v (record (part r) { mode = CommentJoined }) (cond (eqb b 13) (record r { mode = SlashReturn }) (read_words (with_slash r) b))) p ps)
    (λ e. slash-comment r b p ps (eqb-true b 35 e))
    (λ n. by_test (eqb b 13) (λ v. X ≡ to_come (cond v (record r { mode = SlashReturn }) (read_words (with_slash r) b)) p ps)
    (λ e. slash-return r b p ps (eqb-true b 13 e))
    (λ m. slash-other r b p ps n m ∙ words-step (with_slash r) b p ps))

-- behind a `\` and a CR
return-step : (r : Reader) (b : ℕ) (p : List ℕ) (ps : List (List ℕ)) → rest_of r (before_comment (without_return (92 ∷ 13 ∷ b ∷ p))) ps ≡ to_come (read_words (part (with_slash r)) b) p ps
return-step r b p ps =
    ap (λ (c : List ℕ). rest_of r c ps) (cut-slash (b ∷ p) 13 ∙ ap (λ (c : List ℕ). 92 ∷ c) (cut-before 13 b p refl))
    ∙ rest_of-slash r 13 (before_comment (without_return (b ∷ p))) ps
    ∙ rest_of-blank (with_slash r) 13 (before_comment (without_return (b ∷ p))) ps refl refl
    ∙ words-step (part (with_slash r)) b p ps

-- in a plan line
plan_same : (r : Reader) (ws vs : List (List ℕ)) (ps : List (List ℕ)) → ws ≡ vs → line_with r.first true ws ++ words_from None (r.number + 1) ps ≡ line_with r.first true vs ++ words_from None (r.number + 1) ps
plan_same r ws vs ps e = ap (λ (x : List (List ℕ)). line_with r.first true x ++ words_from None (r.number + 1) ps) e

spell-return : (w : List ℕ) (b : ℕ) (p : List ℕ) → is_blank b ≡ true → spell w (without_return (b ∷ p)) ≡ filled (w ∷ []) ++ spell [] (without_return p)
spell-return w b [] blank = by_test (eqb b 13) (λ v. spell w (cond v [] (b ∷ [])) ≡ filled (w ∷ []) ++ [])
    (λ _. sym (append-nil (filled (w ∷ []))))
    (λ _. ap (λ (v : Bool). cond v (filled (w ∷ []) ++ []) (filled ((w ++ b ∷ []) ∷ []))) blank)
spell-return w b (c ∷ p) blank = ap (spell w) (without_return-cons b c p)
    ∙ ap (λ (v : Bool). cond v (filled (w ∷ []) ++ spell [] (without_return (c ∷ p))) (spell (w ++ b ∷ []) (without_return (c ∷ p)))) blank

spell-letter : (w : List ℕ) (b : ℕ) (p : List ℕ) → is_blank b ≡ false → spell w (without_return (b ∷ p)) ≡ spell (w ++ b ∷ []) (without_return p)
spell-letter w b p blank = ap (spell w) (without_return-other b p (not_blank-13 b blank))
    ∙ ap (λ (v : Bool). cond v (filled (w ∷ []) ++ spell [] (without_return p)) (spell (w ++ b ∷ []) (without_return p))) blank

plan-step : (r : Reader) (b : ℕ) (p : List ℕ) (ps : List (List ℕ)) → line_with r.first true (r.words ++ spell r.word (without_return (b ∷ p))) ++ words_from None (r.number + 1) ps ≡ to_come (record (read_plan r b) { mode = Plan }) p ps
plan-step r b p ps =
    let X : List TextLine = line_with r.first true (r.words ++ spell r.word (without_return (b ∷ p))) ++ words_from None (r.number + 1) ps in
    by_test (is_blank b) (λ v. X ≡ to_come (record (cond v (part r) (record r { word = r.word ++ b ∷ [] })) { mode = Plan }) p ps)
    (λ blank. plan_same r _ _ ps (ap (λ (x : List (List ℕ)). r.words ++ x) (spell-return r.word b p blank) ∙ sym (append_assoc r.words (filled (r.word ∷ [])) (spell [] (without_return p)))))
    (λ blank. plan_same r _ _ ps (ap (λ (x : List (List ℕ)). r.words ++ x) (spell-letter r.word b p blank)))

-- before the first word
fresh-words : (r : Reader) (f : IsFresh r) (c : List ℕ) (ps : List (List ℕ)) → rest_of r c ps ≡ rest_by r.number r.number (part_words [] c) (ends_in 92 c) ps
fresh-words r f c ps =
    ap (λ (n : ℕ). rest_by n r.number (r.words ++ part_words r.word c) (ends_in 92 c) ps) f.number
    ∙ ap (λ (ws : List (List ℕ)). rest_by r.number r.number (ws ++ part_words r.word c) (ends_in 92 c) ps) f.words
    ∙ ap (λ (w : List ℕ). rest_by r.number r.number (part_words w c) (ends_in 92 c) ps) f.word

-- a physical line that is no plan line
no_plan : (number : ℕ) (q : List ℕ) (ps : List (List ℕ)) → begins_plan q ≡ false → words_from None number (q ∷ ps) ≡ rest_by number number (part_words [] (before_comment q)) (ends_in 92 (before_comment q)) ps
no_plan number q ps n =
    let line : OpenWords = record { number = number; words = part_words [] (before_comment q) } in
    ap (λ (v : Bool). cond v (line_with number true (words_of (drop 5 q))) (line_of (ends_in 92 (before_comment q)) line) ++ words_from (cond v None (open_of (ends_in 92 (before_comment q)) line)) (number + 1) ps) n

begins-other : (x : ℕ) (xs : List ℕ) (b : ℕ) (p : List ℕ) → eqb b x ≡ false → begins_with (x ∷ xs) (without_return (b ∷ p)) ≡ false
begins-other x xs b [] n = by_test (eqb b 13) (λ v. begins_with (x ∷ xs) (cond v [] (b ∷ [])) ≡ false) (λ _. refl) (λ _. ap (λ (v : Bool). v && begins_with xs []) n)
begins-other x xs b (c ∷ p) n = ap (begins_with (x ∷ xs)) (without_return-cons b c p) ∙ ap (λ (v : Bool). v && begins_with xs (without_return (c ∷ p))) n

-- a `#` at the front and no `#tsc `
hash-fails : (r : Reader) (f : IsFresh r) (q : List ℕ) (ps : List (List ℕ)) → begins_plan (without_return (35 ∷ q)) ≡ false → words_from None r.number (without_return (35 ∷ q) ∷ ps) ≡ line_with r.first false r.words ++ words_from None (r.number + 1) ps
hash-fails r f q ps n = no_plan r.number (without_return (35 ∷ q)) ps n
    ∙ ap (λ (c : List ℕ). rest_by r.number r.number (part_words [] c) (ends_in 92 c) ps) (cut-comment q)
    ∙ ap (λ (ws : List (List ℕ)). line_with r.first false ws ++ words_from None (r.number + 1) ps) (sym f.words)

plan-begins : (r : Reader) (f : IsFresh r) (p : List ℕ) (ps : List (List ℕ)) → words_from None r.number (without_return (35 ∷ 116 ∷ 115 ∷ 99 ∷ 32 ∷ p) ∷ ps) ≡ line_with r.first true (r.words ++ spell [] (without_return p)) ++ words_from None (r.number + 1) ps
plan-begins r f p ps =
    let P : List ℕ → List TextLine = λ q. words_from None r.number (q ∷ ps) in
    ap P (without_return-cons 35 116 (115 ∷ 99 ∷ 32 ∷ p) ∙ ap (λ (q : List ℕ). 35 ∷ q) (without_return-cons 116 115 (99 ∷ 32 ∷ p))
    ∙ ap (λ (q : List ℕ). 35 ∷ 116 ∷ q) (without_return-cons 115 99 (32 ∷ p)) ∙ ap (λ (q : List ℕ). 35 ∷ 116 ∷ 115 ∷ q) (without_return-cons 99 32 p)
    ∙ ap (λ (q : List ℕ). 35 ∷ 116 ∷ 115 ∷ 99 ∷ q) (without_return-other 32 p refl))
    ∙ ap (λ (ws : List (List ℕ)). line_with r.number true ws ++ words_from None (r.number + 1) ps) (words_of-spell (without_return p))
    ∙ ap (λ (n : ℕ). line_with n true (spell [] (without_return p)) ++ words_from None (r.number + 1) ps) (sym f.number)
    ∙ ap (λ (ws : List (List ℕ)). line_with r.first true (ws ++ spell [] (without_return p)) ++ words_from None (r.number + 1) ps) (sym f.words)

fresh-step : (r : Reader) (f : IsFresh r) (b : ℕ) (p : List ℕ) (ps : List (List ℕ)) → words_from None r.number (without_return (b ∷ p) ∷ ps) ≡ to_come (cond (eqb b 35) (record r { mode = Hash }) (read_words r b)) p ps
fresh-step r f b p ps =
    let X : List TextLine = words_from None r.number (without_return (b ∷ p) ∷ ps) in
    by_test (eqb b 35) (λ v. X ≡ to_come (cond v (record r { mode = Hash }) (read_words r b)) p ps)
    (λ e. ap (λ (x : ℕ). words_from None r.number (without_return (x ∷ p) ∷ ps)) (eqb-true b 35 e))
    (λ n. no_plan r.number (without_return (b ∷ p)) ps (begins-other 35 (116 ∷ 115 ∷ 99 ∷ 32 ∷ []) b p n)
    ∙ sym (fresh-words r f (before_comment (without_return (b ∷ p))) ps)
    ∙ words-step r b p ps)

hash-step : (r : Reader) (f : IsFresh r) (b : ℕ) (p : List ℕ) (ps : List (List ℕ)) → words_from None r.number (without_return (35 ∷ b ∷ p) ∷ ps) ≡ to_come (record r { mode = cond (eqb b 116) HashT Comment }) p ps
hash-step r f b p ps =
    by_test (eqb b 116) (λ v. words_from None r.number (without_return (35 ∷ b ∷ p) ∷ ps) ≡ to_come (record r { mode = cond v HashT Comment }) p ps)
    (λ e. ap (λ (x : ℕ). words_from None r.number (without_return (35 ∷ x ∷ p) ∷ ps)) (eqb-true b 116 e))
    (λ n. hash-fails r f (b ∷ p) ps (ap begins_plan (without_return-cons 35 b p) ∙ begins-other 116 (115 ∷ 99 ∷ 32 ∷ []) b p n))

hash_t-step : (r : Reader) (f : IsFresh r) (b : ℕ) (p : List ℕ) (ps : List (List ℕ)) → words_from None r.number (without_return (35 ∷ 116 ∷ b ∷ p) ∷ ps) ≡ to_come (record r { mode = cond (eqb b 115) HashTs Comment }) p ps
hash_t-step r f b p ps =
    by_test (eqb b 115) (λ v. words_from None r.number (without_return (35 ∷ 116 ∷ b ∷ p) ∷ ps) ≡ to_come (record r { mode = cond v HashTs Comment }) p ps)
    (λ e. ap (λ (x : ℕ). words_from None r.number (without_return (35 ∷ 116 ∷ x ∷ p) ∷ ps)) (eqb-true b 115 e))
    (λ n. hash-fails r f (116 ∷ b ∷ p) ps (ap begins_plan (without_return-cons 35 116 (b ∷ p) ∙ ap (λ (q : List ℕ). 35 ∷ q) (without_return-cons 116 b p)) ∙ begins-other 115 (99 ∷ 32 ∷ []) b p n))

hash_ts-step : (r : Reader) (f : IsFresh r) (b : ℕ) (p : List ℕ) (ps : List (List ℕ)) → words_from None r.number (without_return (35 ∷ 116 ∷ 115 ∷ b ∷ p) ∷ ps) ≡ to_come (record r { mode = cond (eqb b 99) HashTsc Comment }) p ps
hash_ts-step r f b p ps =
    by_test (eqb b 99) (λ v. words_from None r.number (without_return (35 ∷ 116 ∷ 115 ∷ b ∷ p) ∷ ps) ≡ to_come (record r { mode = cond v HashTsc Comment }) p ps)
    (λ e. ap (λ (x : ℕ). words_from None r.number (without_return (35 ∷ 116 ∷ 115 ∷ x ∷ p) ∷ ps)) (eqb-true b 99 e))
    (λ n. hash-fails r f (116 ∷ 115 ∷ b ∷ p) ps (ap begins_plan (without_return-cons 35 116 (115 ∷ b ∷ p) ∙ ap (λ (q : List ℕ). 35 ∷ q) (without_return-cons 116 115 (b ∷ p)) ∙ ap (λ (q : List ℕ). 35 ∷ 116 ∷ q) (without_return-cons 115 b p)) ∙ begins-other 99 (32 ∷ []) b p n))

hash_tsc-step : (r : Reader) (f : IsFresh r) (b : ℕ) (p : List ℕ) (ps : List (List ℕ)) → words_from None r.number (without_return (35 ∷ 116 ∷ 115 ∷ 99 ∷ b ∷ p) ∷ ps) ≡ to_come (record r { word = []; mode = cond (eqb b 32) Plan Comment }) p ps
hash_tsc-step r f b p ps =
    by_test (eqb b 32) (λ v. words_from None r.number (without_return (35 ∷ 116 ∷ 115 ∷ 99 ∷ b ∷ p) ∷ ps) ≡ to_come (record r { word = []; mode = cond v Plan Comment }) p ps)
    (λ e. ap (λ (x : ℕ). words_from None r.number (without_return (35 ∷ 116 ∷ 115 ∷ 99 ∷ x ∷ p) ∷ ps)) (eqb-true b 32 e) ∙ plan-begins r f p ps)
    (λ n. hash-fails r f (116 ∷ 115 ∷ 99 ∷ b ∷ p) ps (ap begins_plan (without_return-cons 35 116 (115 ∷ 99 ∷ b ∷ p) ∙ ap (λ (q : List ℕ). 35 ∷ q) (without_return-cons 116 115 (99 ∷ b ∷ p)) ∙ ap (λ (q : List ℕ). 35 ∷ 116 ∷ q) (without_return-cons 115 99 (b ∷ p)) ∙ ap (λ (q : List ℕ). 35 ∷ 116 ∷ 115 ∷ q) (without_return-cons 99 b p)) ∙ begins-other 32 [] b p n))

-- a byte that is no LF
line-step-at : (m : Mode) (r : Reader) (s : IsSoundReader (record r { mode = m })) (b : ℕ) (p : List ℕ) (ps : List (List ℕ)) → to_come (record r { mode = m }) (b ∷ p) ps ≡ to_come (read_in_line (record r { mode = m }) b) p ps
line-step-at Fresh r s b p ps = fresh-step (record r { mode = Fresh }) s b p ps
line-step-at Hash r s b p ps = hash-step (record r { mode = Hash }) s b p ps
line-step-at HashT r s b p ps = hash_t-step (record r { mode = HashT }) s b p ps
line-step-at HashTs r s b p ps = hash_ts-step (record r { mode = HashTs }) s b p ps
line-step-at HashTsc r s b p ps = hash_tsc-step (record r { mode = HashTsc }) s b p ps
line-step-at Plan r s b p ps = plan-step (record r { mode = Plan }) b p ps ∙ ap (λ (x : Reader). to_come x p ps)
    (by_test (is_blank b) (λ v. record (cond v (part (record r { mode = Plan })) (record r { word = r.word ++ b ∷ []; mode = Plan })) { mode = Plan } ≡ cond v (part (record r { mode = Plan })) (record r { word = r.word ++ b ∷ []; mode = Plan })) (λ _. refl) (λ _. refl))
line-step-at Words r s b p ps = words-step (record r { mode = Words }) b p ps
line-step-at Slash r s b p ps = slash-step (record r { mode = Slash }) b p ps
line-step-at SlashReturn r s b p ps = return-step (record r { mode = SlashReturn }) b p ps
line-step-at Comment r s b p ps = refl
line-step-at CommentJoined r s b p ps = refl

pub line-step : (r : Reader) (s : IsSoundReader r) (b : ℕ) (p : List ℕ) (ps : List (List ℕ)) → to_come r (b ∷ p) ps ≡ to_come (read_in_line r b) p ps
line-step r s b p ps = line-step-at r.mode r s b p ps
