-- The words of a line, byte by byte: what a blank, a `\` and a CR do to them.
use Rattle.std.proofs.Common.{◌≡◌, ℕ, true, false, cond, List, [], ◌∷◌, ◌++◌, refl, sym, ap, ◌∙◌, append_assoc, append-nil, eqb}
use Rattle.tsc_text.specs.Bytes.{is_blank}
use Rattle.tsc_text.specs.Lines.{pieces, with_byte, filled, words_of, ends_in, without_last, without_return}

-- the words of some bytes that follow the blank-free bytes `w`
abbrev pub spell : List ℕ → List ℕ → List (List ℕ)
spell w [] = filled (w ∷ [])
spell w (b ∷ q) = cond (is_blank b) (filled (w ∷ []) ++ spell [] q) (spell (w ++ b ∷ []) q)

-- the first of some pieces, behind the bytes `w`
abbrev pub behind : List ℕ → List (List ℕ) → List (List ℕ)
behind w [] = w ∷ []
behind w (p ∷ ps) = (w ++ p) ∷ ps

pub filled-cons : (w : List ℕ) (ps : List (List ℕ)) → filled (w ∷ ps) ≡ filled (w ∷ []) ++ filled ps
filled-cons [] ps = refl
filled-cons (b ∷ w) ps = refl

pub behind-with : (w : List ℕ) (b : ℕ) (ps : List (List ℕ)) → behind w (with_byte false b ps) ≡ behind (w ++ b ∷ []) ps
behind-with w b [] = refl
behind-with w b (p ∷ ps) = ap (λ (x : List ℕ). x ∷ ps) (sym (append_assoc w (b ∷ []) p))

pub behind-pieces : (q : List ℕ) → behind [] (pieces is_blank q) ≡ pieces is_blank q
behind-pieces [] = refl
behind-pieces (b ∷ q) = elim (is_blank b) as (λ v. behind [] (with_byte v b (pieces is_blank q)) ≡ with_byte v b (pieces is_blank q)) [
  | true ↦ refl
  | false ↦ elim (pieces is_blank q) as (λ ps. behind [] (with_byte false b ps) ≡ with_byte false b ps) [ [] ↦ refl | (p ∷ ps) ↦ refl ]
]

pub spell-behind : (w q : List ℕ) → spell w q ≡ filled (behind w (pieces is_blank q))
spell-behind w [] = ap (λ (x : List ℕ). filled (x ∷ [])) (sym (append-nil w))
spell-behind w (b ∷ q) = elim (is_blank b) as (λ v. cond v (filled (w ∷ []) ++ spell [] q) (spell (w ++ b ∷ []) q) ≡ filled (behind w (with_byte v b (pieces is_blank q)))) [
  | true ↦ ap (λ (x : List (List ℕ)). filled (w ∷ []) ++ x) (spell-behind [] q ∙ ap filled (behind-pieces q))
      ∙ sym (filled-cons w (pieces is_blank q)) ∙ ap (λ (x : List ℕ). filled (x ∷ pieces is_blank q)) (sym (append-nil w))
  | false ↦ spell-behind (w ++ b ∷ []) q ∙ ap filled (sym (behind-with w b (pieces is_blank q)))
]

-- the words of some bytes, byte by byte
pub words_of-spell : (q : List ℕ) → words_of q ≡ spell [] q
words_of-spell q = ap filled (sym (behind-pieces q)) ∙ sym (spell-behind [] q)

-- a blank parts
pub spell-append : (w q r : List ℕ) → spell w (q ++ 32 ∷ r) ≡ spell w q ++ spell [] r
spell-append w [] r = refl
spell-append w (b ∷ q) r = elim (is_blank b) as (λ v. cond v (filled (w ∷ []) ++ spell [] (q ++ 32 ∷ r)) (spell (w ++ b ∷ []) (q ++ 32 ∷ r)) ≡ cond v (filled (w ∷ []) ++ spell [] q) (spell (w ++ b ∷ []) q) ++ spell [] r) [
  | true ↦ ap (λ (x : List (List ℕ)). filled (w ∷ []) ++ x) (spell-append [] q r) ∙ sym (append_assoc (filled (w ∷ [])) (spell [] q) (spell [] r))
  | false ↦ spell-append (w ++ b ∷ []) q r
]

pub words_of-append : (q r : List ℕ) → words_of (q ++ 32 ∷ r) ≡ words_of q ++ words_of r
words_of-append q r = words_of-spell (q ++ 32 ∷ r) ∙ spell-append [] q r
    ∙ ap (λ (x : List (List ℕ)). x ++ spell [] r) (sym (words_of-spell q))
    ∙ ap (λ (x : List (List ℕ)). words_of q ++ x) (sym (words_of-spell r))

-- the last byte of joined lists
pub ends_in-append : (b : ℕ) (x : List ℕ) (d : ℕ) (c : List ℕ) → ends_in b (x ++ d ∷ c) ≡ ends_in b (d ∷ c)
ends_in-append b [] d c = refl
ends_in-append b (e ∷ []) d c = refl
ends_in-append b (e ∷ f ∷ x) d c = ends_in-append b (f ∷ x) d c

pub without_last-append : (x : List ℕ) (d : ℕ) (c : List ℕ) → without_last (x ++ d ∷ c) ≡ x ++ without_last (d ∷ c)
without_last-append [] d c = refl
without_last-append (e ∷ []) d c = refl
without_last-append (e ∷ f ∷ x) d c = ap (λ (y : List ℕ). e ∷ y) (without_last-append (f ∷ x) d c)

-- a CR is dropped at the end alone
pub without_return-cons : (b c : ℕ) (p : List ℕ) → without_return (b ∷ c ∷ p) ≡ b ∷ without_return (c ∷ p)
without_return-cons b c p = elim (ends_in 13 (c ∷ p)) as (λ v. cond v (b ∷ without_last (c ∷ p)) (b ∷ c ∷ p) ≡ b ∷ cond v (without_last (c ∷ p)) (c ∷ p)) [ true ↦ refl | false ↦ refl ]

pub without_return-other : (b : ℕ) (p : List ℕ) → eqb b 13 ≡ false → without_return (b ∷ p) ≡ b ∷ without_return p
without_return-other b [] n = ap (λ v. cond v [] (b ∷ [])) n
without_return-other b (c ∷ p) n = without_return-cons b c p

-- what is read of a line before a comment: its words behind `w`, without the `\` that joins it
abbrev pub part_words : List ℕ → List ℕ → List (List ℕ)
part_words w c = cond (ends_in 92 c) (spell w (without_last c)) (spell w c)

pub ends_in-cons : (b : ℕ) (c : List ℕ) → eqb b 92 ≡ false → ends_in 92 (b ∷ c) ≡ ends_in 92 c
ends_in-cons b [] n = n
ends_in-cons b (d ∷ c) n = refl

pub part_words-letter : (w : List ℕ) (b : ℕ) (c : List ℕ) → eqb b 92 ≡ false → is_blank b ≡ false → part_words w (b ∷ c) ≡ part_words (w ++ b ∷ []) c
part_words-letter w b [] n blank = ap (λ v. cond v (filled (w ∷ [])) (spell w (b ∷ []))) n ∙ ap (λ v. cond v (filled (w ∷ []) ++ filled ([] ∷ [])) (filled ((w ++ b ∷ []) ∷ []))) blank
part_words-letter w b (d ∷ c) n blank = ap (λ v. cond (ends_in 92 (d ∷ c)) (cond v (filled (w ∷ []) ++ spell [] (without_last (d ∷ c))) (spell (w ++ b ∷ []) (without_last (d ∷ c)))) (cond v (filled (w ∷ []) ++ spell [] (d ∷ c)) (spell (w ++ b ∷ []) (d ∷ c)))) blank

pub part_words-blank : (w : List ℕ) (b : ℕ) (c : List ℕ) → eqb b 92 ≡ false → is_blank b ≡ true → part_words w (b ∷ c) ≡ filled (w ∷ []) ++ part_words [] c
part_words-blank w b [] n blank = ap (λ v. cond v (filled (w ∷ [])) (spell w (b ∷ []))) n ∙ ap (λ v. cond v (filled (w ∷ []) ++ filled ([] ∷ [])) (filled ((w ++ b ∷ []) ∷ []))) blank
part_words-blank w b (d ∷ c) n blank = ap (λ v. cond (ends_in 92 (d ∷ c)) (cond v (filled (w ∷ []) ++ spell [] (without_last (d ∷ c))) (spell (w ++ b ∷ []) (without_last (d ∷ c)))) (cond v (filled (w ∷ []) ++ spell [] (d ∷ c)) (spell (w ++ b ∷ []) (d ∷ c)))) blank
    ∙ elim (ends_in 92 (d ∷ c)) as (λ v. cond v (filled (w ∷ []) ++ spell [] (without_last (d ∷ c))) (filled (w ∷ []) ++ spell [] (d ∷ c)) ≡ filled (w ∷ []) ++ cond v (spell [] (without_last (d ∷ c))) (spell [] (d ∷ c))) [ true ↦ refl | false ↦ refl ]

pub part_words-slash : (w : List ℕ) (d : ℕ) (c : List ℕ) → part_words w (92 ∷ d ∷ c) ≡ part_words (w ++ 92 ∷ []) (d ∷ c)
part_words-slash w d c = refl
