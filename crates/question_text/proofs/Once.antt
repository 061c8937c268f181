-- Each literal once, one after another; what is kept of clauses; and clauses one after another.
use Rattle.std.proofs.Common.{◌≡◌, ℕ, Bool, true, false, not, cond, ◌&&◌, ◌||◌, List, [], ◌∷◌, ◌++◌, map, filter, nat_eq, refl, sym, ap, ap₂, ◌∙◌, append_assoc, append-nil, ◌+◌, ◌<◌, length, take, get_or}
use Rattle.std.specs.List.{list_any}
use Rattle.std.proofs.lemmas.Bool.{eqb-true, eq-eqb, and_parts, false≢true}
use Rattle.std.proofs.lemmas.List.{take_more}
use Rattle.std.proofs.lemmas.List.Elements.{filter-append}
use Rattle.refutations.specs.declared.literal.Literal.{Literal}
use Rattle.refutations.specs.Clauses.{same}
use Rattle.exact_question.specs.Rows.{literal, is_literal, once, clashes, written}
use Rattle.question_text.specs.Gates.{with_new, kept, after_clauses}

-- ---- what is kept

pub kept_none : (clause : List Literal) → clashes clause ≡ true → kept clause ≡ []
unfolding kept
kept_none clause is = rw is refl

pub kept_one : (clause : List Literal) → clashes clause ≡ false → kept clause ≡ once clause ∷ []
unfolding kept
kept_one clause is = rw is refl

-- ---- clauses one after another

pub after_clauses-append : (out as_ bs : List (List Literal)) → after_clauses out (as_ ++ bs) ≡ after_clauses (after_clauses out as_) bs
after_clauses-append out [] bs = refl
after_clauses-append out (a ∷ as_) bs = after_clauses-append (out ++ kept a) as_ bs

written_first : (clause : List Literal) (clauses : List (List Literal)) → written (clause ∷ clauses) ≡ kept clause ++ written clauses
unfolding kept
written_first clause clauses = by (clashes clause) refl
  where
    by : (b : Bool) → clashes clause ≡ b → map once (cond (not b) (clause ∷ filter (λ ls. not (clashes ls)) clauses) (filter (λ ls. not (clashes ls)) clauses))
        ≡ map once (cond (not b) (clause ∷ []) []) ++ written clauses
    by true is = refl
    by false is = refl

pub after_clauses-written : (out clauses : List (List Literal)) → after_clauses out clauses ≡ out ++ written clauses
after_clauses-written out [] = sym (append-nil out)
after_clauses-written out (c ∷ cs) =
    after_clauses-written (out ++ kept c) cs ∙ append_assoc out (kept c) (written cs) ∙ ap (λ rest. out ++ rest) (sym (written_first c cs))

-- ---- each literal once

same_is : (a b : Bool) → same a b ≡ true → a ≡ b
same_is true true is = refl
same_is true false is = absurd (false≢true is)
same_is false true is = absurd (false≢true is)
same_is false false is = refl

same_itself : (b : Bool) → same b b ≡ true
same_itself true = refl
same_itself false = refl

one_literal : (l m : Literal) → is_literal l m ≡ true → l ≡ m
one_literal l m is =
    let both = and_parts (nat_eq l.variable m.variable) (same l.wants m.wants) is in
    ap₂ literal (eqb-true l.variable m.variable both.0) (same_is l.wants m.wants both.1)

literal_itself : (l : Literal) → is_literal l l ≡ true
literal_itself l = ap₂ (λ a b. a && b) (eq-eqb l.variable l.variable refl) (same_itself l.wants)

is_turned : (l m : Literal) → is_literal l m ≡ is_literal m l
is_turned l m = by (is_literal l m) refl (is_literal m l) refl
  where
    by : (a : Bool) → is_literal l m ≡ a → (b : Bool) → is_literal m l ≡ b → a ≡ b
    by true one true other = refl
    by false one false other = refl
    by true one false other = absurd (false≢true (sym other ∙ ap (λ k. is_literal m k) (one_literal l m one) ∙ literal_itself m))
    by false one true other = absurd (false≢true (sym one ∙ ap (λ k. is_literal l k) (one_literal m l other) ∙ literal_itself l))

any_without : (x y : Literal) → is_literal x y ≡ false → (ms : List Literal)
    → list_any (λ m. is_literal x m) (filter (λ m. not (is_literal y m)) ms) ≡ list_any (λ m. is_literal x m) ms
any_without x y off [] = refl
any_without x y off (m ∷ ms) = by (is_literal y m) refl (any_without x y off ms)
  where
    by : (b : Bool) → is_literal y m ≡ b → list_any (λ m. is_literal x m) (filter (λ m. not (is_literal y m)) ms) ≡ list_any (λ m. is_literal x m) ms
        → list_any (λ m. is_literal x m) (cond (not b) (m ∷ filter (λ m. not (is_literal y m)) ms) (filter (λ m. not (is_literal y m)) ms))
        ≡ (is_literal x m || list_any (λ m. is_literal x m) ms)
    by true is rest = rest ∙ ap (λ b. b || list_any (λ m. is_literal x m) ms) (sym off ∙ ap (λ k. is_literal x k) (one_literal y m is))
    by false is rest = ap (λ b. is_literal x m || b) rest

-- one more literal
module _ (x y : Literal) (ys : List Literal) where
  abbrev among : List Literal → Bool
  among list = list_any (λ m. is_literal x m) list

  abbrev rest : List Literal
  rest = filter (λ m. not (is_literal y m)) (once ys)

  with_one : (b : Bool) → is_literal y x ≡ b → filter (λ m. not (is_literal y m)) (once ys ++ x ∷ []) ≡ rest ++ cond (not b) (x ∷ []) []
  with_one b is = filter-append (λ m. not (is_literal y m)) (once ys) (x ∷ []) ∙ ap (λ b. rest ++ cond (not b) (x ∷ []) []) is

  once_by : (a : Bool) → is_literal x y ≡ a → (b : Bool) → among (once ys) ≡ b
      → y ∷ filter (λ m. not (is_literal y m)) (cond b (once ys) (once ys ++ x ∷ [])) ≡ cond (a || among rest) (y ∷ rest) (y ∷ (rest ++ x ∷ []))
  once_by true same true is = refl
  once_by true same false is = ap (λ list. y ∷ list) (with_one true (is_turned y x ∙ same) ∙ append-nil rest)
  once_by false off true is = ap (λ b. cond b (y ∷ rest) (y ∷ (rest ++ x ∷ []))) (sym is ∙ sym (any_without x y off (once ys)))
  once_by false off false is =
      ap (λ list. y ∷ list) (with_one false (is_turned y x ∙ off)) ∙ ap (λ b. cond b (y ∷ rest) (y ∷ (rest ++ x ∷ []))) (sym is ∙ sym (any_without x y off (once ys)))

pub once_push : (xs : List Literal) (x : Literal) → once (xs ++ x ∷ []) ≡ with_new (once xs) x
once_push [] x = refl
once_push (y ∷ ys) x =
    ap (λ list. y ∷ filter (λ m. not (is_literal y m)) list) (once_push ys x)
    ∙ once_by x y ys (is_literal x y) refl (list_any (λ m. is_literal x m) (once ys)) refl

pub once_next : (xs : List Literal) (i : ℕ) (d : Literal) → i < length xs → once (take (i + 1) xs) ≡ with_new (once (take i xs)) (get_or xs i d)
once_next xs i d inside = ap once (take_more xs i d inside) ∙ once_push (take i xs) (get_or xs i d)

-- two parts and a last clause, one after the other
pub both_pushed : (out a b : List (List Literal)) (last : List Literal) (first second all : List (List Literal))
    → first ≡ after_clauses out a → second ≡ after_clauses first b → all ≡ second ++ kept last → all ≡ after_clauses out (a ++ b ++ last ∷ [])
both_pushed out a b last first second all p q r =
    r ∙ ap (λ list. list ++ kept last) (q ∙ ap (λ list. after_clauses list b) p)
    ∙ sym (after_clauses-append out (a ++ b) (last ∷ []) ∙ ap (λ list. list ++ kept last) (after_clauses-append out a b))

-- a part before two parts and a last clause
pub before_all : (a b c : List (List Literal)) (last : List Literal) → a ++ (b ++ c ++ last ∷ []) ≡ a ++ b ++ c ++ last ∷ []
before_all a b c last =
    sym (append_assoc a (b ++ c) (last ∷ [])) ∙ ap (λ list. list ++ last ∷ []) (sym (append_assoc a b c))
