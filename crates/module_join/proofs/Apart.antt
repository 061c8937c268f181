-- Lists of texts no two of which are one.
use Rattle.std.proofs.Common.{◌≡◌, ℕ, zero, suc, ◌<◌, Bool, true, false, List, [], ◌∷◌, ◌++◌, map, length, All, refl, sym, ap, subst, ◌∙◌, arith, true≢false}
use Rattle.std.proofs.lemmas.List.Elements.{All-nil, All-cons, All-head, All-tail, All-append, All-map, All-weaker, All-from_get_or}
use Rattle.tsc_net.specs.Names.{text_at, IsNumbering}

-- the text is none of these
abbrev pub IsNone : List (List ℕ) → List ℕ → Type 0
IsNone texts t = All (λ u. t ≡ u → ⊥) texts

abbrev pub Apart : List (List ℕ) → Type 0
Apart [] = Unit {0}
Apart (t ∷ texts) = IsNone texts t × Apart texts

pub apart_append : (xs ys : List (List ℕ)) → Apart xs → Apart ys → All (IsNone ys) xs → Apart (xs ++ ys)
apart_append [] ys first second cross = second
apart_append (t ∷ xs) ys first second cross = (
  All-append (λ u. t ≡ u → ⊥) xs ys first.0 (All-head (IsNone ys) t xs cross),
  apart_append xs ys first.1 second (All-tail (IsNone ys) t xs cross),
)

pub none_append : (xs ys zs : List (List ℕ)) → All (IsNone ys) xs → All (IsNone zs) xs → All (IsNone (ys ++ zs)) xs
none_append [] ys zs first second = All-nil (IsNone (ys ++ zs))
none_append (t ∷ xs) ys zs first second =
    All-cons (IsNone (ys ++ zs)) t xs (All-append (λ u. t ≡ u → ⊥) ys zs (All-head (IsNone ys) t xs first) (All-head (IsNone zs) t xs second))
    (none_append xs ys zs (All-tail (IsNone ys) t xs first) (All-tail (IsNone zs) t xs second))

-- where one list passes a test and the other fails it
pub none_by_test : (p : List ℕ → Bool) (xs ys : List (List ℕ)) → All (λ t. p t ≡ false) xs → All (λ u. p u ≡ true) ys → All (IsNone ys) xs
none_by_test p xs ys fails passes = All-weaker (λ t. p t ≡ false) (IsNone ys) (λ t f.
    All-weaker (λ u. p u ≡ true) (λ u. t ≡ u → ⊥) (λ u g e. true≢false (sym g ∙ sym (ap p e) ∙ f)) ys passes) xs fails

-- where any two are told apart by what each has
pub none_by_kinds : (P Q : List ℕ → Type 0) (xs ys : List (List ℕ)) → ((t : List ℕ) → P t → Q t → ⊥) → All P xs → All Q ys → All (IsNone ys) xs
none_by_kinds P Q xs ys apart first second = All-weaker P (IsNone ys) (λ t h.
    All-weaker Q (λ u. t ≡ u → ⊥) (λ u k e. apart u (subst P e h) k) ys second) xs first

pub apart_map : (f : List ℕ → List ℕ) → ((a b : List ℕ) → f a ≡ f b → a ≡ b) → (xs : List (List ℕ)) → Apart xs → Apart (map f xs)
apart_map f one [] h = tt
apart_map f one (t ∷ xs) h = (
  All-map (λ u. f t ≡ u → ⊥) f xs (All-weaker (λ u. t ≡ u → ⊥) (λ u. f t ≡ f u → ⊥) (λ u other e. other (one t u e)) xs h.0),
  apart_map f one xs h.1,
)

pub numbering_of : (names : List (List ℕ)) → Apart names → IsNumbering names
numbering_of names apart = record { distinct = λ a b la lb e. go names a b apart la lb e }
  where
    go : (names : List (List ℕ)) (a b : ℕ) → Apart names → a < length names → b < length names → text_at names a ≡ text_at names b → a ≡ b
    go [] a b h la lb e = absurd (omega arith)
    go (t ∷ names) zero zero h la lb e = refl
    go (t ∷ names) zero (suc b) h la lb e = absurd (h.0 b [] (omega arith) e)
    go (t ∷ names) (suc a) zero h la lb e = absurd (h.0 a [] (omega arith) (sym e))
    go (t ∷ names) (suc a) (suc b) h la lb e = ap suc (go names a b h.1 (omega arith) (omega arith) e)

pub apart_of : (names : List (List ℕ)) → IsNumbering names → Apart names
apart_of [] h = tt
apart_of (t ∷ names) h = (
  All-from_get_or (λ u. t ≡ u → ⊥) names [] (λ k l e. let same : 0 ≡ suc k = h.distinct 0 (suc k) (omega arith) (omega arith) e in absurd (omega arith)),
  apart_of names (record { distinct = λ a b la lb e. let same : suc a ≡ suc b = h.distinct (suc a) (suc b) (omega arith) (omega arith) e in omega arith }),
)
