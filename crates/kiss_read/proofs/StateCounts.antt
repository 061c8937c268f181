-- How many states there are with those that words name.
use Rattle.std.proofs.Common.{◌≡◌, ℕ, ◌+◌, Bool, true, false, ◌||◌, if◌then◌else◌, List, [], ◌∷◌, ◌++◌, length, refl, sym, ap, ◌∙◌}
use Rattle.std.specs.Str.{bytes_eq}
use Rattle.std.proofs.lemmas.List.{length_push}
use Rattle.std.proofs.lemmas.List.Folds.{list_any-append}
use Rattle.std.proofs.lemmas.Bool.{true≢false}
use Rattle.tsc_bits.proofs.Bools.{or-false}
use Rattle.tsc_net.specs.Names.{has_text, with_text}
use Rattle.tsc_net.proofs.NameLemmas.{bytes_eq_refl, bytes_eq_same, has_added}
use Rattle.kiss_read.specs.Selections.{names_state, with_state}

-- a name that is new makes one state more, any other word none
pub count_new : (states : List (List ℕ)) (word : List ℕ) → names_state word ≡ true → has_text states word ≡ false
    → length (with_state states word) ≡ length states + 1
count_new states word n e =
    ap (λ b. length (if b then with_text states word else states)) n
    ∙ ap (λ b. length (if b then states else states ++ word ∷ [])) e
    ∙ length_push states word

pub count_old : (states : List (List ℕ)) (word : List ℕ) → has_text states word ≡ true → length (with_state states word) ≡ length states
count_old states word e = by (names_state word)
  where
    by : (b : Bool) → length (if b then with_text states word else states) ≡ length states
    by true = ap (λ b. length (if b then states else states ++ word ∷ [])) e
    by false = refl

pub count_unnamed : (states : List (List ℕ)) (word : List ℕ) → names_state word ≡ false → length (with_state states word) ≡ length states
count_unnamed states word n = ap (λ b. length (if b then with_text states word else states)) n

-- a word that isn't the first one is new behind it as it was before
has-with_text : (states : List (List ℕ)) (first second : List ℕ) → bytes_eq first second ≡ false
    → has_text (with_text states first) second ≡ has_text states second
has-with_text states first second e = by (has_text states first)
  where
    other : (b : Bool) → bytes_eq second first ≡ b → b ≡ false
    other true f = absurd (true≢false (sym (ap (bytes_eq first) (bytes_eq_same second first f) ∙ bytes_eq_refl first) ∙ e))
    other false f = refl

    by : (b : Bool) → has_text (if b then states else states ++ first ∷ []) second ≡ has_text states second
    by true = refl
    by false =
        list_any-append (bytes_eq second) states (first ∷ [])
        ∙ ap (λ b. has_text states second || (b || false)) (other (bytes_eq second first) refl)
        ∙ or-false (has_text states second)

pub has-with_state : (states : List (List ℕ)) (first second : List ℕ) → bytes_eq first second ≡ false
    → has_text (with_state states first) second ≡ has_text states second
has-with_state states first second e = by (names_state first)
  where
    by : (b : Bool) → has_text (if b then with_text states first else states) second ≡ has_text states second
    by true = has-with_text states first second e
    by false = refl

-- the same word again makes no state more
pub count_again : (states : List (List ℕ)) (first second : List ℕ) → bytes_eq first second ≡ true
    → length (with_state (with_state states first) second) ≡ length (with_state states first)
count_again states first second e =
    ap (λ word. length (with_state (with_state states first) word)) (sym (bytes_eq_same first second e)) ∙ by (names_state first) refl
  where
    by : (b : Bool) → names_state first ≡ b → length (with_state (with_state states first) first) ≡ length (with_state states first)
    by true n = count_old (with_state states first) first (ap (λ b. has_text (if b then with_text states first else states) first) n ∙ has_added states first)
    by false n = count_unnamed (with_state states first) first n

-- another new word does
pub count_second : (states : List (List ℕ)) (first second : List ℕ) → bytes_eq first second ≡ false → names_state second ≡ true → has_text states second ≡ false
    → length (with_state (with_state states first) second) ≡ length (with_state states first) + 1
count_second states first second e n absent = count_new (with_state states first) second n (has-with_state states first second e ∙ absent)
