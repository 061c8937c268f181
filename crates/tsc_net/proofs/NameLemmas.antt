-- Tables of names: what a new text changes, and where a text stands.
use Rattle.std.proofs.Common.{◌≡◌, nat_lt, IfSome, ℕ, ◌+◌, ◌<◌, ◌≤◌, Bool, true, false, not, cond, ◌||◌, List, [], ◌∷◌, ◌++◌, map, length, zero, suc, Option, Some, None, refl, sym, ap, ◌∙◌, arith, if◌then◌else◌, position, length-append, true≢false, inl, inr}
use Rattle.std.specs.Str.{bytes_eq}
use Rattle.std.specs.Option.{is_some}
use Rattle.std.specs.List.{list_any, position_or_len}
use Rattle.std.proofs.lemmas.Slice.Eq.{bytes_eq-Decides}
use Rattle.std.proofs.lemmas.List.Sums.{passes_at_first, position_or_len_is}
use Rattle.std.proofs.lemmas.Grind.{common_steps}
use Rattle.std.proofs.lemmas.Bool.{cases_lt, lt-ltb, le-ltb, or_right}
use Rattle.tsc_net.specs.Names.{has_text, with_text, place_of_text, find_text, text_at, IsNumbering}
use Rattle.tsc_bits.proofs.Lists.{map-push}
use Rattle.std.proofs.lemmas.List.Folds.{list_any-append}

-- a test of the texts of items
module _ {X : Type 0} (text : X → List ℕ) (p : List ℕ → Bool) where
  pub list_any-text : (xs : List X) → list_any (λ x. p (text x)) xs ≡ list_any p (map text xs)
  list_any-text [] = refl
  list_any-text (x ∷ xs) = ap (λ b. p (text x) || b) (list_any-text xs)

  pub position_or_len-text : (xs : List X) → position_or_len (λ x. p (text x)) xs ≡ position_or_len p (map text xs)
  position_or_len-text [] = refl
  position_or_len-text (x ∷ xs) = ap (λ n. cond (not (p (text x))) (1 + n) 0) (position_or_len-text xs)

  pub length-text : (xs : List X) → length (map text xs) ≡ length xs
  length-text [] = refl
  length-text (x ∷ xs) = ap suc (length-text xs)

-- the texts of a list to which an item is added whose text is new
pub texts_added : {X : Type 0} (text : X → List ℕ) (xs : List X) (x : X)
    → map text (if list_any (λ y. bytes_eq (text x) (text y)) xs then xs else xs ++ x ∷ []) ≡ with_text (map text xs) (text x)
texts_added {X} text xs x =
    by (list_any (λ y. bytes_eq (text x) (text y)) xs) (has_text (map text xs) (text x)) (list_any-text text (bytes_eq (text x)) xs)
  where
    by : (a b : Bool) → a ≡ b → map text (if a then xs else xs ++ x ∷ []) ≡ (if b then map text xs else map text xs ++ text x ∷ [])
    by true true e = refl
    by false false e = map-push text xs x
    by true false e = cc
    by false true e = cc

-- a text is equal to itself, and to no other
pub bytes_eq_refl : (t : List ℕ) → bytes_eq t t ≡ true
bytes_eq_refl t = grind (arith, common_steps, bytes_eq-Decides)

pub bytes_eq_same : (t u : List ℕ) → bytes_eq t u ≡ true → t ≡ u
bytes_eq_same t u e = grind (arith, common_steps, bytes_eq-Decides)

-- a text that doesn't stand in the list is at no place
pub has_text_at : (names : List (List ℕ)) (t : List ℕ) (k : ℕ) → k < length names → text_at names k ≡ t → has_text names t ≡ true
has_text_at [] t k h e = absurd (omega arith)
has_text_at (n ∷ names) t zero h e = rw (sym e, bytes_eq_refl n)
has_text_at (n ∷ names) t (suc k) h e = rw (has_text_at names t k (omega arith) e) (by (bytes_eq t n))
  where
    by : (b : Bool) → (b || true) ≡ true
    by true = refl
    by false = refl

-- where the item stands whose text is looked for
pub position-text : {X : Type 0} (text : X → List ℕ) (p : List ℕ → Bool) (xs : List X)
    → position (λ x. p (text x)) xs ≡ position p (map text xs)
position-text text p xs =
    let i = position_or_len-text text p xs in
    let n = length-text text p xs in
    by _ _ _ _ i (sym n)
  where
    by : (a b m n : ℕ) → a ≡ b → m ≡ n → cond (nat_lt a m) (Some a) None ≡ cond (nat_lt b n) (Some b) None
    by a b m n e f = cc

-- a text that a list has stands at its place
pub place_within : (names : List (List ℕ)) (t : List ℕ) → has_text names t ≡ true → place_of_text names t < length names
place_within [] t e = cc
place_within (n ∷ names) t e = by (bytes_eq t n) refl (place_within names t)
  where
    by : (b : Bool) → bytes_eq t n ≡ b → (has_text names t ≡ true → place_of_text names t < length names)
        → place_of_text (n ∷ names) t < suc (length names)
    by true e2 rest = rw e2 (omega arith)
    by false e2 rest =
        let later : place_of_text names t < length names = rest (sym (ap (λ b. b || has_text names t) e2) ∙ e) in
        rw e2 (omega arith)

-- one that it doesn't have has the length for its place
pub place_past : (names : List (List ℕ)) (t : List ℕ) → has_text names t ≡ false → place_of_text names t ≡ length names
place_past [] t e = refl
place_past (n ∷ names) t e = by (bytes_eq t n) refl (place_past names t)
  where
    by : (b : Bool) → bytes_eq t n ≡ b → (has_text names t ≡ false → place_of_text names t ≡ length names)
        → place_of_text (n ∷ names) t ≡ suc (length names)
    by true e2 rest = absurd (true≢false (sym (ap (λ b. b || has_text names t) e2) ∙ e))
    by false e2 rest =
        let later : place_of_text names t ≡ length names = rest (sym (ap (λ b. b || has_text names t) e2) ∙ e) in
        rw e2 (omega arith)

-- the text at the place of a text that stands there
pub text_at_place : (names : List (List ℕ)) (t : List ℕ) → has_text names t ≡ true → text_at names (place_of_text names t) ≡ t
text_at_place names t e = sym (bytes_eq_same t _ (passes_at_first (bytes_eq t) names [] (place_within names t e)))

-- texts that stood there keep their places
pub text_at-push : (names : List (List ℕ)) (t : List ℕ) (k : ℕ) → k < length names → text_at (names ++ t ∷ []) k ≡ text_at names k
text_at-push [] t k h = absurd (omega arith)
text_at-push (n ∷ names) t zero h = refl
text_at-push (n ∷ names) t (suc k) h = text_at-push names t k (omega arith)

pub text_at-last : (names : List (List ℕ)) (t : List ℕ) → text_at (names ++ t ∷ []) (length names) ≡ t
text_at-last [] t = refl
text_at-last (n ∷ names) t = text_at-last names t

module _ (names : List (List ℕ)) (t : List ℕ) where
  pub text_at-with_text : (k : ℕ) → k < length names → text_at (with_text names t) k ≡ text_at names k
  text_at-with_text k h = by (has_text names t)
    where
      by : (b : Bool) → text_at (if b then names else names ++ t ∷ []) k ≡ text_at names k
      by true = refl
      by false = text_at-push names t k h

  -- the text stands at its place afterwards
  pub text_at-place : text_at (with_text names t) (place_of_text names t) ≡ t
  text_at-place = by (has_text names t) refl
    where
      by : (b : Bool) → has_text names t ≡ b → text_at (if b then names else names ++ t ∷ []) (place_of_text names t) ≡ t
      by true e = text_at_place names t e
      by false e = rw (place_past names t e) (text_at-last names t)

  pub length-with_text : length names ≤ length (with_text names t)
  length-with_text = by (has_text names t)
    where
      by : (b : Bool) → length names ≤ length (if b then names else names ++ t ∷ [])
      by true = omega arith
      by false = omega (arith, length-append names (t ∷ []))

  pub length-with_text-most : length (with_text names t) ≤ length names + 1
  length-with_text-most = by (has_text names t)
    where
      by : (b : Bool) → length (if b then names else names ++ t ∷ []) ≤ length names + 1
      by true = omega arith
      by false = omega (arith, length-append names (t ∷ []))

  -- different places still have different texts
  pub numbering-with_text : IsNumbering names → IsNumbering (with_text names t)
  numbering-with_text numbering = by (has_text names t) refl
    where
      apart : has_text names t ≡ false → (a b : ℕ) → a < length names + 1 → b < length names + 1
          → text_at (names ++ t ∷ []) a ≡ text_at (names ++ t ∷ []) b → a ≡ b
      apart absent a b ha hb e = elim (cases_lt a (length names)) [
        | inl la ↦ elim (cases_lt b (length names)) [
          | inl lb ↦ numbering.distinct a b la lb (sym (text_at-push names t a la) ∙ e ∙ text_at-push names t b lb)
          | inr gb ↦ let last : b ≡ length names = omega arith in
              absurd (true≢false (sym (has_text_at names t a la (sym (text_at-push names t a la) ∙ e ∙ ap (text_at (names ++ t ∷ [])) last ∙ text_at-last names t)) ∙ absent))
        ]
        | inr ga ↦ let lasta : a ≡ length names = omega arith in
            elim (cases_lt b (length names)) [
              | inl lb ↦ absurd (true≢false (sym (has_text_at names t b lb (sym (text_at-push names t b lb) ∙ sym e ∙ ap (text_at (names ++ t ∷ [])) lasta ∙ text_at-last names t)) ∙ absent))
              | inr gb ↦ omega arith
            ]
      ]

      by : (b : Bool) → has_text names t ≡ b → IsNumbering (if b then names else names ++ t ∷ [])
      by true e = numbering
      by false e = record { distinct = λ a b ha hb. apart e a b (omega (arith, length-append names (t ∷ []), ha)) (omega (arith, length-append names (t ∷ []), hb)) }

-- what the search for a text finds is its place
pub place_found : (names : List (List ℕ)) (t : List ℕ) (r : Option ℕ) → r ≡ find_text names t → IfSome r (λ place. place ≡ place_of_text names t)
place_found names t None e = tt
place_found names t (Some place) e = by (nat_lt (place_of_text names t) (length names)) e
  where
    by : (b : Bool) → Some place ≡ cond b (Some (place_of_text names t)) None → place ≡ place_of_text names t
    by true h = cc
    by false h = cc

-- the search for a text that stands there, and for one that doesn't
pub find-there : (texts : List (List ℕ)) (t : List ℕ) → has_text texts t ≡ true → find_text texts t ≡ Some (place_of_text texts t)
find-there texts t e =
    ap (λ b. cond b (Some (place_of_text texts t)) None) (lt-ltb (place_of_text texts t) (length texts) (place_within texts t e))

pub find-absent : (texts : List (List ℕ)) (t : List ℕ) → has_text texts t ≡ false → find_text texts t ≡ None
find-absent texts t e =
    ap (λ b. cond b (Some (place_of_text texts t)) None) (le-ltb (place_of_text texts t) (length texts) (let past = place_past texts t e in omega arith))

-- a text is found where it stands first, and isn't where it stands nowhere
module _ (names : List (List ℕ)) (t : List ℕ) where
  pub find-first : (k : ℕ) → ((i : ℕ) → i < k → bytes_eq t (text_at names i) ≡ false) → k < length names → bytes_eq t (text_at names k) ≡ true
      → find_text names t ≡ Some k
  find-first k before within here =
      let is : place_of_text names t ≡ k = position_or_len_is (bytes_eq t) names k [] (omega arith) before (λ h. here) in
      ap (λ p. cond (nat_lt p (length names)) (Some p) None) is ∙ ap (λ b. cond b (Some k) None) (lt-ltb k (length names) within)

  pub find-nowhere : ((i : ℕ) → i < length names → bytes_eq t (text_at names i) ≡ false) → find_text names t ≡ None
  find-nowhere none =
      let is : place_of_text names t ≡ length names = position_or_len_is (bytes_eq t) names (length names) [] (omega arith) none (λ h. absurd (omega arith)) in
      ap (λ b. cond b (Some (place_of_text names t)) None) (le-ltb (place_of_text names t) (length names) (omega (arith, is)))

pub found-has : (texts : List (List ℕ)) (t : List ℕ) → is_some (find_text texts t) ≡ has_text texts t
found-has texts t = by (has_text texts t) refl
  where
    by : (b : Bool) → has_text texts t ≡ b → is_some (find_text texts t) ≡ b
    by true h = ap is_some (find-there texts t h)
    by false h = ap is_some (find-absent texts t h)

-- a text that was added is there
pub has_added : (states : List (List ℕ)) (word : List ℕ) → has_text (with_text states word) word ≡ true
has_added states word = by (has_text states word) refl
  where
    by : (b : Bool) → has_text states word ≡ b → has_text (if b then states else states ++ word ∷ []) word ≡ true
    by true e = e
    by false e =
        list_any-append (bytes_eq word) states (word ∷ [])
        ∙ ap (λ b. has_text states word || (b || false)) (bytes_eq_refl word)
        ∙ or_right (has_text states word) true refl
