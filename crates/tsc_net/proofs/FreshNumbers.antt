-- Numbers and counts of fresh names: a text begins as the fresh names of one number only, so of n names and one more numbers one is
-- free; and the fresh names of one number differ by their counts.
use Rattle.std.proofs.Common.{◌≡◌, ℕ, zero, suc, ◌+◌, ◌^◌, ◌<◌, ◌≤◌, ◌⊎◌, Bool, true, false, ◌||◌, List, [], ◌∷◌, ◌++◌, length, take, drop, get_or, refl, sym, ap, ◌∙◌, arith, if◌then◌else◌, Option, Some, None, inl, inr, append_assoc, true≢false}
use Rattle.std.specs.Fmt.{decimal}
use Rattle.std.specs.Str.{bytes_eq}
use Rattle.std.specs.Char.{digit_value}
use Rattle.std.specs.Str.Parse.{AllDigits}
use Rattle.std.specs.List.{list_any, position_or_len}
use Rattle.std.proofs.lemmas.Fmt.{decimal_is_IsNumeral, decimal_injective}
use Rattle.std.proofs.lemmas.Str.Parse.{digit_from_value}
use Rattle.std.proofs.Math.Seq.{take-append_seam, drop-append_seam}
use Rattle.std.proofs.lemmas.Bool.{cases_eq, or_parts}
use Rattle.std.proofs.lemmas.List.{take-append-drop}
use Rattle.std.proofs.lemmas.List.Sums.{passes_at_first}
use Rattle.tsc_bits.proofs.Pigeonhole.{pigeonhole}
use Rattle.tsc_net.specs.Names.{has_text, with_text}
use Rattle.tsc_net.specs.Parts.{LeavesFresh, begins_with, lettered_prefix, fresh_prefix, fresh_text, is_taken_under, is_taken, free_number_under, free_number_under_from, free_number}
use Rattle.tsc_net.specs.PartsView.{IsFreshUnused, fresh_names}
use Rattle.tsc_net.specs.declared.fresh.FreshPart.{FreshPart}
use Rattle.tsc_net.proofs.MarkLemmas.{has_text-other}
use Rattle.tsc_net.proofs.NameLemmas.{bytes_eq_refl, bytes_eq_same}

-- a digit isn't the mark behind the number
no-mark : (c : ℕ) → digit_value c < 10 → c ≡ 95 → ⊥
no-mark c d e = omega (arith, digit_from_value c d)

-- digits before the first mark are the same where the texts are
before-mark : (xs ys r s : List ℕ) → AllDigits 10 xs → AllDigits 10 ys → xs ++ 95 ∷ r ≡ ys ++ 95 ∷ s → xs ≡ ys
before-mark [] [] r s a b e = refl
before-mark [] (y ∷ ys) r s a b e = absurd (no-mark y b.0 (sym (ap (λ l. get_or l 0 0) e)))
before-mark (x ∷ xs) [] r s a b e = absurd (no-mark x a.0 (ap (λ l. get_or l 0 0) e))
before-mark (x ∷ xs) (y ∷ ys) r s a b e =
    let head : x ≡ y = ap (λ l. get_or l 0 0) e in
    let tail : xs ≡ ys = before-mark xs ys r s a.1 b.1 (ap (drop 1) e) in
    cc

-- a text that begins with a prefix goes on behind it
goes-on : (prefix t : List ℕ) → begins_with prefix t ≡ true → prefix ++ drop (length prefix) t ≡ t
goes-on prefix t e =
    ap (λ l. l ++ drop (length prefix) t) (bytes_eq_same prefix (take (length prefix) t) e) ∙ take-append-drop (length prefix) t

-- the prefix of a number and what follows, as the mark between digits and the rest
prefix-split : (letter number : ℕ) (rest : List ℕ) → drop 1 (lettered_prefix letter number ++ rest) ≡ decimal number ++ 95 ∷ rest
prefix-split letter number rest = append_assoc (decimal number) (95 ∷ []) rest

-- a text begins with a letter and one number only
pub prefix-one : (letter i j : ℕ) (t : List ℕ) → i < 2 ^ 64 → j < 2 ^ 64 → begins_with (lettered_prefix letter i) t ≡ true → begins_with (lettered_prefix letter j) t ≡ true → i ≡ j
prefix-one letter i j t hi hj a b =
    let first = drop (length (lettered_prefix letter i)) t in
    let second = drop (length (lettered_prefix letter j)) t in
    let same : decimal i ++ 95 ∷ first ≡ decimal j ++ 95 ∷ second =
    sym (prefix-split letter i first) ∙ ap (drop 1) (goes-on (lettered_prefix letter i) t a ∙ sym (goes-on (lettered_prefix letter j) t b)) ∙ prefix-split letter j second in
    decimal_injective i j hi hj (before-mark (decimal i) (decimal j) first second (decimal_is_IsNumeral i hi).0.1 (decimal_is_IsNumeral j hj).0.1 same)

-- where a name begins so, the place of the first such name is one
taken-within : (names : List (List ℕ)) (p : List ℕ → Bool) → list_any p names ≡ true → position_or_len p names < length names
taken-within [] p e = cc
taken-within (x ∷ names) p e = by (p x) refl (taken-within names p)
  where
    by : (b : Bool) → p x ≡ b → (list_any p names ≡ true → position_or_len p names < length names) → position_or_len p (x ∷ names) < length (x ∷ names)
    by true h rest = rw h (omega arith)
    by false h rest =
        let later : list_any p names ≡ true = sym (ap (λ b. b || list_any p names) h) ∙ e in
        let within = rest later in
        rw h (omega arith)

-- as many numbers are taken as there are names, at most
taken-most : (letter : ℕ) (names : List (List ℕ)) (n : ℕ) → n ≤ 2 ^ 64 → ((k : ℕ) → k < n → is_taken_under letter names k ≡ true) → n ≤ length names
taken-most letter names n few all =
    let place : ℕ → ℕ = λ k. position_or_len (begins_with (lettered_prefix letter k)) names in
    let into : (k : ℕ) → k < n → place k < length names = λ k h. taken-within names (begins_with (lettered_prefix letter k)) (all k h) in
    let begins : (k : ℕ) → k < n → begins_with (lettered_prefix letter k) (get_or names (place k) []) ≡ true =
    λ k h. passes_at_first (begins_with (lettered_prefix letter k)) names [] (into k h) in
    pigeonhole n (length names) place into
    (λ i j hi hj e. prefix-one letter i j (get_or names (place i) []) (omega arith) (omega arith) (begins i hi)
    (ap (λ k. begins_with (lettered_prefix letter j) (get_or names k [])) e ∙ begins j hj))

-- the search ends at a number that is free, or all that it tried are taken, the last one too
search-ends : (letter : ℕ) (names : List (List ℕ)) (tries number : ℕ)
    → (is_taken_under letter names (free_number_under_from letter names tries number) ≡ false) ⊎ ((k : ℕ) → number ≤ k → k ≤ number + tries → is_taken_under letter names k ≡ true)
search-ends letter names zero number = by (is_taken_under letter names number) refl
  where
    by : (b : Bool) → is_taken_under letter names number ≡ b → (is_taken_under letter names number ≡ false) ⊎ ((k : ℕ) → number ≤ k → k ≤ number + 0 → is_taken_under letter names k ≡ true)
    by false e = inl e
    by true e = inr (λ k low high. let same : k ≡ number = omega arith in ap (is_taken_under letter names) same ∙ e)
search-ends letter names (suc tries) number = by (is_taken_under letter names number) refl (search-ends letter names tries (number + 1))
  where
    by : (b : Bool) → is_taken_under letter names number ≡ b
        → (is_taken_under letter names (free_number_under_from letter names tries (number + 1)) ≡ false) ⊎ ((k : ℕ) → number + 1 ≤ k → k ≤ (number + 1) + tries → is_taken_under letter names k ≡ true)
        → (is_taken_under letter names (free_number_under_from letter names (suc tries) number) ≡ false) ⊎ ((k : ℕ) → number ≤ k → k ≤ number + suc tries → is_taken_under letter names k ≡ true)
    by false e rest = inl (ap (is_taken_under letter names) (ap (λ b. if b then free_number_under_from letter names tries (number + 1) else number) e) ∙ e)
    by true e (inl free) = inl (ap (is_taken_under letter names) (ap (λ b. if b then free_number_under_from letter names tries (number + 1) else number) e) ∙ free)
    by true e (inr all) = inr (λ k low high. from k low high (cases_eq k number))
      where
        from : (k : ℕ) → number ≤ k → k ≤ number + suc tries → (k ≡ number) ⊎ (k ≡ number → ⊥) → is_taken_under letter names k ≡ true
        from k low high (inl same) = ap (is_taken_under letter names) same ∙ e
        from k low high (inr other) = all k (omega (arith, other)) (omega arith)

-- the least number that isn't taken isn't taken
pub free-isnt-taken-under : (letter : ℕ) (names : List (List ℕ)) → length names < 2 ^ 32 → is_taken_under letter names (free_number_under letter names) ≡ false
free-isnt-taken-under letter names few = by (search-ends letter names (length names) 0)
  where
    by : (is_taken_under letter names (free_number_under letter names) ≡ false) ⊎ ((k : ℕ) → 0 ≤ k → k ≤ 0 + length names → is_taken_under letter names k ≡ true)
        → is_taken_under letter names (free_number_under letter names) ≡ false
    by (inl free) = free
    by (inr all) =
        let most : length names + 1 ≤ length names = taken-most letter names (length names + 1) (omega arith) (λ k h. all k (omega arith) (omega arith)) in
        absurd (omega arith)

pub free-isnt-taken : (names : List (List ℕ)) → length names < 2 ^ 32 → is_taken names (free_number names) ≡ false
free-isnt-taken names few = free-isnt-taken-under 116 names few

-- a fresh name begins as the fresh names of its number do
fresh-begins : (number count : ℕ) → begins_with (fresh_prefix number) (fresh_text number count) ≡ true
fresh-begins number count =
    ap (bytes_eq (fresh_prefix number)) (take-append_seam (fresh_prefix number) (decimal count)) ∙ bytes_eq_refl (fresh_prefix number)

-- where no name begins so, no fresh name of the number is there
pub untaken : (names : List (List ℕ)) (number count : ℕ) → is_taken names number ≡ false → has_text names (fresh_text number count) ≡ false
untaken [] number count e = refl
untaken (x ∷ names) number count e = by (bytes_eq (fresh_text number count) x) refl (untaken names number count)
  where
    split : (begins_with (fresh_prefix number) x ≡ false) × (is_taken names number ≡ false)
    split = or_parts (begins_with (fresh_prefix number) x) (is_taken names number) e

    by : (b : Bool) → bytes_eq (fresh_text number count) x ≡ b → (is_taken names number ≡ false → has_text names (fresh_text number count) ≡ false)
        → (b || has_text names (fresh_text number count)) ≡ false
    by false h rest = rest split.1
    by true h rest =
        let same : fresh_text number count ≡ x = bytes_eq_same (fresh_text number count) x h in
        absurd (true≢false (sym (ap (begins_with (fresh_prefix number)) (sym same) ∙ fresh-begins number count) ∙ split.0))

-- fresh names of one number with different counts differ
fresh-differ : (number a b : ℕ) → a < 2 ^ 64 → b < 2 ^ 64 → (a ≡ b → ⊥) → bytes_eq (fresh_text number a) (fresh_text number b) ≡ false
fresh-differ number a b ha hb other = by (bytes_eq (fresh_text number a) (fresh_text number b)) refl
  where
    by : (e : Bool) → bytes_eq (fresh_text number a) (fresh_text number b) ≡ e → e ≡ false
    by false h = refl
    by true h =
        let same = bytes_eq_same (fresh_text number a) (fresh_text number b) h in
        let counts : decimal a ≡ decimal b =
        sym (drop-append_seam (fresh_prefix number) (decimal a)) ∙ ap (drop (length (fresh_prefix number))) same ∙ drop-append_seam (fresh_prefix number) (decimal b) in
        absurd (other (decimal_injective a b ha hb counts))

-- a name that may be named leaves the fresh names that come unused
pub unused-named : (names : List (List ℕ)) (t : List ℕ) (fresh : Option FreshPart) → LeavesFresh names t (fresh_names fresh) → IsFreshUnused names fresh
    → IsFreshUnused (with_text names t) fresh
unused-named names t None leaves unused = tt
unused-named names t (Some f) leaves unused = λ count from below. by count from below (has_text names t) refl
  where
    other : (count : ℕ) → begins_with (fresh_prefix f.number) t ≡ false → (e : Bool) → bytes_eq (fresh_text f.number count) t ≡ e → e ≡ false
    other count apart false h = refl
    other count apart true h =
        absurd (true≢false (sym (sym (ap (begins_with (fresh_prefix f.number)) (bytes_eq_same (fresh_text f.number count) t h)) ∙ fresh-begins f.number count) ∙ apart))

    by : (count : ℕ) → f.next ≤ count → count < 2 ^ 64 → (b : Bool) → has_text names t ≡ b → has_text (if b then names else names ++ t ∷ []) (fresh_text f.number count) ≡ false
    by count from below true h = unused count from below
    by count from below false h =
        has_text-other names t (fresh_text f.number count) (other count (leaves h) (bytes_eq (fresh_text f.number count) t) refl) ∙ unused count from below

-- the next fresh name leaves those behind it unused
pub unused-next : (names : List (List ℕ)) (f : FreshPart) → f.next < 2 ^ 32 → IsFreshUnused names (Some f)
    → IsFreshUnused (names ++ fresh_text f.number f.next ∷ []) (Some (record { number = f.number; next = f.next + 1 }))
unused-next names f small unused = λ count from below.
    has_text-other names (fresh_text f.number f.next) (fresh_text f.number count)
    (fresh-differ f.number count f.next below (omega arith) (λ e. omega arith)) ∙ unused count (omega arith) below

-- so it is where the number isn't taken
pub unused-first : (names : List (List ℕ)) (f : FreshPart) → is_taken names f.number ≡ false → IsFreshUnused names (Some f)
unused-first names f free = λ count from below. untaken names f.number count free

-- the next fresh name is new
pub next-is-new : (names : List (List ℕ)) (f : FreshPart) → f.next < 2 ^ 32 → IsFreshUnused names (Some f) → has_text names (fresh_text f.number f.next) ≡ false
next-is-new names f small unused = unused f.next (omega arith) (omega arith)
