-- Lists of places, and what stands in them.
use Rattle.std.proofs.Common.{◌≡◌, ℕ, zero, suc, ◌+◌, ◌<◌, Bool, true, false, cond, ◌||◌, ◌==◌, ◌⊎◌, Ordering, Less, Equal, Greater, List, [], ◌∷◌, ◌++◌, length, All, get_or, set, refl, sym, ap, ◌∙◌, subst, arith, count_by, inl, inr, true≢false, ◌-◌, nat_lt, if◌then◌else◌, Contains}
use Rattle.std.specs.Ordering.{nat_cmp, match_ordering}
use Rattle.std.specs.BTreeSet.{insert_key}
use Rattle.std.proofs.lemmas.List.{length-set, get_or_past}
use Rattle.std.proofs.lemmas.List.Folds.{list_any-append, list_any_at}
use Rattle.std.proofs.lemmas.List.Sums.{count_by-le-length, sum_by-set}
use Rattle.std.proofs.lemmas.Bool.{cases_eq, cases_lt, eq-eqb, ne_eqb, false_from_ne_true, or_left, or_right}
use Rattle.std.proofs.lemmas.Grind.{common_steps}
use Rattle.std.proofs.lemmas.Map.Lookups.{exact_unsigned}
use Rattle.tsc_net.specs.Order.{has_place, fan_in}
use Rattle.tsc_bits.specs.Lists.{list_at}

-- lists that are all empty
pub empty_at : (lists : List (List ℕ)) → All (λ list. list ≡ []) lists → (j : ℕ) → list_at lists j ≡ []
empty_at lists all j = elim (cases_lt j (length lists)) [
  | inl h ↦ all j [] h
  | inr h ↦ get_or_past lists j [] h
]

-- a place stands where it was pushed, and where it stood before
pub has_place-push : (places : List ℕ) (y j : ℕ) → has_place (places ++ y ∷ []) j ≡ (has_place places j || (y == j || false))
has_place-push places y j = list_any-append (λ k. k == j) places (y ∷ [])

-- a list has the place that was put at its end
pub has_place-pushed : (places : List ℕ) (y : ℕ) → has_place (places ++ y ∷ []) y ≡ true
has_place-pushed places y = has_place-push places y y ∙ or_right (has_place places y) _ (or_left (y == y) false (eq-eqb y y refl))

-- a place of a list is one of it with one more at its end
pub has_place-kept : (places : List ℕ) (y j : ℕ) → has_place places j ≡ true → has_place (places ++ y ∷ []) j ≡ true
has_place-kept places y j h = has_place-push places y j ∙ or_left (has_place places j) _ h

pub has_place-other : (places : List ℕ) (y j : ℕ) → (y ≡ j → ⊥) → has_place (places ++ y ∷ []) j ≡ has_place places j
has_place-other places y j other = has_place-push places y j ∙ by (has_place places j) (y == j) (ne_eqb y j other)
  where
    by : (a b : Bool) → b ≡ false → (a || (b || false)) ≡ a
    by true b e = refl
    by false true e = absurd (true≢false e)
    by false false e = refl

-- what stands in a list at whose end a place was put
pub has_place-cases : (places : List ℕ) (y j : ℕ) → has_place (places ++ y ∷ []) j ≡ true → (has_place places j ≡ true) ⊎ (y ≡ j)
has_place-cases places y j h = elim (cases_eq y j) [
  | inl e ↦ inr e
  | inr other ↦ inl (sym (has_place-other places y j other) ∙ h)
]

-- the place at an index stands in the list
pub has_place-at : (places : List ℕ) (i d : ℕ) → i < length places → has_place places (get_or places i d) ≡ true
has_place-at places i d h = list_any_at (λ k. k == get_or places i d) places i d h (eq-eqb _ _ refl)

-- a list has the place that stands first in it
pub has_place-head : (y : ℕ) (places : List ℕ) → has_place (y ∷ places) y ≡ true
has_place-head y places = or_left (y == y) _ (eq-eqb y y refl)

-- a place other than the first is one of the list exactly where it is one of the rest
pub has_place-tail : (y j : ℕ) (places : List ℕ) → (y ≡ j → ⊥) → has_place (y ∷ places) j ≡ has_place places j
has_place-tail y j places other = ap (λ b. b || has_place places j) (ne_eqb y j other)

-- a place of a list is one of it with one more at its front
pub has_place-rest : (y j : ℕ) (places : List ℕ) → has_place places j ≡ true → has_place (y ∷ places) j ≡ true
has_place-rest y j places h = or_right (y == j) _ h

-- all of the list stand in it
pub All-has_place : (places : List ℕ) (P : ℕ → Type 0) → ((j : ℕ) → has_place places j ≡ true → P j) → All P places
All-has_place places P each k d h = each (get_or places k d) (has_place-at places k d h)

-- what holds of a list holds of what stands in it
pub has_place-All : (P : ℕ → Type 0) (places : List ℕ) (j : ℕ) → has_place places j ≡ true → All P places → P j
has_place-All P [] j h all = absurd (true≢false (sym h))
has_place-All P (y ∷ places) j h all = elim (cases_eq y j) [
  | inl e ↦ subst P e (all zero y (omega arith))
  | inr other ↦ has_place-All P places j (sym (has_place-tail y j places other) ∙ h) (λ k d i. all (suc k) d (omega arith))
]

-- a key that is put among the keys stands there, and the others stay
pub has_place-insert : (keys : List ℕ) (y j : ℕ) → has_place (insert_key nat_cmp keys y) j ≡ (y == j || has_place keys j)
has_place-insert [] y j = refl
has_place-insert (x ∷ keys) y j = by (nat_cmp y x) refl (has_place-insert keys y j)
  where
    turn : (a b c : Bool) → (a || (b || c)) ≡ (b || (a || c))
    turn true true c = refl
    turn true false c = refl
    turn false true c = refl
    turn false false c = refl

    twice : (a c : Bool) → (a || c) ≡ (a || (a || c))
    twice true c = refl
    twice false c = refl

    by : (o : Ordering) → nat_cmp y x ≡ o → has_place (insert_key nat_cmp keys y) j ≡ (y == j || has_place keys j)
        → has_place (match_ordering o (y ∷ x ∷ keys) (x ∷ keys) (x ∷ insert_key nat_cmp keys y)) j ≡ (y == j || has_place (x ∷ keys) j)
    by Less e rest = refl
    by Equal e rest = let same : y ≡ x = exact_unsigned y x e in
        subst (λ z. has_place (x ∷ keys) j ≡ (z == j || has_place (x ∷ keys) j)) (sym same) (twice (x == j) (has_place keys j))
    by Greater e rest = ap (λ b. (x == j) || b) rest ∙ turn (x == j) (y == j) (has_place keys j)

-- keys that come later in order aren't the first
pub not_among_greater : (y : ℕ) (keys : List ℕ) → All (λ k. nat_cmp y k ≡ Less) keys → has_place keys y ≡ false
not_among_greater y keys all = false_from_ne_true (has_place keys y) (λ h.
    absurd (never (has_place-All (λ k. nat_cmp y k ≡ Less) keys y h all)))
  where
    never : nat_cmp y y ≡ Less → ⊥
    never e = grind (arith, common_steps)

-- a count of a list in which one item comes to be counted
pub count_by-set : {X : Type 0} (p : X → Bool) (xs : List X) (i : ℕ) (y d : X) → i < length xs → p (get_or xs i d) ≡ false → p y ≡ true
    → count_by p (set xs i y) ≡ count_by p xs + 1
count_by-set p xs i y d h was now =
    let sum = sum_by-set (λ x. cond (p x) 1 0) xs i y d h in
    let old = ap (λ (b : Bool). cond {A = ℕ} b 1 0) was in
    let new = ap (λ (b : Bool). cond {A = ℕ} b 1 0) now in
    omega (arith, sum, old, new)

-- a count in which one item isn't counted
pub count_by-less : {X : Type 0} (p : X → Bool) (xs : List X) (i : ℕ) (d y : X) → i < length xs → p (get_or xs i d) ≡ false → p y ≡ true
    → count_by p xs < length xs
count_by-less p xs i d y h was now =
    let more = count_by-set p xs i y d h was now in
    let most = count_by-le-length p (set xs i y) in
    omega (arith, length-set xs i y)

-- a net that a node drives, among what a node reads, has its place in the fan-in
pub fan_in_has : (base : ℕ) (reads : List ℕ) (k : ℕ) → Contains reads (base + k) → Contains (fan_in base reads) k
fan_in_has base [] k (i, within, e) = absurd (omega arith)
fan_in_has base (net ∷ reads) k (zero, within, e) =
    let test : nat_lt net base ≡ false = grind (arith, common_steps) in
    let back : net - base ≡ k = omega arith in
    subst (λ xs. Contains xs k) (sym (ap (λ b. if b then fan_in base reads else (net - base) ∷ fan_in base reads) test)) (0, omega arith, back)
fan_in_has base (net ∷ reads) k (suc i, within, e) = choose (nat_lt net base) (fan_in_has base reads k (i, omega arith, e))
  where
    choose : (b : Bool) → Contains (fan_in base reads) k → Contains (if b then fan_in base reads else (net - base) ∷ fan_in base reads) k
    choose true there = there
    choose false (j, inside, f) = (suc j, omega arith, f)
