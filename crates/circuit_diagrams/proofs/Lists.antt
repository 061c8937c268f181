-- What holds of each item of lists that are joined, made from numbers, or kept of others.
use Rattle.std.proofs.Common.{◌≡◌, ℕ, zero, suc, ◌+◌, ◌<◌, ◌≤◌, Bool, true, false, cond, List, [], ◌∷◌, ◌++◌, map, length, slice_index, slice_index_or, take, drop, refl, ap, ◌∙◌, subst, arith}
use Rattle.std.specs.List.{AllByRecursion, range_with_len, flat_map, filter}
use Rattle.std.proofs.lemmas.Bool.{false≢true, cases_lt}
use Rattle.std.proofs.lemmas.List.{append-nil, drop_all, take_all}
use Rattle.std.proofs.Math.Logic.{⊎_elim}

module _ {X : Type 0} (Q : X → Type 0) where
  -- what holds of each item of two lists holds of each item of both, joined
  pub each-append : (xs ys : List X) → AllByRecursion Q xs → AllByRecursion Q ys → AllByRecursion Q (xs ++ ys)
  each-append [] ys a b = b
  each-append (x ∷ xs) ys a b = (a.0, each-append xs ys a.1 b)

  -- what holds of each item of joined lists holds of each item of the first
  pub each-front : (xs ys : List X) → AllByRecursion Q (xs ++ ys) → AllByRecursion Q xs
  each-front [] ys a = tt
  each-front (x ∷ xs) ys a = (a.0, each-front xs ys a.1)

  -- what holds of each item of joined lists holds of each item of the second
  pub each-back : (xs ys : List X) → AllByRecursion Q (xs ++ ys) → AllByRecursion Q ys
  each-back [] ys a = a
  each-back (x ∷ xs) ys a = each-back xs ys a.1

  -- of numbers in a row
  pub each-range : (f : ℕ → X) (a n : ℕ) → ((i : ℕ) → a ≤ i → i < a + n → Q (f i)) → AllByRecursion Q (map f (range_with_len a n))
  each-range f a zero h = tt
  each-range f a (suc n) h = (h a (omega arith) (omega arith), each-range f (a + 1) n (λ i low high. h i (omega arith) (omega arith)))

  -- what holds of all that comes of numbers in a row holds of what comes of one of them
  pub range-at : (f : ℕ → X) (a n i : ℕ) → AllByRecursion Q (map f (range_with_len a n)) → a ≤ i → i < a + n → Q (f i)
  range-at f a zero i all low high = absurd (omega arith)
  range-at f a (suc n) i all low high = ⊎_elim
      (λ later. range-at f (a + 1) n i all.1 (omega arith) (omega arith))
      (λ here. let e : a ≡ i = omega arith in subst (λ (k : ℕ). Q (f k)) e all.0)
      (cases_lt a i)

  pub each-range-flat : (f : ℕ → List X) (a n : ℕ) → ((i : ℕ) → a ≤ i → i < a + n → AllByRecursion Q (f i)) → AllByRecursion Q (flat_map f (range_with_len a n))
  each-range-flat f a zero h = tt
  each-range-flat f a (suc n) h = each-append (f a) _ (h a (omega arith) (omega arith)) (each-range-flat f (a + 1) n (λ i low high. h i (omega arith) (omega arith)))

  pub range-flat-at : (f : ℕ → List X) (a n i : ℕ) → AllByRecursion Q (flat_map f (range_with_len a n)) → a ≤ i → i < a + n → AllByRecursion Q (f i)
  range-flat-at f a zero i all low high = absurd (omega arith)
  range-flat-at f a (suc n) i all low high = ⊎_elim
      (λ later. range-flat-at f (a + 1) n i (each-back (f a) (flat_map f (range_with_len (a + 1) n)) all) (omega arith) (omega arith))
      (λ here. let e : a ≡ i = omega arith in subst (λ (k : ℕ). AllByRecursion Q (f k)) e (each-front (f a) (flat_map f (range_with_len (a + 1) n)) all))
      (cases_lt a i)

  -- of a list's items
  pub each-map : {A : Type 0} (f : A → X) (xs : List A) (d : A) → ((j : ℕ) → j < length xs → Q (f (slice_index_or xs j d))) → AllByRecursion Q (map f xs)
  each-map f [] d h = tt
  each-map f (x ∷ xs) d h = (h 0 (omega arith), each-map f xs d (λ j inside. h (suc j) (omega arith)))

  -- what holds of all that comes of a list's items holds of what comes of the item at a place
  pub map-at : {A : Type 0} (f : A → X) (xs : List A) (d : A) (j : ℕ) → AllByRecursion Q (map f xs) → j < length xs → Q (f (slice_index_or xs j d))
  map-at f [] d j all inside = absurd (omega arith)
  map-at f (x ∷ xs) d zero all inside = all.0
  map-at f (x ∷ xs) d (suc j) all inside = map-at f xs d j all.1 (omega arith)

  pub each-flat : {A : Type 0} (f : A → List X) (xs : List A) (d : A) → ((j : ℕ) → j < length xs → AllByRecursion Q (f (slice_index_or xs j d))) → AllByRecursion Q (flat_map f xs)
  each-flat f [] d h = tt
  each-flat f (x ∷ xs) d h = each-append (f x) (flat_map f xs) (h 0 (omega arith)) (each-flat f xs d (λ j inside. h (suc j) (omega arith)))

  pub flat-at : {A : Type 0} (f : A → List X) (xs : List A) (d : A) (j : ℕ) → AllByRecursion Q (flat_map f xs) → j < length xs → AllByRecursion Q (f (slice_index_or xs j d))
  flat-at f [] d j all inside = absurd (omega arith)
  flat-at f (x ∷ xs) d zero all inside = each-front (f x) (flat_map f xs) all
  flat-at f (x ∷ xs) d (suc j) all inside = flat-at f xs d j (each-back (f x) (flat_map f xs) all) (omega arith)

  -- of those of its items that pass a test
  picked : {A : Type 0} (f : A → List X) (x : A) (ys : List A) (b : Bool) → (b ≡ true → AllByRecursion Q (f x)) → AllByRecursion Q (flat_map f ys) → AllByRecursion Q (flat_map f (cond b (x ∷ ys) ys))
  picked f x ys true h rest = each-append (f x) (flat_map f ys) (h refl) rest
  picked f x ys false h rest = rest

  first_picked : {A : Type 0} (f : A → List X) (x : A) (ys : List A) (b : Bool) → AllByRecursion Q (flat_map f (cond b (x ∷ ys) ys)) → b ≡ true → AllByRecursion Q (f x)
  first_picked f x ys true all e = each-front (f x) (flat_map f ys) all
  first_picked f x ys false all e = absurd (false≢true e)

  later_picked : {A : Type 0} (f : A → List X) (x : A) (ys : List A) (b : Bool) → AllByRecursion Q (flat_map f (cond b (x ∷ ys) ys)) → AllByRecursion Q (flat_map f ys)
  later_picked f x ys true all = each-back (f x) (flat_map f ys) all
  later_picked f x ys false all = all

  pub each-passing : (f : ℕ → List X) (m : ℕ → Bool) (xs : List ℕ) → ((k : ℕ) → k < length xs → m (slice_index xs k) ≡ true → AllByRecursion Q (f (slice_index xs k))) → AllByRecursion Q (flat_map f (filter m xs))
  each-passing f m [] h = tt
  each-passing f m (x ∷ xs) h = picked f x (filter m xs) (m x) (h 0 (omega arith)) (each-passing f m xs (λ k inside. h (suc k) (omega arith)))

  pub passing-at : (f : ℕ → List X) (m : ℕ → Bool) (xs : List ℕ) (k : ℕ) → AllByRecursion Q (flat_map f (filter m xs)) → k < length xs → m (slice_index xs k) ≡ true → AllByRecursion Q (f (slice_index xs k))
  passing-at f m [] k all inside passes = absurd (omega arith)
  passing-at f m (x ∷ xs) zero all inside passes = first_picked f x (filter m xs) (m x) all passes
  passing-at f m (x ∷ xs) (suc k) all inside passes = passing-at f m xs k (later_picked f x (filter m xs) (m x) all) (omega arith) passes

  pub each-weaker : (R : X → Type 0) → ((x : X) → Q x → R x) → (xs : List X) → AllByRecursion Q xs → AllByRecursion R xs
  each-weaker R h [] all = tt
  each-weaker R h (x ∷ xs) all = (h x all.0, each-weaker R h xs all.1)

-- what is written over a whole list is all of it
pub written_back : {A : Type 0} (new old : List A) (count : ℕ) → count ≡ length old → length new ≡ length old → take count (new ++ drop (length new) old) ≡ new
written_back new old count counted same =
    let none : drop (length new) old ≡ [] = drop_all (length new) old (omega arith) in
    ap (λ list. take count (new ++ list)) none ∙ ap (take count) (append-nil new) ∙ take_all count new (omega arith)
