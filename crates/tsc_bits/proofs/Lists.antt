-- Facts on lists that std has in another form or not at all.
use Rattle.std.specs.Prelude.{◌≡◌, ℕ, zero, suc, ◌+◌, ◌<◌, Bool, true, false, cond, nat_lt, List, [], ◌∷◌, ◌++◌, map, reverse, length, take, drop, position, slice_index_or, count_by, Some, None, All, refl}
use Rattle.std.proofs.Common.{sym, ◌∙◌, ap, subst, inl, inr, arith}
use Rattle.std.specs.List.{position_or_len, range_with_len}
use Rattle.std.proofs.lemmas.Bool.{cases_lt, lt-ltb, le-ltb}
use Rattle.std.proofs.lemmas.List.{map-append, reverse-append, take-append-le, take_all, drop-append-le, drop_all}
use Rattle.std.proofs.lemmas.List.Elements.{All-nil, All-cons, All-head, All-tail}
use Rattle.std.proofs.lemmas.List.Sums.{sum_by-cons, passes_at_first, position_or_len_is}

-- two functions that agree where P holds agree on a list of which P holds
pub map_agrees : {X Y : Type 0} (P : X → Type 0) (f g : X → Y) → ((x : X) → P x → f x ≡ g x) → (xs : List X) → All P xs → map f xs ≡ map g xs
map_agrees P f g same [] all = refl
map_agrees P f g same (x ∷ xs) all =
    let here = same x (All-head P x xs all) in
    let rest = map_agrees P f g same xs (All-tail P x xs all) in
    cc

-- a map of a list with one item more
pub map-push : {X Y : Type 0} (f : X → Y) (xs : List X) (x : X) → map f (xs ++ x ∷ []) ≡ map f xs ++ f x ∷ []
map-push f xs x = map-append f xs (x ∷ [])

pub map-reverse : {X Y : Type 0} (f : X → Y) (xs : List X) → map f (reverse xs) ≡ reverse (map f xs)
map-reverse f [] = refl
map-reverse f (x ∷ xs) =
    ap (map f) (reverse-append (x ∷ []) xs) ∙ map-append f (reverse xs) (x ∷ [])
    ∙ ap (λ ys. ys ++ f x ∷ []) (map-reverse f xs)
    ∙ sym (reverse-append (f x ∷ []) (map f xs))

-- the first part of a list, and the second
pub front : {X : Type 0} (n : ℕ) (xs ys : List X) → length xs ≡ n → take n (xs ++ ys) ≡ xs
front n xs ys e = take-append-le n xs ys (omega arith) ∙ take_all n xs (omega arith)

pub back : {X : Type 0} (n : ℕ) (xs ys : List X) → length xs ≡ n → drop n (xs ++ ys) ≡ ys
back n xs ys e = drop-append-le n xs ys (omega arith) ∙ ap (λ zs. zs ++ ys) (drop_all n xs (omega arith))

-- what holds of two lists one after the other holds of each of them
pub all_left : {X : Type 0} (P : X → Type 0) (xs ys : List X) → All P (xs ++ ys) → All P xs
all_left P [] ys all = All-nil P
all_left P (x ∷ xs) ys all = All-cons P x xs (All-head P x (xs ++ ys) all) (all_left P xs ys (All-tail P x (xs ++ ys) all))

pub all_right : {X : Type 0} (P : X → Type 0) (xs ys : List X) → All P (xs ++ ys) → All P ys
all_right P [] ys all = all
all_right P (x ∷ xs) ys all = all_right P xs ys (All-tail P x (xs ++ ys) all)

-- of a range none is counted where nothing counts
pub none_counted : (a n : ℕ) → count_by (λ (i : ℕ). false) (range_with_len a n) ≡ 0
none_counted a zero = refl
none_counted a (suc n) = sum_by-cons (λ (i : ℕ). 0) a (range_with_len (a + 1) n) ∙ omega (arith, none_counted (a + 1) n)

-- what is found at a place is there
pub found_at : {X : Type 0} (p : X → Bool) (xs : List X) (place : ℕ) (d : X) → position p xs ≡ Some place → (place < length xs) × (p (slice_index_or xs place d) ≡ true)
found_at p xs place d is = elim (cases_lt (position_or_len p xs) (length xs)) [
  | inl low ↦ (
      let at : place ≡ position_or_len p xs = some_of place (position_or_len p xs) (sym is ∙ ap (λ b. cond b (Some (position_or_len p xs)) None) (lt-ltb (position_or_len p xs) (length xs) low)) in
      (subst (λ n. n < length xs) (sym at) low, subst (λ n. p (slice_index_or xs n d) ≡ true) (sym at) (passes_at_first p xs d low)))
  | inr past ↦ absurd (not_none place (sym is ∙ ap (λ b. cond b (Some (position_or_len p xs)) None) (le-ltb (position_or_len p xs) (length xs) past)))
]
  where
    some_of : (a b : ℕ) → Some a ≡ Some b → a ≡ b
    some_of a b e = cc

    not_none : (a : ℕ) → Some a ≡ None → ⊥
    not_none a e = cc

-- the first place that passes is found
pub finds : {X : Type 0} (p : X → Bool) (xs : List X) (place : ℕ) (d : X) → place < length xs → ((k : ℕ) → k < place → p (slice_index_or xs k d) ≡ false) → p (slice_index_or xs place d) ≡ true
    → position p xs ≡ Some place
finds p xs place d low before here =
    let at : position_or_len p xs ≡ place = position_or_len_is p xs place d (omega arith) before (λ h. here) in
    ap (λ n. cond (nat_lt n (length xs)) (Some n) None) at ∙ ap (λ b. cond b (Some place) None) (lt-ltb place (length xs) low)
