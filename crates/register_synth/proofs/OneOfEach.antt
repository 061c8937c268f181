-- A source has one list of kept registers, one of kept covers, and one list of groups.
use Rattle.std.proofs.Common.{◌≡◌, ℕ, zero, suc, ◌<◌, ◌≤◌, if◌then◌else◌, ◌||◌, Bool, true, false, List, [], ◌∷◌, ◌++◌, length, slice_index, slice_index_or, Contains, All, IsTrue, refl, sym, ap, ap₂, ◌∙◌, subst, arith}
use Rattle.std.specs.List.{list_any}
use Rattle.std.proofs.lemmas.Bool.{false≢true}
use Rattle.std.proofs.lemmas.Grind.{common_steps}
use Rattle.std.proofs.lemmas.List.Elements.{All-head, All-tail}
use Rattle.parity_code.specs.FirstFit.{joined, first_fit}
use Rattle.parity_code.proofs.GroupSteps.{members_within}
use Rattle.register_synth.specs.Kept.{AreThose, IsKeptRegister, IsKeptCover}
use Rattle.register_synth.specs.KeptLaws.{OneIsKept, OneGrouping}

-- ---- rising lists

Rises : List ℕ → Type 0
Rises xs = (i k : ℕ) → i < k → k < length xs → slice_index xs i < slice_index xs k

item : (xs : List ℕ) (k n : ℕ) → k < length xs → slice_index_or xs k n ≡ n → slice_index xs k ≡ n
item xs k n h e = grind (arith, common_steps)

first_least : (x : ℕ) (xs : List ℕ) → Rises (x ∷ xs) → (n : ℕ) → Contains xs n → x < n
unfolding Rises
first_least x xs rises n (k, h, e) =
    let up : x < slice_index xs k = rises 0 (suc k) (omega arith) (omega arith) in
    let is : slice_index xs k ≡ n = item xs k n h e in
    omega arith

least : (x : ℕ) (xs : List ℕ) → Rises (x ∷ xs) → (n : ℕ) → Contains (x ∷ xs) n → x ≤ n
least x xs rises n (zero, h, e) = omega (arith, e)
least x xs rises n (suc k, h, e) = let up = first_least x xs rises n (k, omega arith, e) in omega arith

tail_rises : (x : ℕ) (xs : List ℕ) → Rises (x ∷ xs) → Rises xs
unfolding Rises
tail_rises x xs rises i k low within = rises (suc i) (suc k) (omega arith) (omega arith)

in_tail : (y : ℕ) (ys : List ℕ) (n : ℕ) → y < n → Contains (y ∷ ys) n → Contains ys n
in_tail y ys n up (zero, h, e) = absurd (omega (arith, e))
in_tail y ys n up (suc k, h, e) = (k, omega arith, e)

in_whole : (x : ℕ) (xs : List ℕ) (n : ℕ) → Contains xs n → Contains (x ∷ xs) n
in_whole x xs n (k, h, e) = (suc k, omega arith, e)

in_none : (n : ℕ) → Contains [] n → ⊥
in_none n (k, h, e) = omega arith

first_in : (x : ℕ) (xs : List ℕ) → Contains (x ∷ xs) x
first_in x xs = (0, omega arith, refl)

-- two rising lists of the same numbers are one
rising_same : (xs ys : List ℕ) → Rises xs → Rises ys → ((n : ℕ) → Contains xs n → Contains ys n) → ((n : ℕ) → Contains ys n → Contains xs n) → xs ≡ ys
rising_same [] [] a b to from = refl
rising_same [] (y ∷ ys) a b to from = absurd (in_none y (from y (first_in y ys)))
rising_same (x ∷ xs) [] a b to from = absurd (in_none x (to x (first_in x xs)))
rising_same (x ∷ xs) (y ∷ ys) a b to from =
    let up : y ≤ x = least y ys b x (to x (first_in x xs)) in
    let down : x ≤ y = least x xs a y (from y (first_in y ys)) in
    let same : x ≡ y = omega arith in
    ap₂ ◌∷◌ same (rising_same xs ys (tail_rises x xs a) (tail_rises y ys b)
    (λ n has. in_tail y ys n (let above = first_least x xs a n has in omega arith) (to n (in_whole x xs n has)))
    (λ n has. in_tail x xs n (let above = first_least y ys b n has in omega arith) (from n (in_whole y ys n has))))

module _ (P : ℕ → Type 0) where
  holds : (xs : List ℕ) → AreThose P xs → (n : ℕ) → Contains xs n → P n
  holds xs are n (k, h, e) = subst P (item xs k n h e) (are.sound k h)

  rises : (xs : List ℕ) → AreThose P xs → Rises xs
  unfolding Rises
  rises xs are = are.rising

  those_same : (xs ys : List ℕ) → AreThose P xs → AreThose P ys → xs ≡ ys
  those_same xs ys a b = rising_same xs ys (rises xs a) (rises ys b) (λ n has. b.whole n (holds xs a n has)) (λ n has. a.whole n (holds ys b n has))

pub one_is_kept : OneIsKept
one_is_kept C registers covers others more a b = (
  those_same (IsKeptRegister C) registers others a.each_register b.each_register,
  those_same (IsKeptCover C) covers more a.each_cover b.each_cover,
)

-- ---- groups

any_agrees : (f g : ℕ → Bool) (group : List ℕ) (most : ℕ) → All (λ m. m < most) group → ((m : ℕ) → m < most → f m ≡ g m) → list_any f group ≡ list_any g group
any_agrees f g [] most within same = refl
any_agrees f g (m ∷ group) most within same =
    ap₂ (λ a b. a || b) (same m (All-head (λ m. m < most) m group within)) (any_agrees f g group most (All-tail (λ m. m < most) m group within) same)

joined_agrees : (f g : ℕ → ℕ → Bool) (groups : List (List ℕ)) (o most : ℕ) → All (All (λ m. m < most)) groups → ((m : ℕ) → m < most → f o m ≡ g o m) → joined f groups o ≡ joined g groups o
joined_agrees f g [] o most within same = refl
joined_agrees f g (group ∷ groups) o most within same =
    ap₂ (λ b rest. if b then group ∷ rest else (group ++ o ∷ []) ∷ groups)
    (any_agrees (f o) (g o) group most (All-head (All (λ m. m < most)) group groups within) same)
    (joined_agrees f g groups o most (All-tail (All (λ m. m < most)) group groups within) same)

fit_agrees : (f g : ℕ → ℕ → Bool) (outputs most : ℕ) → outputs ≤ most → ((a b : ℕ) → a < most → b < most → f a b ≡ g a b) → first_fit f outputs ≡ first_fit g outputs
fit_agrees f g zero most up same = refl
fit_agrees f g (suc outputs) most up same =
    joined_agrees f g (first_fit f outputs) outputs most (members_within f (first_fit f outputs) outputs most refl (omega arith)) (λ m h. same outputs m (omega arith) h)
    ∙ ap (λ groups. joined g groups outputs) (fit_agrees f g outputs most (omega arith) same)

iff_same : (a b : Bool) → (IsTrue a → IsTrue b) → (IsTrue b → IsTrue a) → a ≡ b
iff_same true true to from = refl
iff_same false false to from = refl
iff_same true false to from = absurd (false≢true (to refl))
iff_same false true to from = absurd (false≢true (from refl))

pub one_grouping : OneGrouping
one_grouping C groups others a b =
    a.fit
    ∙ fit_agrees a.shares b.shares (length C.outputs) (length C.outputs) (omega arith)
    (λ x y h k. iff_same (a.shares x y) (b.shares x y) (λ m. (b.exact x y h k).1 ((a.exact x y h k).0 m)) (λ m. (a.exact x y h k).1 ((b.exact x y h k).0 m)))
    ∙ sym b.fit
