-- First-fit groups hold each output once, and no two outputs of one group share a node.
use Rattle.std.proofs.Common.{◌≡◌, ℕ, zero, suc, ◌+◌, ◌<◌, ◌≤◌, ◌==◌, nat_lt, cond, inl, inr, Bool, true, false, ◌&&◌, ◌||◌, if◌then◌else◌, List, [], ◌∷◌, ◌++◌, length, slice_index, All, count_by, IsTrue, refl, sym, ◌∙◌, ap, ap₂, arith, length-append}
use Rattle.std.specs.List.{list_any}
use Rattle.std.proofs.lemmas.Bool.{cases_lt}
use Rattle.std.proofs.lemmas.Grind.{common_steps}
use Rattle.std.proofs.lemmas.Bool.Decides.{nat_tests}
use Rattle.std.proofs.lemmas.List.Sums.{sum_by-append}
use Rattle.std.proofs.lemmas.List.{get_or_append_left, get_or-append-add}
use Rattle.std.proofs.lemmas.List.Elements.{All-nil, All-cons, All-head, All-tail, All-append}
use Rattle.fault_secure.specs.Circuit.{bit}
use Rattle.fault_secure.specs.CodePlan.{concat_places}
use Rattle.parity_code.specs.FirstFit.{joined, first_fit}
use Rattle.tsc_bits.specs.Counting.{some_both}
use Rattle.tsc_bits.proofs.Lists.{all_left, all_right}

-- a place is marked in both lists: the cones meet
pub overlap_at : (xs ys : List Bool) (q : ℕ) → IsTrue (bit xs q) → IsTrue (bit ys q) → some_both xs ys ≡ true
overlap_at [] ys q x y = absurd (no x)
  where
    no : IsTrue false → ⊥
    no e = cc
overlap_at (x ∷ xs) [] q a b = absurd (no b)
  where
    no : IsTrue false → ⊥
    no e = cc
overlap_at (x ∷ xs) (y ∷ ys) zero a b = both x y a b
  where
    both : (x y : Bool) → IsTrue x → IsTrue y → ((x && y) || some_both xs ys) ≡ true
    both true true a b = refl
    both true false a b = cc
    both false y a b = cc
overlap_at (x ∷ xs) (y ∷ ys) (suc q) a b = later x y (overlap_at xs ys q a b)
  where
    later : (x y : Bool) → some_both xs ys ≡ true → ((x && y) || some_both xs ys) ≡ true
    later true true e = refl
    later true false e = e
    later false y e = e

-- members that don't share, one with those before it
unfoldable pub Apart : (ℕ → ℕ → Bool) → List ℕ → Type 0
Apart shares group = (a b : ℕ) → a < b → b < length group → shares (slice_index group b) (slice_index group a) ≡ false

-- no member shares where the test over all says so
none_shares : (test : ℕ → Bool) (group : List ℕ) (a : ℕ) → list_any test group ≡ false → a < length group → test (slice_index group a) ≡ false
none_shares test [] a none within = absurd (omega arith)
none_shares test (m ∷ group) zero none within = front (test m) none
  where
    front : (b : Bool) → (b || list_any test group) ≡ false → b ≡ false
    front true e = e
    front false e = refl
none_shares test (m ∷ group) (suc a) none within = none_shares test group a (behind (test m) none) (omega arith)
  where
    behind : (b : Bool) → (b || list_any test group) ≡ false → list_any test group ≡ false
    behind true e = cc
    behind false e = e

apart-push : (shares : ℕ → ℕ → Bool) (group : List ℕ) (o : ℕ) → Apart shares group → list_any (shares o) group ≡ false → Apart shares (group ++ o ∷ [])
unfolding Apart
apart-push shares group o apart none a b low high =
    let count : length (group ++ o ∷ []) ≡ length group + 1 = length-append group (o ∷ []) in
    let a_in : a < length group = omega arith in
    let at_a : slice_index (group ++ o ∷ []) a ≡ slice_index group a = get_or_append_left group (o ∷ []) 0 a a_in in
    elim (cases_lt b (length group)) [
      | inl b_in ↦ (
          let at_b : slice_index (group ++ o ∷ []) b ≡ slice_index group b = get_or_append_left group (o ∷ []) 0 b b_in in
          ap₂ shares at_b at_a ∙ apart a b low b_in)
      | inr end ↦ (
          let is : b ≡ length group + 0 = omega arith in
          let at_b : slice_index (group ++ o ∷ []) b ≡ o = ap (slice_index (group ++ o ∷ [])) is ∙ get_or-append-add group (o ∷ []) 0 0 in
          ap₂ shares at_b at_a ∙ none_shares (shares o) group a none a_in)
    ]

one_apart : (shares : ℕ → ℕ → Bool) (o : ℕ) → Apart shares (o ∷ [])
unfolding Apart
one_apart shares o a b low high = absurd (omega arith)

joined-apart : (shares : ℕ → ℕ → Bool) (groups : List (List ℕ)) (o : ℕ) → All (Apart shares) groups → All (Apart shares) (joined shares groups o)
joined-apart shares [] o all = All-cons (Apart shares) (o ∷ []) [] (one_apart shares o) (All-nil (Apart shares))
joined-apart shares (group ∷ groups) o all = choose (joined-apart shares groups o tail) (list_any (shares o) group) refl
  where
    head : Apart shares group
    head = All-head (Apart shares) group groups all

    tail : All (Apart shares) groups
    tail = All-tail (Apart shares) group groups all

    choose : All (Apart shares) (joined shares groups o) → (b : Bool) → list_any (shares o) group ≡ b
        → All (Apart shares) (if b then group ∷ joined shares groups o else (group ++ o ∷ []) ∷ groups)
    choose deeper true is = All-cons (Apart shares) group (joined shares groups o) head deeper
    choose deeper false is = All-cons (Apart shares) (group ++ o ∷ []) groups (apart-push shares group o head is) tail

pub first_fit-apart : (shares : ℕ → ℕ → Bool) (outputs : ℕ) → All (Apart shares) (first_fit shares outputs)
first_fit-apart shares zero = All-nil (Apart shares)
first_fit-apart shares (suc outputs) = joined-apart shares (first_fit shares outputs) outputs (first_fit-apart shares outputs)

joined-filled : (shares : ℕ → ℕ → Bool) (groups : List (List ℕ)) (o : ℕ) → All (λ group. 0 < length group) groups → All (λ group. 0 < length group) (joined shares groups o)
joined-filled shares [] o all = All-cons (λ group. 0 < length group) (o ∷ []) [] (omega arith) (All-nil (λ group. 0 < length group))
joined-filled shares (group ∷ groups) o all = choose (joined-filled shares groups o tail) (list_any (shares o) group)
  where
    head : 0 < length group
    head = All-head (λ group. 0 < length group) group groups all

    tail : All (λ group. 0 < length group) groups
    tail = All-tail (λ group. 0 < length group) group groups all

    more : 0 < length (group ++ o ∷ [])
    more = let e : length (group ++ o ∷ []) ≡ length group + 1 = length-append group (o ∷ []) in omega arith

    choose : All (λ group. 0 < length group) (joined shares groups o) → (b : Bool)
        → All (λ group. 0 < length group) (if b then group ∷ joined shares groups o else (group ++ o ∷ []) ∷ groups)
    choose deeper true = All-cons (λ group. 0 < length group) group (joined shares groups o) head deeper
    choose deeper false = All-cons (λ group. 0 < length group) (group ++ o ∷ []) groups more tail

-- no group of the first fit is empty
pub first_fit-filled : (shares : ℕ → ℕ → Bool) (outputs : ℕ) → All (λ group. 0 < length group) (first_fit shares outputs)
first_fit-filled shares zero = All-nil (λ group. 0 < length group)
first_fit-filled shares (suc outputs) = joined-filled shares (first_fit shares outputs) outputs (first_fit-filled shares outputs)

-- counting over lists that are joined
count_by-append : (test : ℕ → Bool) (xs ys : List ℕ) → count_by test (xs ++ ys) ≡ count_by test xs + count_by test ys
count_by-append test xs ys = sum_by-append (λ x. cond (test x) 1 0) xs ys

-- an output that joins stands once more in the groups together
joined-count : (shares : ℕ → ℕ → Bool) (test : ℕ → Bool) (groups : List (List ℕ)) (o : ℕ)
    → count_by test (concat_places (joined shares groups o)) ≡ count_by test (o ∷ []) + count_by test (concat_places groups)
joined-count shares test [] o = let e : count_by test ((o ∷ []) ++ []) ≡ count_by test (o ∷ []) + count_by test [] = count_by-append test (o ∷ []) [] in e
joined-count shares test (group ∷ groups) o = choose (joined-count shares test groups o) (list_any (shares o) group)
  where
    one : ℕ
    one = count_by test (o ∷ [])

    choose : count_by test (concat_places (joined shares groups o)) ≡ count_by test (o ∷ []) + count_by test (concat_places groups) → (b : Bool)
        → count_by test (concat_places (if b then group ∷ joined shares groups o else (group ++ o ∷ []) ∷ groups))
        ≡ count_by test (o ∷ []) + count_by test (group ++ concat_places groups)
    choose deeper true =
        let a : count_by test (group ++ concat_places (joined shares groups o)) ≡ count_by test group + count_by test (concat_places (joined shares groups o))
        = count_by-append test group (concat_places (joined shares groups o)) in
        let b : count_by test (group ++ concat_places groups) ≡ count_by test group + count_by test (concat_places groups) = count_by-append test group (concat_places groups) in
        omega arith
    choose deeper false =
        let a : count_by test ((group ++ o ∷ []) ++ concat_places groups) ≡ count_by test (group ++ o ∷ []) + count_by test (concat_places groups)
        = count_by-append test (group ++ o ∷ []) (concat_places groups) in
        let b : count_by test (group ++ o ∷ []) ≡ count_by test group + count_by test (o ∷ []) = count_by-append test group (o ∷ []) in
        let c : count_by test (group ++ concat_places groups) ≡ count_by test group + count_by test (concat_places groups) = count_by-append test group (concat_places groups) in
        omega arith

-- an output below stands once, and no other
pub first_fit-count : (shares : ℕ → ℕ → Bool) (place outputs : ℕ)
    → count_by (λ other. place == other) (concat_places (first_fit shares outputs)) ≡ (if nat_lt place outputs then 1 else 0)
first_fit-count shares place zero = let e : nat_lt place 0 ≡ false = grind (arith, nat_tests) in ap (λ b. if b then 1 else 0) (sym e)
first_fit-count shares place (suc outputs) =
    let before : count_by (λ other. place == other) (concat_places (first_fit shares outputs)) ≡ (if nat_lt place outputs then 1 else 0) = first_fit-count shares place outputs in
    let step : count_by (λ other. place == other) (concat_places (joined shares (first_fit shares outputs) outputs))
    ≡ count_by (λ other. place == other) (outputs ∷ []) + count_by (λ other. place == other) (concat_places (first_fit shares outputs))
    = joined-count shares (λ other. place == other) (first_fit shares outputs) outputs in
    step ∙ ap (λ n. count_by (λ other. place == other) (outputs ∷ []) + n) before ∙ cases place outputs
  where
    cases : (place outputs : ℕ) → (0 + cond (place == outputs) 1 0) + (if nat_lt place outputs then 1 else 0) ≡ (if nat_lt place (suc outputs) then 1 else 0)
    cases place outputs = grind (arith, nat_tests, common_steps)

-- the outputs of the groups are outputs
joined-within : (P : ℕ → Type 0) (shares : ℕ → ℕ → Bool) (groups : List (List ℕ)) (o : ℕ) → All P (concat_places groups) → P o → All P (concat_places (joined shares groups o))
joined-within P shares [] o all here = All-cons P o [] here (All-nil P)
joined-within P shares (group ∷ groups) o all here = choose (joined-within P shares groups o tail here) (list_any (shares o) group)
  where
    head : All P group
    head = all_left P group (concat_places groups) all

    tail : All P (concat_places groups)
    tail = all_right P group (concat_places groups) all

    choose : All P (concat_places (joined shares groups o)) → (b : Bool) → All P (concat_places (if b then group ∷ joined shares groups o else (group ++ o ∷ []) ∷ groups))
    choose deeper true = All-append P group (concat_places (joined shares groups o)) head deeper
    choose deeper false = All-append P (group ++ o ∷ []) (concat_places groups) (All-append P group (o ∷ []) head (All-cons P o [] here (All-nil P))) tail

-- the first fit of so many outputs has only places below their number, and below each larger one
pub first_fit-within : (shares : ℕ → ℕ → Bool) (outputs more : ℕ) → outputs ≤ more → All (λ place. place < more) (concat_places (first_fit shares outputs))
first_fit-within shares zero more up = All-nil (λ place. place < more)
first_fit-within shares (suc outputs) more up =
    joined-within (λ place. place < more) shares (first_fit shares outputs) outputs (first_fit-within shares outputs more (omega arith)) (omega arith)
