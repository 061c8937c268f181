-- How many numbers of a list are below a bound.
use Rattle.std.specs.Prelude.{◌≡◌, ℕ, zero, suc, ◌+◌, ◌<◌, ◌≤◌, ◌==◌, nat_lt, Bool, true, false, cond, List, [], ◌∷◌, length, count_by, All, refl}
use Rattle.std.proofs.Common.{sym, ap, ◌∙◌, arith, add-one, lt-ltb, le-ltb}
use Rattle.std.proofs.lemmas.Bool.Decides.{nat_tests}
use Rattle.std.proofs.lemmas.List.Sums.{sum_by-cons}
use Rattle.std.proofs.lemmas.List.Elements.{All-head, All-tail}

one_more : (n x : ℕ) → cond (nat_lt x (n + 1)) 1 0 ≡ cond (nat_lt x n) 1 0 + cond (n == x) 1 0
one_more n x = grind (arith, nat_tests)

-- how many numbers of a list are below n + 1
more_below : (n : ℕ) (xs : List ℕ) → count_by (λ x. nat_lt x (n + 1)) xs ≡ count_by (λ x. nat_lt x n) xs + count_by (λ x. n == x) xs
more_below n [] = refl
more_below n (x ∷ xs) =
    let all : count_by (λ k. nat_lt k (n + 1)) (x ∷ xs) ≡ cond (nat_lt x (n + 1)) 1 0 + count_by (λ k. nat_lt k (n + 1)) xs = sum_by-cons (λ k. cond (nat_lt k (n + 1)) 1 0) x xs in
    let below : count_by (λ k. nat_lt k n) (x ∷ xs) ≡ cond (nat_lt x n) 1 0 + count_by (λ k. nat_lt k n) xs = sum_by-cons (λ k. cond (nat_lt k n) 1 0) x xs in
    let here : count_by (λ k. n == k) (x ∷ xs) ≡ cond (n == x) 1 0 + count_by (λ k. n == k) xs = sum_by-cons (λ k. cond (n == k) 1 0) x xs in
    let first = one_more n x in
    let rest = more_below n xs in
    omega arith

cond_one : (b : Bool) → b ≡ true → cond {A = ℕ} b 1 0 ≡ 1
cond_one b h = ap (λ c. cond {A = ℕ} c 1 0) h

cond_none : (b : Bool) → b ≡ false → cond {A = ℕ} b 1 0 ≡ 0
cond_none b h = ap (λ c. cond {A = ℕ} c 1 0) h

-- where all are below it, as many as there are
pub all_below : (n : ℕ) (xs : List ℕ) → All (λ x. x < n) xs → count_by (λ x. nat_lt x n) xs ≡ length xs
all_below n [] h = refl
all_below n (x ∷ xs) h =
    let count : count_by (λ k. nat_lt k n) (x ∷ xs) ≡ cond (nat_lt x n) 1 0 + count_by (λ k. nat_lt k n) xs = sum_by-cons (λ k. cond (nat_lt k n) 1 0) x xs in
    let rest = all_below n xs (All-tail (λ k. k < n) x xs h) in
    omega (arith, cond_one (nat_lt x n) (lt-ltb x n (All-head (λ k. k < n) x xs h)))

-- below 0 there is none
pub none_below : (xs : List ℕ) → count_by (λ x. nat_lt x 0) xs ≡ 0
none_below [] = refl
none_below (x ∷ xs) =
    let count : count_by (λ k. nat_lt k 0) (x ∷ xs) ≡ cond (nat_lt x 0) 1 0 + count_by (λ k. nat_lt k 0) xs = sum_by-cons (λ k. cond (nat_lt k 0) 1 0) x xs in
    let rest = none_below xs in
    omega (arith, cond_none (nat_lt x 0) (le-ltb x 0 (omega arith)))

-- a list in which each number below n stands once has at most n numbers below n
pub few_below : (n : ℕ) (xs : List ℕ) → ((p : ℕ) → p < n → count_by (λ other. p == other) xs ≡ 1) → count_by (λ x. nat_lt x n) xs ≤ n
few_below zero xs once = omega (arith, none_below xs)
few_below (suc n) xs once =
    let more : count_by (λ x. nat_lt x (suc n)) xs ≡ count_by (λ x. nat_lt x n) xs + count_by (λ x. n == x) xs
    = ap (λ k. count_by (λ x. nat_lt x k) xs) (sym (add-one n)) ∙ more_below n xs in
    let here = once n (omega arith) in
    let rest = few_below n xs (λ p below. once p (omega arith)) in
    omega arith
