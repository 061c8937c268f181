-- Lists of bits in the order of the numbers that they stand for, the first bit most significant.
use Rattle.std.proofs.Common.{◌≡◌, ℕ, zero, suc, ◌^◌, ◌<◌, ◌≤◌, Bool, true, false, List, [], ◌∷◌, length, sym, ap, subst, arith}
use Rattle.std.proofs.lemmas.Bool.{false≢true}
use Rattle.tsc_bits.specs.Bits.{binary}
use Rattle.tsc_bits.proofs.Bits.{binary-lt}
use Rattle.fault_secure.specs.Circuit.{bit}
use Rattle.diagrams.specs.Least.{IsUpTo}

pub UpTo-trans : (x y z : List Bool) → IsUpTo x y → IsUpTo y z → IsUpTo x z
UpTo-trans [] y z h k = tt
UpTo-trans (a ∷ x) [] z h k = absurd h
UpTo-trans (a ∷ x) (b ∷ y) [] h k = absurd k
UpTo-trans (false ∷ x) (false ∷ y) (false ∷ z) h k = UpTo-trans x y z h k
UpTo-trans (false ∷ x) (b ∷ y) (true ∷ z) h k = tt
UpTo-trans (false ∷ x) (true ∷ y) (false ∷ z) h k = absurd k
UpTo-trans (true ∷ x) (false ∷ y) (c ∷ z) h k = absurd h
UpTo-trans (true ∷ x) (true ∷ y) (false ∷ z) h k = absurd k
UpTo-trans (true ∷ x) (true ∷ y) (true ∷ z) h k = UpTo-trans x y z h k

-- where the first bit that differs is 0 in the one and 1 in the other
pub before_at : (a b : List Bool) (i : ℕ) → i < length a → i < length b → ((k : ℕ) → k < i → bit a k ≡ bit b k) → bit a i ≡ false → bit b i ≡ true → IsUpTo a b × (IsUpTo b a → ⊥)
before_at [] b i in_a in_b same low high = absurd (omega arith)
before_at (x ∷ a) [] i in_a in_b same low high = absurd (omega arith)
before_at (false ∷ a) (true ∷ b) zero in_a in_b same low high = (tt, λ h. h)
before_at (true ∷ a) (y ∷ b) zero in_a in_b same low high = absurd (false≢true (sym low))
before_at (false ∷ a) (false ∷ b) zero in_a in_b same low high = absurd (false≢true high)
before_at (false ∷ a) (false ∷ b) (suc i) in_a in_b same low high = before_at a b i (omega arith) (omega arith) (λ k below. same (suc k) (omega arith)) low high
before_at (true ∷ a) (true ∷ b) (suc i) in_a in_b same low high = before_at a b i (omega arith) (omega arith) (λ k below. same (suc k) (omega arith)) low high
before_at (false ∷ a) (true ∷ b) (suc i) in_a in_b same low high = absurd (false≢true (same 0 (omega arith)))
before_at (true ∷ a) (false ∷ b) (suc i) in_a in_b same low high = absurd (false≢true (sym (same 0 (omega arith))))

-- where no bit differs
pub alike : (a b : List Bool) → length a ≡ length b → ((k : ℕ) → k < length a → bit a k ≡ bit b k) → IsUpTo b a
alike [] [] sized same = tt
alike [] (y ∷ b) sized same = absurd (omega arith)
alike (x ∷ a) [] sized same = tt
alike (false ∷ a) (false ∷ b) sized same = alike a b (omega arith) (λ k below. same (suc k) (omega arith))
alike (true ∷ a) (true ∷ b) sized same = alike a b (omega arith) (λ k below. same (suc k) (omega arith))
alike (false ∷ a) (true ∷ b) sized same = absurd (false≢true (same 0 (omega arith)))
alike (true ∷ a) (false ∷ b) sized same = tt

-- the order of their numbers
pub UpTo-binary : (x y : List Bool) → length x ≡ length y → IsUpTo x y → binary x ≤ binary y
UpTo-binary [] [] sized h = omega arith
UpTo-binary [] (b ∷ y) sized h = absurd (omega arith)
UpTo-binary (a ∷ x) [] sized h = absurd (omega arith)
UpTo-binary (false ∷ x) (false ∷ y) sized h = let rest = UpTo-binary x y (omega arith) h in omega arith
UpTo-binary (false ∷ x) (true ∷ y) sized h =
    let same : length x ≡ length y = omega arith in
    let low : binary x < 2 ^ length y = subst (λ (n : ℕ). binary x < 2 ^ n) same (binary-lt x) in
    omega arith
UpTo-binary (true ∷ x) (false ∷ y) sized h = absurd h
UpTo-binary (true ∷ x) (true ∷ y) sized h =
    let same : length x ≡ length y = omega arith in
    let worth : 2 ^ length x ≡ 2 ^ length y = ap (λ (n : ℕ). 2 ^ n) same in
    let rest = UpTo-binary x y (omega arith) h in
    omega arith
