-- The bits of a number: how many they are, which is which, and that lists of bits and numbers say the same.
use Rattle.std.proofs.Common.{◌≡◌, ℕ, zero, suc, ◌+◌, ◌-◌, ◌*◌, ◌/◌, ◌%◌, ◌^◌, ◌<◌, ◌≤◌, min, max, Bool, true, false, not, ◌&&◌, ◌||◌, eqb, List, [], ◌∷◌, ◌++◌, length, take, get_or, bit_and, bit_or, bit_xor, refl, sym, ap, ap₂, ◌∙◌, arith, length-append, mod-eq_of_lt, one-add, add-one, mul_assoc, pow-suc}
use Rattle.std.specs.Int.{bit_at}
use Rattle.std.proofs.Math.Pow.{pow_mono}
use Rattle.std.proofs.lemmas.List.{take_more, length-take}
use Rattle.std.proofs.lemmas.Nat.{mod-pow-add, shr_split, div-mul-add, mod_low}
use Rattle.std.proofs.lemmas.Nat.Bits.{bit_at-zero, bit_at_lowest, bit_at-suc, bit_at_and, bit_at_or, bit_at_xor, bit_at-lt, bit_at_cat_low, bit_at_cat_high}
use Rattle.tsc_bits.specs.Bits.{same, weight_of, bit_worth, bits_of, binary}

-- ---- one bit

-- a bit that is a number below 2, tested for 1
weight_of-test : (b : ℕ) → b < 2 → weight_of (eqb b 1) ≡ b
weight_of-test zero h = refl
weight_of-test (suc zero) h = refl
weight_of-test (suc (suc b)) h = omega arith

test-weight_of : (b : Bool) → eqb (weight_of b) 1 ≡ b
test-weight_of true = refl
test-weight_of false = refl

pub weight_of-lt : (b : Bool) → weight_of b < 2
weight_of-lt true = omega arith
weight_of-lt false = omega arith

pub weight_of-bit_worth : (k x : ℕ) → weight_of (bit_worth k x) ≡ bit_at x k
weight_of-bit_worth k x = weight_of-test (bit_at x k) (bit_at-lt x k)

test-min : (a b : Bool) → eqb (min (weight_of a) (weight_of b)) 1 ≡ (a && b)
test-min true true = refl
test-min true false = refl
test-min false true = refl
test-min false false = refl

test-max : (a b : Bool) → eqb (max (weight_of a) (weight_of b)) 1 ≡ (a || b)
test-max true true = refl
test-max true false = refl
test-max false true = refl
test-max false false = refl

test-odd : (a b : Bool) → eqb ((weight_of a + weight_of b) % 2) 1 ≡ not (same a b)
test-odd true true = refl
test-odd true false = refl
test-odd false true = refl
test-odd false false = refl

pub bit_worth-and : (k a b : ℕ) → bit_worth k (bit_and a b) ≡ (bit_worth k a && bit_worth k b)
bit_worth-and k a b =
    ap (λ w. eqb w 1) (bit_at_and a b k ∙ ap₂ min (sym (weight_of-bit_worth k a)) (sym (weight_of-bit_worth k b)))
    ∙ test-min (bit_worth k a) (bit_worth k b)

pub bit_worth-or : (k a b : ℕ) → bit_worth k (bit_or a b) ≡ (bit_worth k a || bit_worth k b)
bit_worth-or k a b =
    ap (λ w. eqb w 1) (bit_at_or a b k ∙ ap₂ max (sym (weight_of-bit_worth k a)) (sym (weight_of-bit_worth k b)))
    ∙ test-max (bit_worth k a) (bit_worth k b)

pub bit_worth-xor : (k a b : ℕ) → bit_worth k (bit_xor a b) ≡ not (same (bit_worth k a) (bit_worth k b))
bit_worth-xor k a b =
    ap (λ w. eqb w 1)
    (bit_at_xor a b k ∙ ap₂ (λ v w. (v + w) % 2) (sym (weight_of-bit_worth k a)) (sym (weight_of-bit_worth k b)))
    ∙ test-odd (bit_worth k a) (bit_worth k b)

-- the bits of a number that is made longer by one bit at its end
pub bit_worth-last : (x : ℕ) (b : Bool) → bit_worth 0 (x * 2 + weight_of b) ≡ b
bit_worth-last x b = ap (λ w. eqb w 1) (bit_at_lowest (x * 2 + weight_of b) ∙ last) ∙ test-weight_of b
  where
    last : (x * 2 + weight_of b) % 2 ≡ weight_of b
    last = let low : weight_of b < 2 = weight_of-lt b in omega arith

pub bit_worth-suc : (k x : ℕ) (b : Bool) → bit_worth (suc k) (x * 2 + weight_of b) ≡ bit_worth k x
bit_worth-suc k x b =
    ap (λ w. eqb w 1)
    (bit_at-suc (x * 2 + weight_of b) k ∙ ap (λ w. bit_at w k) (div-mul-add x 2 (weight_of b) (weight_of-lt b)))

-- a bit below 2 ^ n does not see what stands from there on
pub bit_worth-mod : (n k x : ℕ) → k < n → bit_worth k (x % 2 ^ n) ≡ bit_worth k x
bit_worth-mod n k x h =
    ap (λ w. eqb w 1)
    (sym (bit_at_cat_low (x / 2 ^ n) n (x % 2 ^ n) k h) ∙ ap (λ w. bit_at w k) (shr_split x n))

-- ---- the list of bits

pub length-bits_of : (n x : ℕ) → length (bits_of n x) ≡ n
length-bits_of zero x = refl
length-bits_of (suc n) x = ap suc (length-bits_of n x)

-- the bit of a pin, the first pin most significant
pub get_or-bits_of : (n x pin : ℕ) → pin < n → get_or (bits_of n x) pin false ≡ bit_worth (n - 1 - pin) x
get_or-bits_of zero x pin h = absurd (omega arith)
get_or-bits_of (suc n) x zero h = ap (λ k. bit_worth k x) (omega arith)
get_or-bits_of (suc n) x (suc pin) h =
    get_or-bits_of n x pin (omega arith) ∙ ap (λ k. bit_worth k x) (omega arith)

bits_of-mod_within : (n k x : ℕ) → n ≤ k → bits_of n (x % 2 ^ k) ≡ bits_of n x
bits_of-mod_within zero k x h = refl
bits_of-mod_within (suc n) k x h =
    ap₂ (λ b bits. b ∷ bits) (bit_worth-mod k n x (omega arith)) (bits_of-mod_within n k x (omega arith))

-- the last n bits do not see what stands from 2 ^ n on
pub bits_of-mod : (n x : ℕ) → bits_of n (x % 2 ^ n) ≡ bits_of n x
bits_of-mod n x = bits_of-mod_within n n x (omega arith)

-- a number that is built bit by bit
pub bits_of-last : (n x : ℕ) (b : Bool) → bits_of (suc n) (x * 2 + weight_of b) ≡ bits_of n x ++ b ∷ []
bits_of-last zero x b = ap (λ c. c ∷ []) (bit_worth-last x b)
bits_of-last (suc n) x b = ap₂ (λ c bits. c ∷ bits) (bit_worth-suc n x b) (bits_of-last n x b)

-- ---- numbers and lists of bits

-- one more bit in front
pub mod-pow-suc : (n x : ℕ) → x % 2 ^ suc n ≡ weight_of (bit_worth n x) * 2 ^ n + x % 2 ^ n
mod-pow-suc n x =
    ap (λ k. x % 2 ^ k) (sym (one-add n))
    ∙ (mod-pow-add x 1 n ∙ ap (λ w. w * 2 ^ n + x % 2 ^ n) (sym (weight_of-bit_worth n x)))

pub binary-bits_of_mod : (n x : ℕ) → binary (bits_of n x) ≡ x % 2 ^ n
binary-bits_of_mod zero x = omega arith
binary-bits_of_mod (suc n) x =
    ap₂ (λ k rest. weight_of (bit_worth n x) * 2 ^ k + rest) (length-bits_of n x) (binary-bits_of_mod n x)
    ∙ sym (mod-pow-suc n x)

pub binary-bits_of : (n x : ℕ) → x < 2 ^ n → binary (bits_of n x) ≡ x
binary-bits_of n x h = binary-bits_of_mod n x ∙ mod-eq_of_lt h

front-lt : (b : Bool) (p rest : ℕ) → rest < p → weight_of b * p + rest < p * 2
front-lt true p rest h = omega arith
front-lt false p rest h = omega arith

pub binary-lt : (bits : List Bool) → binary bits < 2 ^ length bits
binary-lt [] = omega arith
binary-lt (b ∷ bits) =
    let h : weight_of b * 2 ^ length bits + binary bits < 2 ^ length bits * 2 = front-lt b (2 ^ length bits) (binary bits) (binary-lt bits) in
    let e : 2 ^ suc (length bits) ≡ 2 ^ length bits * 2 = pow-suc 2 (length bits) in
    rw e h

no_more : (n : ℕ) → n - n ≡ 0
no_more n = omega arith

-- the first of n + 1 bits
pub bit_worth-front : (b : Bool) (n rest : ℕ) → rest < 2 ^ n → bit_worth n (weight_of b * 2 ^ n + rest) ≡ b
bit_worth-front b n rest h =
    ap (λ w. eqb w 1)
    (bit_at_cat_high (weight_of b) n rest n h (omega arith)
    ∙ (ap (λ k. bit_at (weight_of b) k) (no_more n)
    ∙ (bit_at_lowest (weight_of b) ∙ mod-eq_of_lt (weight_of-lt b))))
    ∙ test-weight_of b

pub bits_of-binary : (bits : List Bool) → bits_of (length bits) (binary bits) ≡ bits
bits_of-binary [] = refl
bits_of-binary (b ∷ bits) =
    ap₂ (λ c rest. c ∷ rest)
    (bit_worth-front b (length bits) (binary bits) (binary-lt bits))
    (sym (bits_of-mod (length bits) (weight_of b * 2 ^ length bits + binary bits))
    ∙ (ap (λ x. bits_of (length bits) x) (mod_low (weight_of b) (length bits) (binary bits) (binary-lt bits))
    ∙ bits_of-binary bits))

-- numbers of n bits with the same bits are equal
pub same_from_bits_of : (n x y : ℕ) → x < 2 ^ n → y < 2 ^ n → bits_of n x ≡ bits_of n y → x ≡ y
same_from_bits_of n x y below_x below_y e = sym (binary-bits_of n x below_x) ∙ (ap binary e ∙ binary-bits_of n y below_y)

regroup : (w p rest last : ℕ) → w * (p * 2) + (rest * 2 + last) ≡ (w * p + rest) * 2 + last
regroup w p rest last = rw (← mul_assoc w p 2) (omega arith)

-- one more bit at the end
pub binary-append : (bits : List Bool) (b : Bool) → binary (bits ++ b ∷ []) ≡ binary bits * 2 + weight_of b
binary-append [] b = omega arith
binary-append (c ∷ bits) b =
    let e : length (bits ++ b ∷ []) ≡ length bits + 1 = length-append bits (b ∷ []) in
    ap₂ (λ k rest. weight_of c * 2 ^ k + rest) (e ∙ add-one (length bits)) (binary-append bits b)
    ∙ (ap (λ p. weight_of c * p + (binary bits * 2 + weight_of b)) (pow-suc 2 (length bits))
    ∙ regroup (weight_of c) (2 ^ length bits) (binary bits) (weight_of b))

-- the number of the first bits, with one bit more
pub number_more : (xs : List Bool) (i : ℕ) (d : Bool) → i < length xs → binary (take (i + 1) xs) ≡ binary (take i xs) * 2 + weight_of (get_or xs i d)
number_more xs i d inside = ap binary (take_more xs i d inside) ∙ binary-append (take i xs) (get_or xs i d)

-- the number of fewer than 64 bits, with room for one more
pub number_room : (xs : List Bool) (i : ℕ) → i < 64 → binary (take i xs) < 2 ^ 63
number_room xs i below =
    let short : length (take i xs) ≤ 63 = omega (arith, length-take i xs) in
    let fits : binary (take i xs) < 2 ^ length (take i xs) = binary-lt (take i xs) in
    let most : 2 ^ length (take i xs) ≤ 2 ^ 63 = pow_mono short in
    omega arith

-- the bits of 0
pub bit_worth-zero : (k : ℕ) → bit_worth k 0 ≡ false
bit_worth-zero k = ap (λ w. eqb w 1) (bit_at-zero k)
