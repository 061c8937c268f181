-- What is counted in lists of bits: ones, zeros, and counters, to which carries are added.
use Rattle.std.specs.Prelude.{◌≡◌, ℕ, suc, ◌+◌, ◌*◌, ◌%◌, ◌^◌, ◌<◌, ◌≤◌, ◌==◌, Bool, true, false, not, ◌&&◌, List, [], ◌∷◌, ◌++◌, reverse, length, drop, get_or, refl}
use Rattle.std.proofs.Common.{sym, ◌∙◌, ap, arith, ⊎_elim, add-one}
use Rattle.std.proofs.Math.Nat.{pow-succ'}
use Rattle.std.proofs.Math.Pow.{pow_mono}
use Rattle.std.proofs.lemmas.List.{append_assoc, drop_more, reverse-append}
use Rattle.std.proofs.lemmas.List.Sums.{sum_by-cons}
use Rattle.std.proofs.lemmas.Bool.{cases_eq, ne_eqb, eq-eqb}
use Rattle.tsc_bits.specs.Bits.{weight_of, bits_of, binary}
use Rattle.tsc_bits.specs.Counting.{differ, ones, zeros, counted, add_carry}
use Rattle.tsc_bits.proofs.Bits.{binary-append, bits_of-binary}

pub zeros-cons : (b : Bool) (bits : List Bool) → zeros (b ∷ bits) ≡ weight_of (not b) + zeros bits
zeros-cons true bits = sum_by-cons _ true bits
zeros-cons false bits = sum_by-cons _ false bits

pub ones-cons : (b : Bool) (bits : List Bool) → ones (b ∷ bits) ≡ weight_of b + ones bits
ones-cons true bits = sum_by-cons _ true bits
ones-cons false bits = sum_by-cons _ false bits

pub ones-zeros : (bits : List Bool) → ones bits + zeros bits ≡ length bits
ones-zeros [] = refl
ones-zeros (true ∷ bits) = omega (arith, ones-cons true bits, zeros-cons true bits, ones-zeros bits)
ones-zeros (false ∷ bits) = omega (arith, ones-cons false bits, zeros-cons false bits, ones-zeros bits)

pub zeros-push : (bits : List Bool) (b : Bool) → zeros (bits ++ b ∷ []) ≡ zeros bits + weight_of (not b)
zeros-push [] b = omega (arith, zeros-cons b [])
zeros-push (a ∷ bits) b = omega (arith, zeros-cons a (bits ++ b ∷ []), zeros-cons a bits, zeros-push bits b)

pub half_adder : (b c : Bool) → weight_of (differ b c) + 2 * weight_of (b && c) ≡ weight_of b + weight_of c
half_adder true true = refl
half_adder true false = refl
half_adder false true = refl
half_adder false false = refl

pub add_carry-longer : (carry : Bool) (bits : List Bool) → counted (add_carry true carry bits) ≡ counted bits + weight_of carry
add_carry-longer carry [] = omega arith
add_carry-longer carry (b ∷ bits) = omega (arith, add_carry-longer (b && carry) bits, half_adder b carry)

pub add_carry-kept : (carry : Bool) (bits : List Bool) → counted bits + weight_of carry < 2 ^ length bits → counted (add_carry false carry bits) ≡ counted bits + weight_of carry
add_carry-kept carry [] h = omega arith
add_carry-kept carry (b ∷ bits) h =
    let room : counted bits + weight_of (b && carry) < 2 ^ length bits = omega (arith, pow-succ' 2 (length bits), half_adder b carry) in
    omega (arith, add_carry-kept (b && carry) bits room, half_adder b carry)

pub length-add_carry : (longer carry : Bool) (bits : List Bool) → length (add_carry longer carry bits) ≡ length bits + weight_of longer
length-add_carry true carry [] = refl
length-add_carry false carry [] = refl
length-add_carry longer carry (b ∷ bits) = omega (arith, length-add_carry longer (b && carry) bits)

pub weight-le-one : (b : Bool) → weight_of b ≤ 1
weight-le-one true = omega arith
weight-le-one false = omega arith

-- a bit counted by a counter that gets longer where it is full
pub counted-more : (bits : List Bool) (b : Bool) (n number : ℕ) → counted bits ≡ n → n < number → number ≤ 2 ^ length bits
    → counted (add_carry (number == 2 ^ length bits) b bits) ≡ n + weight_of b
counted-more bits b n number counts below room = ⊎_elim full free (cases_eq number (2 ^ length bits))
  where
    full : number ≡ 2 ^ length bits → counted (add_carry (number == 2 ^ length bits) b bits) ≡ n + weight_of b
    full e =
        ap (λ longer. counted (add_carry longer b bits)) (eq-eqb number (2 ^ length bits) e) ∙ add_carry-longer b bits ∙ ap (λ k. k + weight_of b) counts

    free : (number ≡ 2 ^ length bits → ⊥) → counted (add_carry (number == 2 ^ length bits) b bits) ≡ n + weight_of b
    free e =
        let space : counted bits + weight_of b < 2 ^ length bits = omega (arith, weight-le-one b) in
        ap (λ longer. counted (add_carry longer b bits)) (ne_eqb number (2 ^ length bits) e) ∙ add_carry-kept b bits space ∙ ap (λ k. k + weight_of b) counts

-- counting on keeps the counter as long as the number needs
pub room_more : (number size size' : ℕ) → number ≤ 2 ^ size → 2 ^ size < 2 * number → size' ≡ size + weight_of (number == 2 ^ size)
    → (number + 1 ≤ 2 ^ size') × (2 ^ size' < 2 * (number + 1))
room_more number size size' room tight sized = ⊎_elim full free (cases_eq number (2 ^ size))
  where
    full : number ≡ 2 ^ size → (number + 1 ≤ 2 ^ size') × (2 ^ size' < 2 * (number + 1))
    full e =
        let longer : size' ≡ suc size = sized ∙ ap (λ b. size + weight_of b) (eq-eqb number (2 ^ size) e) ∙ add-one size in
        let power : 2 ^ size' ≡ 2 * 2 ^ size = ap (λ n. 2 ^ n) longer ∙ pow-succ' 2 size in
        (omega arith, omega arith)

    free : (number ≡ 2 ^ size → ⊥) → (number + 1 ≤ 2 ^ size') × (2 ^ size' < 2 * (number + 1))
    free e =
        let same : size' ≡ size + 0 = sized ∙ ap (λ b. size + weight_of b) (ne_eqb number (2 ^ size) e) in
        let power : 2 ^ size' ≡ 2 ^ size = ap (λ n. 2 ^ n) (same ∙ omega arith) in
        (omega arith, omega arith)

pub power_more : (n : ℕ) → 2 ^ (n + 1) ≡ 2 * 2 ^ n
power_more n = ap (λ k. 2 ^ k) (add-one n) ∙ pow-succ' 2 n

-- a bit that is shifted by less than a word
pub shifted : (size : ℕ) → size < 64 → 1 * 2 ^ size % 2 ^ 64 ≡ 2 ^ size
shifted size small =
    let e : 2 ^ size ≤ 2 ^ 63 = pow_mono {i = size} {j = 63} (omega arith) in
    omega arith

-- the number of reversed bits
pub binary-reverse : (bits : List Bool) → binary (reverse bits) ≡ counted bits
binary-reverse [] = refl
binary-reverse (b ∷ bits) = ap binary (reverse-append (b ∷ []) bits) ∙ binary-append (reverse bits) b ∙ omega (arith, binary-reverse bits)

pub carry_step : (longer : Bool) (made bits goal : List Bool) (carried b d : Bool) (i : ℕ) → i < length bits → b ≡ get_or bits i d
    → made ++ add_carry longer carried (drop i bits) ≡ goal → (made ++ differ b carried ∷ []) ++ add_carry longer (b && carried) (drop (i + 1) bits) ≡ goal
carry_step longer made bits goal carried b d i lt e h =
    append_assoc made (differ b carried ∷ []) (add_carry longer (b && carried) (drop (i + 1) bits))
    ∙ ap (λ rest. made ++ add_carry longer carried rest) (sym (drop_more bits i d lt ∙ ap (λ y. y ∷ drop (i + 1) bits) (sym e))) ∙ h

-- words of one length that stand for one number are one word
pub binary-injective : (as_ bs : List Bool) → length as_ ≡ length bs → binary as_ ≡ binary bs → as_ ≡ bs
binary-injective as_ bs sized number =
    sym (bits_of-binary as_) ∙ ap (bits_of (length as_)) number ∙ ap (λ n. bits_of n (binary bs)) sized ∙ bits_of-binary bs
