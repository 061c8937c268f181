-- Counts whose digits are lanes.
use Rattle.std.proofs.Common.{◌≡◌, ℕ, zero, suc, ◌+◌, ◌*◌, ◌/◌, ◌%◌, ◌^◌, ◌<◌, ◌≤◌, eqb, Bool, false, List, [], ◌∷◌, ◌++◌, length, take, drop, get_or, set, bit_and, bit_xor, append_assoc, refl, sym, ap, ap₂, ◌∙◌, subst, arith, length-take}
use Rattle.std.specs.Prelude.{replicate}
use Rattle.std.proofs.Math.Nat.{pow-succ'}
use Rattle.std.proofs.Math.Pow.{pow_mono}
use Rattle.std.proofs.Math.ListN.{get_or-map}
use Rattle.std.proofs.lemmas.List.{length-map, map-set, take_more_set, take-map, drop-set-lt, drop_all, drop_more, take_at, take_all, append-nil, map_more}
use Rattle.std.proofs.lemmas.Nat.Bits.{bit_at-suc, bit_at_lowest}
use Rattle.tsc_bits.specs.Bits.{weight_of, bit_worth, binary}
use Rattle.tsc_bits.specs.Counting.{differ, ones, counted, add_carry}
use Rattle.tsc_bits.proofs.Bits.{binary-lt, binary-append, weight_of-bit_worth, bit_worth-and, bit_worth-last, bit_worth-suc, bit_worth-zero}
use Rattle.fault_secure.specs.Circuit.{bit}
use Rattle.tsc_bits.proofs.Counting.{add_carry-kept, carry_step, ones-cons, ones-zeros, weight-le-one}
use Rattle.code_lanes.specs.Lanes.{column}
use Rattle.code_lanes.proofs.LaneLemmas.{differ_bit}

-- ---- ones of a list

pub ones_push : (bits : List Bool) (b : Bool) → ones (bits ++ b ∷ []) ≡ ones bits + weight_of b
ones_push [] b = omega (arith, ones-cons b [])
ones_push (c ∷ bits) b = ones-cons c (bits ++ b ∷ []) ∙ omega (arith, ones_push bits b, ones-cons c bits)

ones_few : (bits : List Bool) → ones bits ≤ length bits
ones_few bits = omega (arith, ones-zeros bits)

-- one more lane of a list
column_more : (k : ℕ) (lanes : List ℕ) (i : ℕ) → i < length lanes → column k (take (i + 1) lanes) ≡ column k (take i lanes) ++ bit_worth k (get_or lanes i 0) ∷ []
column_more k lanes i inside = map_more (bit_worth k) lanes i 0 inside

column_few : (k : ℕ) (lanes : List ℕ) (i : ℕ) → length (column k (take i lanes)) ≤ i
column_few k lanes i = omega (arith, length-map (take i lanes) (bit_worth k), length-take i lanes)

-- the count of the first lanes, and one lane more
pub ones_more : (k : ℕ) (lanes : List ℕ) (i before old new all : ℕ) → i < length lanes → before + length lanes < all → old ≡ before + ones (column k (take i lanes))
    → (old + 1 < all → new ≡ old + weight_of (bit_worth k (get_or lanes i 0))) → new ≡ before + ones (column k (take (i + 1) lanes))
ones_more k lanes i before old new all inside room so_far more =
    let few : ones (column k (take i lanes)) ≤ i = omega (arith, ones_few (column k (take i lanes)), column_few k lanes i) in
    more (omega arith) ∙ omega (arith, so_far, ap ones (column_more k lanes i inside), ones_push (column k (take i lanes)) (bit_worth k (get_or lanes i 0)))

pub ones_all : (k : ℕ) (lanes : List ℕ) (i before new : ℕ) → length lanes ≤ i → new ≡ before + ones (column k (take i lanes)) → new ≡ before + ones (column k lanes)
ones_all k lanes i before new past is = is ∙ ap (λ (list : List ℕ). before + ones (column k list)) (take_all i lanes past)

-- ---- one lane is counted

abbrev pub carried_to : ℕ → List ℕ → ℕ → ℕ → List Bool
carried_to k digits i carry = take i (column k digits) ++ add_carry false (bit_worth k carry) (drop i (column k digits))

pub carry_goes_on : (k : ℕ) (digits : List ℕ) (i digit carry : ℕ) (goal : List Bool) → i < length digits → digit ≡ get_or digits i 0 → carried_to k digits i carry ≡ goal
    → carried_to k (set digits i (bit_xor digit carry)) (i + 1) (bit_and digit carry) ≡ goal
carry_goes_on k digits i digit carry goal inside at before =
    let bits : List Bool = column k digits in
    let wide : i < length bits = omega (arith, length-map digits (bit_worth k)) in
    let changed : column k (set digits i (bit_xor digit carry)) ≡ set bits i (differ (bit_worth k digit) (bit_worth k carry))
    = map-set (bit_worth k) digits i (bit_xor digit carry) ∙ ap (set bits i) (differ_bit k digit carry) in
    let here : bit_worth k digit ≡ get_or bits i (bit_worth k 0) = ap (bit_worth k) at ∙ sym (get_or-map (bit_worth k) digits i 0) in
    let first : take (i + 1) (column k (set digits i (bit_xor digit carry))) ≡ take i bits ++ differ (bit_worth k digit) (bit_worth k carry) ∷ []
    = ap (take (i + 1)) changed ∙ take_more_set bits i (differ (bit_worth k digit) (bit_worth k carry)) wide in
    let rest : drop (i + 1) (column k (set digits i (bit_xor digit carry))) ≡ drop (i + 1) bits
    = ap (drop (i + 1)) changed ∙ drop-set-lt (i + 1) bits i (differ (bit_worth k digit) (bit_worth k carry)) (omega arith) in
    ap₂ (λ (a b : List Bool). a ++ add_carry false (bit_worth k (bit_and digit carry)) b) first rest
    ∙ (ap (λ (c : Bool). (take i bits ++ differ (bit_worth k digit) (bit_worth k carry) ∷ []) ++ add_carry false c (drop (i + 1) bits)) (bit_worth-and k digit carry)
    ∙ carry_step false (take i bits) bits goal (bit_worth k carry) (bit_worth k digit) (bit_worth k 0) i wide here before)

pub carry_ends : (k : ℕ) (digits : List ℕ) (i carry : ℕ) → length digits ≤ i → carried_to k digits i carry ≡ column k digits
carry_ends k digits i carry past =
    let short : length (column k digits) ≤ i = omega (arith, length-map digits (bit_worth k)) in
    ap₂ (λ (a b : List Bool). a ++ add_carry false (bit_worth k carry) b) (take_all i (column k digits) short) (drop_all i (column k digits) short)
    ∙ append-nil (column k digits)

pub lane_counted : (k : ℕ) (old new : List ℕ) (lane : ℕ) → column k new ≡ add_carry false (bit_worth k lane) (column k old) → counted (column k old) + 1 < 2 ^ length old
    → counted (column k new) ≡ counted (column k old) + weight_of (bit_worth k lane)
lane_counted k old new lane is room =
    let fits : counted (column k old) + weight_of (bit_worth k lane) < 2 ^ length (column k old)
    = subst (λ (n : ℕ). counted (column k old) + weight_of (bit_worth k lane) < 2 ^ n) (sym (length-map old (bit_worth k))) (omega (arith, weight-le-one (bit_worth k lane))) in
    ap counted is ∙ add_carry-kept (bit_worth k lane) (column k old) fits

-- ---- a number of which the lanes are the bits

clipped : (n : ℕ) (bits : List Bool) → counted bits < 2 ^ n → counted (take n bits) ≡ counted bits
clipped zero bits few = omega arith
clipped (suc n) [] few = refl
clipped (suc n) (b ∷ bits) few =
    let half : counted bits < 2 ^ n = omega (arith, pow-succ' 2 n) in
    ap (λ (m : ℕ). weight_of b + 2 * m) (clipped n bits half)

-- the digits with one lane more in front
pub pushed_on : (digits : List ℕ) (i digit moved : ℕ) (goal : List ℕ) → i < length digits → digit ≡ get_or digits i 0 → take i digits ++ moved ∷ drop i digits ≡ goal
    → take (i + 1) (set digits i moved) ++ digit ∷ drop (i + 1) (set digits i moved) ≡ goal
pushed_on digits i digit moved goal inside at before =
    ap₂ (λ (a b : List ℕ). a ++ digit ∷ b) (take_more_set digits i moved inside) (drop-set-lt (i + 1) digits i moved (omega arith))
    ∙ (append_assoc (take i digits) (moved ∷ []) (digit ∷ drop (i + 1) digits)
    ∙ (ap (λ (rest : List ℕ). take i digits ++ moved ∷ rest) (ap (λ (d : ℕ). d ∷ drop (i + 1) digits) at ∙ sym (drop_more digits i 0 inside))
    ∙ before))

pub pushed_all : (digits : List ℕ) (i moved : ℕ) (goal : List ℕ) (n : ℕ) → length digits ≤ i → length digits ≡ n → take i digits ++ moved ∷ drop i digits ≡ goal → digits ≡ take n goal
pushed_all digits i moved goal n past sized is =
    sym (take_at digits (moved ∷ []) n sized)
    ∙ ap (take n) (sym (ap₂ (λ (a b : List ℕ). a ++ moved ∷ b) (take_all i digits past) (drop_all i digits past)) ∙ is)

pub number_more_lane : (k : ℕ) (lanes : List ℕ) (i : ℕ) (old new : List ℕ) → i < length lanes → length lanes ≤ length old → counted (column k old) ≡ binary (column k (take i lanes))
    → new ≡ take (length old) (get_or lanes i 0 ∷ old) → counted (column k new) ≡ binary (column k (take (i + 1) lanes))
number_more_lane k lanes i old new inside room so_far pushed =
    let b : Bool = bit_worth k (get_or lanes i 0) in
    let first : List Bool = column k (take i lanes) in
    let next : binary (column k (take (i + 1) lanes)) ≡ binary first * 2 + weight_of b = ap binary (column_more k lanes i inside) ∙ binary-append first b in
    let short : length (column k (take (i + 1) lanes)) ≤ length old = omega (arith, column_few k lanes (i + 1)) in
    let below : binary (column k (take (i + 1) lanes)) < 2 ^ length (column k (take (i + 1) lanes)) = binary-lt (column k (take (i + 1) lanes)) in
    let most : 2 ^ length (column k (take (i + 1) lanes)) ≤ 2 ^ length old = pow_mono short in
    let fits : weight_of b + 2 * counted (column k old) < 2 ^ length old = omega arith in
    ap (λ (l : List ℕ). counted (column k l)) pushed
    ∙ (ap counted (sym (take-map (bit_worth k) (length old) (get_or lanes i 0 ∷ old)))
    ∙ (clipped (length old) (b ∷ column k old) fits
    ∙ omega (arith, next, so_far)))

pub number_all : (k : ℕ) (lanes : List ℕ) (i number : ℕ) → length lanes ≤ i → number ≡ binary (column k (take i lanes)) → number ≡ binary (column k lanes)
number_all k lanes i number past is = is ∙ ap (λ (list : List ℕ). binary (column k list)) (take_all i lanes past)

-- digits that are those of a number
first_bit : (b : Bool) (x : ℕ) → b ≡ bit_worth 0 x → weight_of b ≡ x % 2
first_bit b x is = ap weight_of is ∙ (weight_of-bit_worth 0 x ∙ bit_at_lowest x)

last_digit : (b : Bool) (n : ℕ) → weight_of b + 2 * n ≡ n * 2 + weight_of b
last_digit b n = omega arith

pub counted_is : (bits : List Bool) (x : ℕ) → x < 2 ^ length bits → ((i : ℕ) → i < length bits → bit bits i ≡ bit_worth i x) → counted bits ≡ x
counted_is [] x few same = omega arith
counted_is (b ∷ bits) x few same =
    let half : x / 2 < 2 ^ length bits = omega (arith, pow-succ' 2 (length bits)) in
    let rest : counted bits ≡ x / 2 = counted_is bits (x / 2) half (λ i inside. same (suc i) (omega arith) ∙ ap (λ n. eqb n 1) (bit_at-suc x i)) in
    let first : weight_of b ≡ x % 2 = first_bit b x (same 0 (omega arith)) in
    omega (arith, rest, first)

-- the digits of a number that is counted
pub counted_bit : (bits : List Bool) (i : ℕ) → i < length bits → bit bits i ≡ bit_worth i (counted bits)
counted_bit [] i inside = absurd (omega arith)
counted_bit (b ∷ bits) zero inside = sym (ap (bit_worth 0) (last_digit b (counted bits)) ∙ bit_worth-last (counted bits) b)
counted_bit (b ∷ bits) (suc i) inside =
    counted_bit bits i (omega arith)
    ∙ sym (ap (bit_worth (suc i)) (last_digit b (counted bits)) ∙ bit_worth-suc i (counted bits) b)

-- no digit is set
pub counted_zeros : (k n : ℕ) → counted (column k (replicate n 0)) ≡ 0
counted_zeros k zero = refl
counted_zeros k (suc n) = ap₂ (λ (b : Bool) (m : ℕ). weight_of b + 2 * m) (bit_worth-zero k) (counted_zeros k n)
