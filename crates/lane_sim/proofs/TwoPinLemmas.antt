-- Functions of two bits by their tables, and covers of at most two pins.
use Rattle.std.proofs.Common.{◌≡◌, ℕ, zero, suc, ◌+◌, ◌*◌, ◌-◌, ◌/◌, ◌^◌, ◌≤◌, ◌<◌, Bool, true, false, not, [], ◌∷◌, take, refl, ◌∙◌, arith}
use mathlib.Core.Bool.{beq}
use mir.Val.{bool_byte}
use Rattle.tsc_bits.specs.Bits.{bits_of, bit_worth}
use Rattle.lane_sim.specs.TwoPins.{differ, sum_bit, table_bit}

-- the sum that is got from a function's four values gives them
sum_gives : (none one other all a b : Bool) (value : Bool → Bool → Bool) → none ≡ value false false → one ≡ value true false → other ≡ value false true → all ≡ value true true
    → sum_bit none (not (beq one none)) (not (beq other none)) (not (beq (not (beq all one)) (not (beq other none)))) a b ≡ value a b
sum_gives none one other all false false value v00 v10 v01 v11 = without none ∙ v00
  where
    without : (x : Bool) → differ (differ x false) false ≡ x
    without true = refl
    without false = refl
sum_gives none one other all true false value v00 v10 v01 v11 = added none one ∙ v10
  where
    added : (x y : Bool) → differ (differ x (not (beq y x))) false ≡ y
    added true true = refl
    added true false = refl
    added false true = refl
    added false false = refl
sum_gives none one other all false true value v00 v10 v01 v11 = added none other ∙ v01
  where
    added : (x y : Bool) → differ (differ x false) (differ (not (beq y x)) false) ≡ y
    added true true = refl
    added true false = refl
    added false true = refl
    added false false = refl
sum_gives none one other all true true value v00 v10 v01 v11 = added none one other all ∙ v11
  where
    added : (x y z w : Bool) → differ (differ x (not (beq y x))) (differ (not (beq z x)) (not (beq (not (beq w y)) (not (beq z x))))) ≡ w
    added true true true true = refl
    added true true true false = refl
    added true true false true = refl
    added true true false false = refl
    added true false true true = refl
    added true false true false = refl
    added true false false true = refl
    added true false false false = refl
    added false true true true = refl
    added false true true false = refl
    added false true false true = refl
    added false true false false = refl
    added false false true true = refl
    added false false true false = refl
    added false false false true = refl
    added false false false false = refl

-- the bits of a function's number
number_bits : (c f s b : Bool) → let n = ((bool_byte c + 2 * bool_byte f) + 4 * bool_byte s) + 8 * bool_byte b in
    (bit_worth 0 n ≡ c) × (bit_worth 1 n ≡ f) × (bit_worth 2 n ≡ s) × (bit_worth 3 n ≡ b) × (n < 16)
number_bits true true true true = (refl, refl, refl, refl, omega arith)
number_bits true true true false = (refl, refl, refl, refl, omega arith)
number_bits true true false true = (refl, refl, refl, refl, omega arith)
number_bits true true false false = (refl, refl, refl, refl, omega arith)
number_bits true false true true = (refl, refl, refl, refl, omega arith)
number_bits true false true false = (refl, refl, refl, refl, omega arith)
number_bits true false false true = (refl, refl, refl, refl, omega arith)
number_bits true false false false = (refl, refl, refl, refl, omega arith)
number_bits false true true true = (refl, refl, refl, refl, omega arith)
number_bits false true true false = (refl, refl, refl, refl, omega arith)
number_bits false true false true = (refl, refl, refl, refl, omega arith)
number_bits false true false false = (refl, refl, refl, refl, omega arith)
number_bits false false true true = (refl, refl, refl, refl, omega arith)
number_bits false false true false = (refl, refl, refl, refl, omega arith)
number_bits false false false true = (refl, refl, refl, refl, omega arith)
number_bits false false false false = (refl, refl, refl, refl, omega arith)

-- so does the function of the number that has these bits
pub table_gives : (none one other all a b : Bool) (value : Bool → Bool → Bool) → none ≡ value false false → one ≡ value true false → other ≡ value false true → all ≡ value true true
    → let c = not (beq one none) in let d = not (beq other none) in let e = not (beq (not (beq all one)) d) in
    table_bit (((bool_byte none + 2 * bool_byte c) + 4 * bool_byte d) + 8 * bool_byte e) a b ≡ value a b
table_gives none one other all a b value v00 v10 v01 v11 =
    let c = not (beq one none) in
    let d = not (beq other none) in
    let e = not (beq (not (beq all one)) d) in
    let bits = number_bits none c d e in
    (λ i. sum_bit (bits.0 i) (bits.1 i) (bits.2 i) (bits.3 i) a b) ∙ sum_gives none one other all a b value v00 v10 v01 v11

pub table_small : (c f s b : Bool) → ((bool_byte c + 2 * bool_byte f) + 4 * bool_byte s) + 8 * bool_byte b < 16
table_small c f s b = (number_bits c f s b).4

-- the bits of at most two pins as a number
pub bits_of_pins : (width : ℕ) (a b : Bool) → width ≤ 2 → bits_of width ((bool_byte a * 2 + bool_byte b) / 2 ^ (2 - width)) ≡ take width (a ∷ b ∷ [])
bits_of_pins zero a b narrow = refl
bits_of_pins (suc zero) true true narrow = refl
bits_of_pins (suc zero) true false narrow = refl
bits_of_pins (suc zero) false true narrow = refl
bits_of_pins (suc zero) false false narrow = refl
bits_of_pins (suc (suc zero)) true true narrow = refl
bits_of_pins (suc (suc zero)) true false narrow = refl
bits_of_pins (suc (suc zero)) false true narrow = refl
bits_of_pins (suc (suc zero)) false false narrow = refl
bits_of_pins (suc (suc (suc width))) a b narrow = absurd (omega arith)
