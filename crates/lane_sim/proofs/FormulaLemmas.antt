-- Functions of two bits by the formulas that they are settled by.
use Rattle.std.proofs.Common.{◌≡◌, ℕ, ◌/◌, ◌%◌, ◌^◌, ◌<◌, Bool, true, false, ◌&&◌, eqb, refl, sym, ap, ◌∙◌, arith}
use Rattle.tsc_bits.specs.Bits.{bit_worth}
use Rattle.lane_sim.specs.TwoPins.{differ, sum_bit, table_bit}

-- the product of two bits that may be negated is a sum with their product
product_is : (c f s a b : Bool) → differ (differ a s && differ b f) (differ c (f && s)) ≡ sum_bit c f s true a b
product_is true true true true true = refl
product_is true true true true false = refl
product_is true true true false true = refl
product_is true true true false false = refl
product_is true true false true true = refl
product_is true true false true false = refl
product_is true true false false true = refl
product_is true true false false false = refl
product_is true false true true true = refl
product_is true false true true false = refl
product_is true false true false true = refl
product_is true false true false false = refl
product_is true false false true true = refl
product_is true false false true false = refl
product_is true false false false true = refl
product_is true false false false false = refl
product_is false true true true true = refl
product_is false true true true false = refl
product_is false true true false true = refl
product_is false true true false false = refl
product_is false true false true true = refl
product_is false true false true false = refl
product_is false true false false true = refl
product_is false true false false false = refl
product_is false false true true true = refl
product_is false false true true false = refl
product_is false false true false true = refl
product_is false false true false false = refl
product_is false false false true true = refl
product_is false false false true false = refl
product_is false false false false true = refl
product_is false false false false false = refl

pub product_gives : (table : ℕ) (a b : Bool) → 7 < table → table < 16
    → differ (differ a (bit_worth 2 table) && differ b (bit_worth 1 table)) (differ (bit_worth 0 table) (bit_worth 1 table && bit_worth 2 table)) ≡ table_bit table a b
product_gives table a b above small =
    let odd : table / 2 ^ 3 % 2 ≡ 1 = omega arith in
    product_is (bit_worth 0 table) (bit_worth 1 table) (bit_worth 2 table) a b
    ∙ ap (λ n. sum_bit (bit_worth 0 table) (bit_worth 1 table) (bit_worth 2 table) (eqb n 1) a b) (sym odd)
