-- One more point of what is counted, and the ones of a number.
use Rattle.std.proofs.Common.{◌≡◌, arith, refl, ℕ, zero, suc, ◌+◌, ◌%◌, ◌^◌, ◌<◌, ◌≤◌, Bool, true, false, ap, ap₂, sym, ◌∙◌, mod-lt}
use Rattle.std.proofs.Math.Nat.{mod-eq_of_lt}
use Rattle.std.specs.Int.Count.{ones-ones}
use Rattle.std.specs.Int.RustNames.{count_ones}
use Rattle.std.proofs.lemmas.Nat.{ones-le, ones_cat, pow_pos}
use Rattle.tsc_bits.specs.Bits.{bits_of, bit_worth, weight_of}
use Rattle.tsc_bits.specs.Counting.{ones}
use Rattle.tsc_bits.proofs.Bits.{mod-pow-suc}
use Rattle.tsc_bits.proofs.Counting.{ones-cons}
use Rattle.machine_maker.specs.Counts.{sum_below}

-- one bit, as a number
one_bit : (b : Bool) → weight_of b ≡ count_ones (weight_of b)
one_bit true = sym (ones-ones 1)
one_bit false = sym (ones-ones 0)

-- the bits of a number that are 1 are its ones
ones_of_bits : (n x : ℕ) → ones (bits_of n x) ≡ count_ones (x % 2 ^ n)
ones_of_bits zero x = let low : x % 2 ^ 0 < 2 ^ 0 = mod-lt x (pow_pos 0) in let none : count_ones (x % 2 ^ 0) ≤ 0 = ones-le 0 (x % 2 ^ 0) low in omega arith
ones_of_bits (suc n) x =
    ones-cons (bit_worth n x) (bits_of n x)
    ∙ ap₂ (λ a b. a + b) (one_bit (bit_worth n x)) (ones_of_bits n x)
    ∙ sym (ap count_ones (mod-pow-suc n x) ∙ ones_cat n (weight_of (bit_worth n x)) (x % 2 ^ n) (mod-lt x (pow_pos n)))

pub ones_counted : (n x : ℕ) → x < 2 ^ n → count_ones x ≡ ones (bits_of n x)
ones_counted n x narrow = sym (ones_of_bits n x ∙ ap count_ones (mod-eq_of_lt narrow))

pub none_below : (f : ℕ → ℕ) → 0 ≡ sum_below f 0
unfolding sum_below
none_below f = refl

pub one_below : (f : ℕ → ℕ) (n total here : ℕ) → total ≡ sum_below f n → here ≡ f n → total + here ≡ sum_below f (n + 1)
unfolding sum_below
one_below f n total here so_far is = let e : n + 1 ≡ suc n = omega arith in rw e (ap₂ (λ a b. a + b) so_far is)
