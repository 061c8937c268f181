-- The first bit of a number from a place on, the first place most significant.
use Rattle.std.proofs.Common.{◌≡◌, ℕ, zero, suc, ◌+◌, ◌-◌, ◌*◌, ◌/◌, ◌%◌, ◌^◌, ◌<◌, ◌≤◌, true, false, eqb, refl, sym, ap, ◌∙◌, arith}
use Rattle.std.specs.Int.Count.{count_leading_zeros, leading_of_zero}
use Rattle.std.proofs.Math.Nat.{div-div-eq-div-mul}
use Rattle.std.proofs.lemmas.Nat.{leading_length, leading_top, mod_below, pow-add, shl-shr}
use Rattle.std.proofs.lemmas.Nat.Bits.{bit_at_above}
use Rattle.tsc_bits.specs.Bits.{bits_of, bit_worth}
use Rattle.tsc_bits.proofs.Bits.{bit_worth-front, bit_worth-mod, get_or-bits_of}
use Rattle.tsc_bits.proofs.Counting.{power_more}
use Rattle.fault_secure.specs.Circuit.{bit}

-- the number with the bit of a place in front
abbrev pub shifted : ℕ → ℕ → ℕ → ℕ
shifted number places from = number * 2 ^ (64 - (places - from)) % 2 ^ 64

bit_shifted : (number k j : ℕ) → bit_worth (k + j) (number * 2 ^ k) ≡ bit_worth j number
bit_shifted number k j =
    ap (λ n. eqb (number * 2 ^ k / n % 2) 1) (pow-add 2 k j)
    ∙ ap (λ n. eqb (n % 2) 1) (sym (div-div-eq-div-mul (number * 2 ^ k) (2 ^ k) (2 ^ j)))
    ∙ ap (bit_worth j) (shl-shr number k)

module _ (number places from : ℕ) (few : places ≤ 64) where
  abbrev rest : ℕ
  rest = shifted number places from

  -- a bit from the place on is a bit of the shifted number
  bit_from : (place : ℕ) → from ≤ place → place < places → bit (bits_of places number) place ≡ bit_worth (63 - (place - from)) rest
  bit_from place low below =
      let k = 64 - (places - from) in
      let j = places - 1 - place in
      let at : 63 - (place - from) ≡ k + j = omega arith in
      let inside : k + j < 64 = omega arith in
      get_or-bits_of places number place below ∙ sym (bit_shifted number k j) ∙ sym (bit_worth-mod 64 (k + j) (number * 2 ^ k) inside)
      ∙ ap (λ i. bit_worth i rest) (sym at)

  fits : rest < 2 ^ 64
  fits = mod_below (number * 2 ^ (64 - (places - from))) (2 ^ 64) (omega arith)

  pub none_before : (led place : ℕ) → led ≡ count_leading_zeros 64 rest → from ≤ place → place < from + led → place < places
      → bit (bits_of places number) place ≡ false
  none_before led place is low before below =
      let top = leading_length 64 rest fits in
      let above : top.0 ≤ 63 - (place - from) = (let sum = top.1 in omega (arith, sum, is)) in
      bit_from place low below ∙ ap (λ b. eqb b 1) (bit_at_above rest top.0 (63 - (place - from)) top.2 above)

  pub found_after : (led : ℕ) → led ≡ count_leading_zeros 64 rest → from + led < places → bit (bits_of places number) (from + led) ≡ true
  found_after led is below =
      let some : 0 < rest = not_zero rest refl in
      let top = leading_top 64 rest some fits in
      let j = top.0 in
      let at : 63 - (from + led - from) ≡ j = (let sum = top.1 in omega (arith, sum, is)) in
      let least : 2 ^ j ≤ rest = top.2 in
      let most : rest < 2 ^ suc j = top.3 in
      let left : rest - 2 ^ j < 2 ^ j = (let next : suc j ≡ j + 1 = omega arith in let double : 2 ^ suc j ≡ 2 * 2 ^ j = ap (λ n. 2 ^ n) next ∙ power_more j in omega (arith, least, most, double)) in
      let parts : rest ≡ 1 * 2 ^ j + (rest - 2 ^ j) = omega (arith, least) in
      bit_from (from + led) (omega arith) below ∙ ap (λ i. bit_worth i rest) at ∙ ap (bit_worth j) parts ∙ bit_worth-front true j (rest - 2 ^ j) left
    where
      not_zero : (n : ℕ) → n ≡ rest → 0 < n
      not_zero zero e = (let all : led ≡ 64 = is ∙ ap (count_leading_zeros 64) (sym e) ∙ leading_of_zero 64 in absurd (omega arith))
      not_zero (suc n) e = omega arith
