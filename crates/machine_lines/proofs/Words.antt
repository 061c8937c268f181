-- The bits of a word that stands as three numbers.
use Rattle.std.proofs.Common.{◌≡◌, ℕ, ◌+◌, ◌-◌, ◌<◌, ◌≤◌, Bool, false, List, ◌++◌, length, get_or, ◌∙◌, ap, arith}
use Rattle.std.proofs.lemmas.List.{get_or_append_left, get_or-append_right, length-append, get_or-replicate}
use Rattle.tsc_net.proofs.MachineLemmas.{bits_of-zero}
use Rattle.tsc_bits.specs.Bits.{bit_worth, bits_of}
use Rattle.tsc_bits.proofs.Bits.{length-bits_of, get_or-bits_of}
use Rattle.fault_secure.specs.Circuit.{bit}

module _ (o c n ys check next place : ℕ) where
  front : length (bits_of o ys ++ bits_of c check) ≡ o + c
  front = length-append (bits_of o ys) (bits_of c check) ∙ omega (arith, length-bits_of o ys, length-bits_of c check)

  -- a place of the outputs
  pub output_bit : place < o → bit ((bits_of o ys ++ bits_of c check) ++ bits_of n next) place ≡ bit_worth (o - 1 - place) ys
  output_bit lt =
      get_or_append_left (bits_of o ys ++ bits_of c check) (bits_of n next) false place (omega (arith, front))
      ∙ get_or_append_left (bits_of o ys) (bits_of c check) false place (omega (arith, length-bits_of o ys))
      ∙ get_or-bits_of o ys place lt

  -- a place of outputs that are all 0
  pub output_zero : ys ≡ 0 → place < o → bit ((bits_of o ys ++ bits_of c check) ++ bits_of n next) place ≡ false
  output_zero e lt =
      get_or_append_left (bits_of o ys ++ bits_of c check) (bits_of n next) false place (omega (arith, front))
      ∙ get_or_append_left (bits_of o ys) (bits_of c check) false place (omega (arith, length-bits_of o ys))
      ∙ ap (λ (bits : List Bool). get_or bits place false) (ap (bits_of o) e ∙ bits_of-zero o)
      ∙ get_or-replicate o place false false lt

  -- a place of the checks
  pub check_bit : o ≤ place → place < o + c → bit ((bits_of o ys ++ bits_of c check) ++ bits_of n next) place ≡ bit_worth (o + c - 1 - place) check
  check_bit le lt =
      let same_place : c - 1 - (place - o) ≡ o + c - 1 - place = omega arith in
      get_or_append_left (bits_of o ys ++ bits_of c check) (bits_of n next) false place (omega (arith, front))
      ∙ get_or-append_right (bits_of o ys) (bits_of c check) o place false (length-bits_of o ys) le
      ∙ get_or-bits_of c check (place - o) (omega arith)
      ∙ ap (λ (k : ℕ). bit_worth k check) same_place

  -- a place of the next state's word
  pub next_bit : o + c ≤ place → place < o + c + n → bit ((bits_of o ys ++ bits_of c check) ++ bits_of n next) place ≡ bit_worth (o + c + n - 1 - place) next
  next_bit le lt =
      let same_place : n - 1 - (place - (o + c)) ≡ o + c + n - 1 - place = omega arith in
      get_or-append_right (bits_of o ys ++ bits_of c check) (bits_of n next) (o + c) place false front le
      ∙ get_or-bits_of n next (place - (o + c)) (omega arith)
      ∙ ap (λ (k : ℕ). bit_worth k next) same_place
