-- Rows of a machine as lanes: where they answer.
use Rattle.std.proofs.Common.{◌≡◌, ℕ, ◌+◌, ◌/◌, ◌%◌, ◌^◌, ◌<◌, ◌==◌, Bool, false, ◌&&◌, bit_and, bit_xor, sym, ap, ap₂, ◌∙◌, add-one, arith}
use Rattle.std.proofs.lemmas.Nat.{and_shr, xor_shr}
use Rattle.std.proofs.lemmas.Bool.{ne_eqb}
use Rattle.tsc_bits.specs.Bits.{bit_worth, bits_of}
use Rattle.tsc_bits.proofs.Bits.{bit_worth-and, bits_of-mod, bit_worth-zero}
use Rattle.tsc_bits.proofs.Bools.{and_comm}
use Rattle.tsc_cover.specs.Cover.{accepts, literals, row_matches}
use Rattle.tsc_cover.specs.Row.{literal}
use Rattle.tsc_cover.proofs.Row.{row_matches-bits_of}
use Rattle.fault_secure.specs.Logic.{starts_at}
use Rattle.tsc_net.specs.MachineView.{row_applies}
use Rattle.tsc_net.specs.declared.machine.MachineRow.{MachineRow}

-- one literal more lets the input pass
pub passes_more : (k care value digit place points more : ℕ) → bit_worth k points ≡ row_matches (literals digit care value) (bits_of digit place)
    → bit_worth k more ≡ accepts (literal (bit_worth digit care) (bit_worth digit value)) (bit_worth digit place)
    → bit_worth k (bit_and points more) ≡ row_matches (literals (digit + 1) care value) (bits_of (digit + 1) place)
passes_more k care value digit place points more before here =
    bit_worth-and k points more
    ∙ (ap₂ (λ (a b : Bool). a && b) before here
    ∙ (and_comm (row_matches (literals digit care value) (bits_of digit place)) (accepts (literal (bit_worth digit care) (bit_worth digit value)) (bit_worth digit place))
    ∙ ap (λ (n : ℕ). row_matches (literals n care value) (bits_of n place)) (sym (add-one digit))))

-- the row answers where it starts and lets the input pass
pub answers_there : (k inputs place started passed : ℕ) (row : MachineRow) → row.input.care < 2 ^ inputs → bit_worth k started ≡ starts_at row.from (place / 2 ^ inputs)
    → bit_worth k passed ≡ row_matches (literals inputs row.input.care row.input.value) (bits_of inputs place)
    → bit_worth k (bit_and started passed) ≡ row_applies (place / 2 ^ inputs) (place % 2 ^ inputs) row
answers_there k inputs place started passed row narrow begins passes =
    bit_worth-and k started passed
    ∙ ap₂ (λ (a b : Bool). a && b) begins
    (passes
    ∙ (ap (row_matches (literals inputs row.input.care row.input.value)) (sym (bits_of-mod inputs place))
    ∙ row_matches-bits_of inputs row.input.care row.input.value (place % 2 ^ inputs) narrow))

-- a row that starts at none of the points answers none
pub starts_nowhere : (k inputs place started : ℕ) (row : MachineRow) → started ≡ 0 → bit_worth k started ≡ starts_at row.from (place / 2 ^ inputs)
    → bit_worth k 0 ≡ row_applies (place / 2 ^ inputs) (place % 2 ^ inputs) row
starts_nowhere k inputs place started row none begins = bit_worth-zero k ∙ not_there (starts_at row.from (place / 2 ^ inputs)) _ (sym begins ∙ (ap (bit_worth k) none ∙ bit_worth-zero k))
  where
    not_there : (a b : Bool) → a ≡ false → false ≡ (a && b)
    not_there a b e = sym (ap (λ (x : Bool). x && b) e)

-- a row that wants another bit of an input that all points share answers none
module _ (k inputs base : ℕ) (row : MachineRow) (narrow : row.input.care < 2 ^ inputs) (whole : base % 64 ≡ 0) (few : k < 64)
    (barred : bit_and (bit_xor base row.input.value) row.input.care / 2 ^ 6 ≡ 0 → ⊥) where
  -- the row's input against the bits of a place
  abbrev against : ℕ → ℕ
  against place = bit_and (bit_xor place row.input.value) row.input.care

  above : (place : ℕ) → against place / 2 ^ 6 ≡ bit_and (bit_xor (place / 2 ^ 6) (row.input.value / 2 ^ 6)) (row.input.care / 2 ^ 6)
  above place = and_shr (bit_xor place row.input.value) row.input.care 6 ∙ ap (λ (n : ℕ). bit_and n (row.input.care / 2 ^ 6)) (xor_shr place row.input.value 6)

  same_above : against (base + k) / 2 ^ 6 ≡ against base / 2 ^ 6
  same_above =
      above (base + k) ∙ (ap (λ (n : ℕ). bit_and (bit_xor n (row.input.value / 2 ^ 6)) (row.input.care / 2 ^ 6)) (omega (arith, whole, few)) ∙ sym (above base))

  not_zero : against (base + k) ≡ 0 → ⊥
  not_zero none = barred (sym same_above ∙ ap (λ (n : ℕ). n / 2 ^ 6) none)

  matches_not : row_matches (literals inputs row.input.care row.input.value) (bits_of inputs (base + k)) ≡ false
  matches_not = row_matches-bits_of inputs row.input.care row.input.value (base + k) narrow ∙ ne_eqb (against (base + k)) 0 not_zero

  applies_not : (against ((base + k) % 2 ^ inputs) == 0) ≡ false
  applies_not =
      sym (row_matches-bits_of inputs row.input.care row.input.value ((base + k) % 2 ^ inputs) narrow)
      ∙ (ap (row_matches (literals inputs row.input.care row.input.value)) (bits_of-mod inputs (base + k)) ∙ matches_not)

  pub barred_nowhere : bit_worth k 0 ≡ row_applies ((base + k) / 2 ^ inputs) ((base + k) % 2 ^ inputs) row
  barred_nowhere =
      bit_worth-zero k
      ∙ sym (ap (λ (b : Bool). starts_at row.from ((base + k) / 2 ^ inputs) && b) applies_not ∙ and_comm (starts_at row.from ((base + k) / 2 ^ inputs)) false)
