-- The checks of a code over lanes.
use Rattle.std.proofs.Common.{◌≡◌, ◌↔◌, ℕ, zero, suc, ◌+◌, ◌<◌, ◌≤◌, Bool, List, [], ◌∷◌, ◌++◌, length, take, drop, get_or, bit_xor, refl, sym, ap, ap₂, ◌∙◌, subst, All, arith, IsTrue, ◌⊎◌, inl, inr}
use Rattle.std.proofs.Math.Logic.{⊎_elim}
use Rattle.std.specs.Prelude.{slice_index}
use Rattle.std.proofs.lemmas.List.{map_more, take_all, take-map, drop-map}
use Rattle.tsc_bits.specs.Bits.{bit_worth, binary}
use Rattle.tsc_bits.specs.Counting.{differ, odd, ones, zeros}
use Rattle.tsc_bits.proofs.Bools.{odd-push}
use Rattle.tsc_bits.proofs.Counting.{ones-zeros}
use Rattle.fault_secure.specs.Circuit.{bit}
use Rattle.fault_secure.specs.CodePlan.{CodePlan, IsWellMade, IsChecked, IsCodeword, HasShape, bits_at, members, outputs_of, checks_of, next_of}
use Rattle.fault_secure.specs.declared.code.Code.{Code}
use Rattle.fault_secure.specs.declared.code.Code.TheVariants.{Parity, Berger, MOutOfN}
use Rattle.code_lanes.specs.Lanes.{column}
use Rattle.code_lanes.proofs.LaneLemmas.{differ_bit, bit_of_column}
use Rattle.code_lanes.proofs.GroupLemmas.{odd_with_check}

module _ (k : ℕ) (lanes places : List ℕ) where
  pub odd_lanes_more : (i d before : ℕ) → i < length places → bit_worth k before ≡ odd (bits_at (column k lanes) (take i places))
      → bit_worth k (bit_xor before (slice_index lanes (get_or places i d))) ≡ odd (bits_at (column k lanes) (take (i + 1) places))
  odd_lanes_more i d before inside is =
      let place : ℕ = get_or places i d in
      let first : List Bool = bits_at (column k lanes) (take i places) in
      differ_bit k before (slice_index lanes place)
      ∙ (ap₂ (λ (a b : Bool). differ a b) is (sym (bit_of_column k lanes place))
      ∙ sym (ap odd (map_more (bit (column k lanes)) places i d inside) ∙ odd-push first (bit (column k lanes) place)))

  pub odd_lanes_last : (check n before : ℕ) → length places ≤ n → bit_worth k before ≡ odd (bits_at (column k lanes) (take n places))
      → bit_worth k (bit_xor before (slice_index lanes check)) ≡ odd (bits_at (column k lanes) (places ++ check ∷ []))
  odd_lanes_last check n before past is =
      differ_bit k before (slice_index lanes check)
      ∙ (ap₂ (λ (a b : Bool). differ a b) (is ∙ ap (λ (list : List ℕ). odd (bits_at (column k lanes) list)) (take_all n places past)) (sym (bit_of_column k lanes check))
      ∙ sym (odd_with_check (column k lanes) places check))

-- so many zeros, exactly where they and the ones are all the bits
pub zeros_are : (bits : List Bool) (number many : ℕ) → length bits ≡ many → (number + ones bits ≡ many) ↔ (number ≡ zeros bits)
zeros_are bits number many sized = (λ sum. omega (arith, ones-zeros bits), λ is. omega (arith, ones-zeros bits))

-- the parts of a word at one point
pub outputs_column : (k n : ℕ) (lanes : List ℕ) → column k (take n lanes) ≡ take n (column k lanes)
outputs_column k n lanes = sym (take-map (bit_worth k) n lanes)

pub checks_column : (k m n : ℕ) (lanes : List ℕ) → column k (take m (drop n lanes)) ≡ take m (drop n (column k lanes))
checks_column k m n lanes = outputs_column k m (drop n lanes) ∙ ap (take m) (sym (drop-map (bit_worth k) n lanes))

-- leaving out the first n lanes, and then m more, leaves out as many bits of the word at point k
pub next_column : (k m n : ℕ) (lanes : List ℕ) → column k (drop m (drop n lanes)) ≡ drop m (drop n (column k lanes))
next_column k m n lanes = sym (drop-map (bit_worth k) m (drop n lanes)) ∙ ap (drop m) (sym (drop-map (bit_worth k) n lanes))

-- how few checks there are, and how small a weight is
pub few_checks : (P : CodePlan) → P.code ≡ Berger → IsWellMade P → length P.checks ≤ 7
few_checks P is made =
    let shape : HasShape Berger P = subst (λ (code : Code). HasShape code P) is made.shape in
    let most = made.most_outputs in
    shape.1.1 7 (omega arith)

pub small_weight : (P : CodePlan) → IsWellMade P → P.latches ≤ 64 → P.weight ≤ 64
small_weight P made few = ⊎_elim
    (λ (none : P.latches ≡ 0). let zero_ : P.weight ≡ 0 = (made.states.none none).1 in omega arith)
    (λ (some : 0 < P.latches). let less : P.weight < P.latches = (made.states.some some).2 in omega arith)
    (cases P.latches)
  where
    cases : (n : ℕ) → (n ≡ 0) ⊎ (0 < n)
    cases zero = inl refl
    cases (suc n) = inr (omega arith)

-- what is checked, by the code: where something holds exactly where the code's check does
module _ (Z : Type 0) (P : CodePlan) (w : List Bool) where
  pub zeros_checked : (outputs checks : List Bool) → P.code ≡ Berger → outputs ≡ outputs_of P w → checks ≡ checks_of P w → Z ↔ (binary checks ≡ zeros outputs) → Z ↔ IsChecked P.code P w
  zeros_checked outputs checks code os cs is =
      subst (λ (c : Code). Z ↔ IsChecked c P w) (sym code)
      (subst (λ (list : List Bool). Z ↔ (binary list ≡ zeros (outputs_of P w))) cs (subst (λ (list : List Bool). Z ↔ (binary checks ≡ zeros list)) os is))

  pub ones_checked : (outputs checks : List Bool) (many : ℕ) → P.code ≡ MOutOfN → outputs ≡ outputs_of P w → checks ≡ checks_of P w → many ≡ P.outputs → Z ↔ (ones outputs + ones checks ≡ many)
      → Z ↔ IsChecked P.code P w
  ones_checked outputs checks many code os cs count is =
      subst (λ (c : Code). Z ↔ IsChecked c P w) (sym code)
      (subst (λ (list : List Bool). Z ↔ (ones (outputs_of P w) + ones list ≡ P.outputs)) cs
      (subst (λ (list : List Bool). Z ↔ (ones list + ones checks ≡ P.outputs)) os
      (subst (λ (n : ℕ). Z ↔ (ones outputs + ones checks ≡ n)) count is)))

  pub groups_checked : P.code ≡ Parity → Z ↔ All (λ group. IsTrue (odd (bits_at w group))) (members P) → Z ↔ IsChecked P.code P w
  groups_checked code is = subst (λ (c : Code). Z ↔ IsChecked c P w) (sym code) is

  -- a codeword is checked, and has the weight
  pub codeword_is : (checked weighed : Type 0) (next : List Bool) (weight : ℕ) → next ≡ next_of P w → weight ≡ P.weight → checked ↔ IsChecked P.code P w → weighed ↔ (ones next ≡ weight)
      → Z ↔ (checked × weighed) → Z ↔ IsCodeword P w
  codeword_is checked weighed next weight parts same check weigh both = (
    λ z. record { checked = check.0 (both.0 z).0; weighed = sym (ap ones parts) ∙ (weigh.0 (both.0 z).1 ∙ same) },
    λ is. both.1 (check.1 is.checked, weigh.1 (ap ones parts ∙ (is.weighed ∙ sym same))),
  )
