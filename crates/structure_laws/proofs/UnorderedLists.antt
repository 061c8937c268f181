-- Codes whose codewords don't cover one another.
use Rattle.std.proofs.Common.{◌≡◌, ℕ, zero, suc, ◌^◌, ◌≤◌, Bool, true, false, List, [], ◌∷◌, ◌++◌, length, take, drop, refl, sym, ap, ap₂, ◌∙◌, arith, take-append-drop, pow_pos}
use Rattle.std.proofs.lemmas.Bool.{false≢true}
use Rattle.tsc_bits.specs.Bits.{binary}
use Rattle.fault_secure.specs.declared.code.Code.{Code}
use Rattle.fault_secure.specs.declared.code.Code.TheVariants.{Parity, Berger, MOutOfN}
use Rattle.fault_secure.specs.CodePlan.{CodePlan, IsChecked, outputs_of, checks_of, next_of, IsUnorderedCode}
use Rattle.tsc_bits.specs.Counting.{ones, zeros}
use Rattle.structure_laws.specs.Unordered.{Below, UnorderedCodes}
use Rattle.tsc_bits.proofs.Counting.{ones-cons, ones-zeros}

pub Below-length : (as_ bs : List Bool) → Below as_ bs → length as_ ≡ length bs
Below-length [] [] h = refl
Below-length [] (b ∷ bs) h = absurd h
Below-length (a ∷ as_) [] h = absurd h
Below-length (a ∷ as_) (b ∷ bs) h = ap suc (Below-length as_ bs h.1)

pub Below-take : (n : ℕ) (as_ bs : List Bool) → Below as_ bs → Below (take n as_) (take n bs)
Below-take zero as_ bs h = tt
Below-take (suc n) [] [] h = tt
Below-take (suc n) [] (b ∷ bs) h = absurd h
Below-take (suc n) (a ∷ as_) [] h = absurd h
Below-take (suc n) (a ∷ as_) (b ∷ bs) h = (h.0, Below-take n as_ bs h.1)

pub Below-drop : (n : ℕ) (as_ bs : List Bool) → Below as_ bs → Below (drop n as_) (drop n bs)
Below-drop zero as_ bs h = h
Below-drop (suc n) [] [] h = tt
Below-drop (suc n) [] (b ∷ bs) h = absurd h
Below-drop (suc n) (a ∷ as_) [] h = absurd h
Below-drop (suc n) (a ∷ as_) (b ∷ bs) h = Below-drop n as_ bs h.1

-- a list that covers another has as many ones at least, and the same number only where it is the same
pub ones_below : (as_ bs : List Bool) → Below as_ bs → ones as_ ≤ ones bs
ones_below [] [] h = omega arith
ones_below [] (b ∷ bs) h = absurd h
ones_below (a ∷ as_) [] h = absurd h
ones_below (true ∷ as_) (true ∷ bs) h = omega (arith, ones-cons true as_, ones-cons true bs, ones_below as_ bs h.1)
ones_below (true ∷ as_) (false ∷ bs) h = absurd (false≢true (h.0 refl))
ones_below (false ∷ as_) (true ∷ bs) h = omega (arith, ones-cons false as_, ones-cons true bs, ones_below as_ bs h.1)
ones_below (false ∷ as_) (false ∷ bs) h = omega (arith, ones-cons false as_, ones-cons false bs, ones_below as_ bs h.1)

pub same_ones : (as_ bs : List Bool) → Below as_ bs → ones bs ≤ ones as_ → as_ ≡ bs
same_ones [] [] h n = refl
same_ones [] (b ∷ bs) h n = absurd h
same_ones (a ∷ as_) [] h n = absurd h
same_ones (true ∷ as_) (true ∷ bs) h n = ap (λ z. true ∷ z) (same_ones as_ bs h.1 (omega (arith, ones-cons true as_, ones-cons true bs)))
same_ones (true ∷ as_) (false ∷ bs) h n = absurd (false≢true (h.0 refl))
same_ones (false ∷ as_) (true ∷ bs) h n = absurd (omega (arith, ones-cons false as_, ones-cons true bs, ones_below as_ bs h.1))
same_ones (false ∷ as_) (false ∷ bs) h n = ap (λ z. false ∷ z) (same_ones as_ bs h.1 (omega (arith, ones-cons false as_, ones-cons false bs)))

-- and as many zeros at most
pub zeros_below : (as_ bs : List Bool) → Below as_ bs → zeros bs ≤ zeros as_
zeros_below as_ bs h = omega (arith, ones-zeros as_, ones-zeros bs, ones_below as_ bs h, Below-length as_ bs h)

pub same_zeros : (as_ bs : List Bool) → Below as_ bs → zeros as_ ≤ zeros bs → as_ ≡ bs
same_zeros as_ bs h n = same_ones as_ bs h (omega (arith, ones-zeros as_, ones-zeros bs, Below-length as_ bs h))

-- a binary number whose bits cover another's is as great at least, and equal only where it is the same
pub binary_below : (as_ bs : List Bool) → Below as_ bs → binary as_ ≤ binary bs
binary_below [] [] h = omega arith
binary_below [] (b ∷ bs) h = absurd h
binary_below (a ∷ as_) [] h = absurd h
binary_below (true ∷ as_) (true ∷ bs) h = omega (arith, binary_below as_ bs h.1, ap (λ n. 2 ^ n) (Below-length as_ bs h.1))
binary_below (true ∷ as_) (false ∷ bs) h = absurd (false≢true (h.0 refl))
binary_below (false ∷ as_) (true ∷ bs) h = omega (arith, binary_below as_ bs h.1)
binary_below (false ∷ as_) (false ∷ bs) h = omega (arith, binary_below as_ bs h.1)

pub same_binary : (as_ bs : List Bool) → Below as_ bs → binary bs ≤ binary as_ → as_ ≡ bs
same_binary [] [] h n = refl
same_binary [] (b ∷ bs) h n = absurd h
same_binary (a ∷ as_) [] h n = absurd h
same_binary (true ∷ as_) (true ∷ bs) h n = ap (λ z. true ∷ z) (same_binary as_ bs h.1 (omega (arith, ap (λ n. 2 ^ n) (Below-length as_ bs h.1))))
same_binary (true ∷ as_) (false ∷ bs) h n = absurd (false≢true (h.0 refl))
same_binary (false ∷ as_) (true ∷ bs) h n = absurd (omega (arith, binary_below as_ bs h.1, pow_pos (length bs)))
same_binary (false ∷ as_) (false ∷ bs) h n = ap (λ z. false ∷ z) (same_binary as_ bs h.1 (omega arith))

-- a word is its three parts
pub parts : (n m : ℕ) (w : List Bool) → take n w ++ (take m (drop n w) ++ drop m (drop n w)) ≡ w
parts n m w = ap (λ z. take n w ++ z) (take-append-drop m (drop n w)) ∙ take-append-drop n w

same_parts : (P : CodePlan) (w u : List Bool) → outputs_of P w ≡ outputs_of P u → checks_of P w ≡ checks_of P u → next_of P w ≡ next_of P u → w ≡ u
same_parts P w u a b c =
    sym (parts P.outputs (length P.checks) w) ∙ ap₂ ◌++◌ a (ap₂ ◌++◌ b c) ∙ parts P.outputs (length P.checks) u

outputs_and_checks : (c : Code) (P : CodePlan) (w u : List Bool) → IsUnorderedCode c → IsChecked c P w → IsChecked c P u → Below w u
    → (outputs_of P w ≡ outputs_of P u) × (checks_of P w ≡ checks_of P u)
outputs_and_checks Parity P w u unordered ok ok2 below = absurd unordered
outputs_and_checks Berger P w u unordered ok ok2 below =
    let outputs = Below-take P.outputs w u below in
    let checks = Below-take (length P.checks) (drop P.outputs w) (drop P.outputs u) (Below-drop P.outputs w u below) in
    let fewer = zeros_below (outputs_of P w) (outputs_of P u) outputs in
    let more = binary_below (checks_of P w) (checks_of P u) checks in (
      same_zeros (outputs_of P w) (outputs_of P u) outputs (omega (arith, ok, ok2, fewer, more)),
      same_binary (checks_of P w) (checks_of P u) checks (omega (arith, ok, ok2, fewer, more)),
    )
outputs_and_checks MOutOfN P w u unordered ok ok2 below =
    let outputs = Below-take P.outputs w u below in
    let checks = Below-take (length P.checks) (drop P.outputs w) (drop P.outputs u) (Below-drop P.outputs w u below) in
    let more = ones_below (outputs_of P w) (outputs_of P u) outputs in
    let more2 = ones_below (checks_of P w) (checks_of P u) checks in (
      same_ones (outputs_of P w) (outputs_of P u) outputs (omega (arith, ok, ok2, more, more2)),
      same_ones (checks_of P w) (checks_of P u) checks (omega (arith, ok, ok2, more, more2)),
    )

pub unordered_codes : UnorderedCodes
unordered_codes P w u unordered first second below =
    let front = outputs_and_checks P.code P w u unordered first.checked second.checked below in
    let next = Below-drop (length P.checks) (drop P.outputs w) (drop P.outputs u) (Below-drop P.outputs w u below) in
    same_parts P w u front.0 front.1 (same_ones (next_of P w) (next_of P u) next (omega (arith, first.weighed, second.weighed)))
