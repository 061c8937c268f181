-- Outputs and the number of their zeros are a word that has its Berger check.
use Rattle.std.specs.Prelude.{◌≡◌, ℕ, ◌^◌, ◌<◌, ◌≤◌, not, Bool, List, [], ◌++◌, length, take, drop}
use Rattle.std.proofs.Common.{sym, ◌∙◌, ap, subst, arith}
use Rattle.std.proofs.lemmas.List.{length-map, map-append, append-nil, append_assoc}
use Rattle.std.proofs.lemmas.List.Sums.{count_by-le-length}
use Rattle.tsc_bits.specs.Bits.{bits_of, binary}
use Rattle.tsc_bits.proofs.Bits.{binary-bits_of, length-bits_of}
use Rattle.fault_secure.specs.declared.code.Code.TheVariants.{Berger}
use Rattle.fault_secure.specs.CodePlan.{CodePlan, outputs_of, checks_of, IsBergerWidth, IsChecked}
use Rattle.tsc_bits.specs.Counting.{zeros}
use Rattle.gate_net.specs.declared.line.Line.{Line}
use Rattle.gate_net.specs.Gates.{GateNetwork, AreLines, line_value, line_values}
use Rattle.gate_net.specs.Growth.{ComputesAll}
use Rattle.gate_net.proofs.Kept.{values_kept}
use Rattle.tsc_bits.proofs.Lists.{front, back}

-- outputs have one width
pub one_width : (k v w : ℕ) → IsBergerWidth k v → IsBergerWidth k w → v ≡ w
one_width k v w h j =
    let low : v ≤ w = h.1 w j.0 in
    let high : w ≤ v = j.1 v h.0 in
    omega arith

-- outputs, the number of their zeros in binary, and any further bits are a word that has its Berger check
pub word_checked : (P : CodePlan) (outputs next : List Bool) → length outputs ≡ P.outputs → IsBergerWidth P.outputs (length P.checks) → IsChecked Berger P ((outputs ++ bits_of (length P.checks) (zeros outputs)) ++ next)
word_checked P outputs next sized width =
    let checks : List Bool = bits_of (length P.checks) (zeros outputs) in
    let whole : (outputs ++ checks) ++ next ≡ outputs ++ (checks ++ next) = append_assoc outputs checks next in
    let firsts : outputs_of P ((outputs ++ checks) ++ next) ≡ outputs = ap (take P.outputs) whole ∙ front P.outputs outputs (checks ++ next) sized in
    let seconds : checks_of P ((outputs ++ checks) ++ next) ≡ checks =
    ap (λ w. take (length P.checks) (drop P.outputs w)) whole
    ∙ ap (take (length P.checks)) (back P.outputs outputs (checks ++ next) sized)
    ∙ front (length P.checks) checks next (length-bits_of (length P.checks) (zeros outputs)) in
    let fits : zeros outputs < 2 ^ length P.checks = omega (arith, count_by-le-length not outputs, width.0) in
    ap binary seconds ∙ binary-bits_of (length P.checks) (zeros outputs) fits ∙ sym (ap zeros firsts)

pub lines_checked : (P : CodePlan) (old new : GateNetwork) (outputs checks : List Line) (x s : ℕ → Bool) → length outputs ≡ P.outputs → length checks ≡ length P.checks → IsBergerWidth P.outputs (length P.checks) → AreLines old outputs
    → ComputesAll old new (λ x s. bits_of (length checks) (zeros (line_values old x s outputs))) checks → IsChecked Berger P (line_values new x s (outputs ++ checks))
lines_checked P old new outputs checks x s sized paired width within added =
    let bits : List Bool = line_values old x s outputs in
    let word : line_values new x s (outputs ++ checks) ≡ (bits ++ bits_of (length P.checks) (zeros bits)) ++ [] =
    map-append (line_value new x s) outputs checks
    ∙ ap (λ bs. bs ++ line_values new x s checks) (values_kept old new x s outputs added.grows within)
    ∙ ap (λ bs. bits ++ bs) (added.values x s ∙ ap (λ n. bits_of n (zeros bits)) paired)
    ∙ sym (append-nil (bits ++ bits_of (length P.checks) (zeros bits))) in
    subst (IsChecked Berger P) (sym word) (word_checked P bits [] (length-map outputs (line_value old x s) ∙ sized) width)
