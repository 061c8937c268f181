-- Outputs and the thermometer of their zeros have as many ones as there are outputs.
use Rattle.std.specs.Prelude.{◌≡◌, ℕ, ◌+◌, Bool, List, [], ◌++◌, length, take, drop}
use Rattle.std.proofs.Common.{sym, ◌∙◌, ap, subst, arith}
use Rattle.std.proofs.lemmas.List.{length-map, map-append, append-nil, append_assoc}
use Rattle.fault_secure.specs.declared.code.Code.TheVariants.{MOutOfN}
use Rattle.fault_secure.specs.CodePlan.{CodePlan, outputs_of, checks_of, IsChecked}
use Rattle.tsc_bits.specs.Counting.{ones, zeros}
use Rattle.gate_net.specs.declared.line.Line.{Line}
use Rattle.gate_net.specs.Gates.{GateNetwork, AreLines, line_value, line_values}
use Rattle.gate_net.specs.Growth.{ComputesAll}
use Rattle.gate_net.proofs.Kept.{values_kept}
use Rattle.tsc_bits.specs.Thermometer.{thermo}
use Rattle.tsc_bits.proofs.Counting.{ones-zeros}
use Rattle.tsc_bits.proofs.Thermometers.{thermo_length, thermo_ones}
use Rattle.tsc_bits.proofs.Lists.{front, back}

-- outputs, the thermometer of their zeros, and any further bits are a word that has its m-out-of-n check
pub word_checked : (P : CodePlan) (outputs next : List Bool) → length outputs ≡ P.outputs → length P.checks ≡ P.outputs → IsChecked MOutOfN P ((outputs ++ thermo (length outputs) (zeros outputs)) ++ next)
word_checked P outputs next sized paired =
    let checks : List Bool = thermo (length outputs) (zeros outputs) in
    let whole : (outputs ++ checks) ++ next ≡ outputs ++ (checks ++ next) = append_assoc outputs checks next in
    let firsts : outputs_of P ((outputs ++ checks) ++ next) ≡ outputs = ap (take P.outputs) whole ∙ front P.outputs outputs (checks ++ next) sized in
    let seconds : checks_of P ((outputs ++ checks) ++ next) ≡ checks =
    ap (λ w. take (length P.checks) (drop P.outputs w)) whole
    ∙ ap (take (length P.checks)) (back P.outputs outputs (checks ++ next) sized)
    ∙ front (length P.checks) checks next (thermo_length (length outputs) (zeros outputs) ∙ sized ∙ sym paired) in
    ap (λ bits. ones bits + ones (checks_of P ((outputs ++ checks) ++ next))) firsts
    ∙ ap (λ bits. ones outputs + ones bits) seconds
    ∙ omega (arith, ones-zeros outputs, thermo_ones (length outputs) (zeros outputs) (omega (arith, ones-zeros outputs)))

pub lines_checked : (P : CodePlan) (old new : GateNetwork) (outputs checks : List Line) (x s : ℕ → Bool) → length outputs ≡ P.outputs → length P.checks ≡ P.outputs → AreLines old outputs
    → ComputesAll old new (λ x s. thermo (length outputs) (zeros (line_values old x s outputs))) checks → IsChecked MOutOfN P (line_values new x s (outputs ++ checks))
lines_checked P old new outputs checks x s sized paired within added =
    let bits : List Bool = line_values old x s outputs in
    let count : length bits ≡ length outputs = length-map outputs (line_value old x s) in
    let word : line_values new x s (outputs ++ checks) ≡ (bits ++ thermo (length bits) (zeros bits)) ++ [] =
    map-append (line_value new x s) outputs checks
    ∙ ap (λ bs. bs ++ line_values new x s checks) (values_kept old new x s outputs added.grows within)
    ∙ ap (λ bs. bits ++ bs) (added.values x s ∙ ap (λ n. thermo n (zeros bits)) (sym count))
    ∙ sym (append-nil (bits ++ thermo (length bits) (zeros bits))) in
    subst (IsChecked MOutOfN P) (sym word) (word_checked P bits [] (count ∙ sized) paired)
