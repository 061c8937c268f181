-- How many nodes predictors have.
use Rattle.std.proofs.Common.{◌≡◌, ℕ, ◌+◌, List, [], ◌∷◌, ◌++◌, length, All, arith, length-append}
use Rattle.std.proofs.lemmas.List.Elements.{All-head, All-tail}
use Rattle.fault_secure.specs.Circuit.{Circuit}
use Rattle.parity_code.specs.ParityCircuit.{IsGroupCone, GroupCone, size_of, predictor_nodes, all_predictors, predictors_end}
use Rattle.parity_code.proofs.ParityCircuit.{length-predictor_nodes}

-- how many nodes the predictors have
pub predictors_counted : (C : Circuit) (groups : List GroupCone) (base : ℕ) → All (IsGroupCone C) groups → base + length (all_predictors C groups base) ≡ predictors_end groups base
predictors_counted C [] base all = omega arith
predictors_counted C (g ∷ groups) base all =
    let first : IsGroupCone C g = All-head (IsGroupCone C) g groups all in
    let one : length (predictor_nodes C g.cone g.group base) ≡ length g.cone + length g.group = length-predictor_nodes C g.cone g.group base first.filled in
    let both : length (predictor_nodes C g.cone g.group base ++ all_predictors C groups (base + size_of g)) ≡ length (predictor_nodes C g.cone g.group base) + length (all_predictors C groups (base + size_of g))
    = length-append (predictor_nodes C g.cone g.group base) (all_predictors C groups (base + size_of g)) in
    let rest : base + size_of g + length (all_predictors C groups (base + size_of g)) ≡ predictors_end groups (base + size_of g)
    = predictors_counted C groups (base + size_of g) (All-tail (IsGroupCone C) g groups all) in
    omega arith
