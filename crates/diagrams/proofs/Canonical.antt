-- Equal functions are one row.
use Rattle.std.proofs.Common.{◌≡◌, ℕ, zero, suc, ◌+◌, ◌<◌, ◌≤◌, Bool, true, false, nat_eq, List, [], ◌∷◌, length, refl, sym, ap, ◌∙◌, subst, arith}
use Rattle.std.proofs.lemmas.Bool.{cases_eq, cases_order}
use Rattle.std.proofs.Math.Logic.{⊎_elim}
use Rattle.diagrams.specs.declared.decision.Decision.{Decision}
use Rattle.diagrams.specs.Decisions.{row, step, walk, value, IsAt, IsDiagram}
use Rattle.diagrams.specs.Cofactors.{Same}
use Rattle.diagrams.proofs.Walks.{step-at, step-past, decides_at, constant_at, IsAt-step}

pub decision-same : (d e : Decision) → d.input ≡ e.input → d.low ≡ e.low → d.high ≡ e.high → d ≡ e
decision-same d e i l h =
    let made : ℕ → ℕ → ℕ → Decision = λ input low high. record { input = input; low = low; high = high } in
    ap (λ n. made n d.low d.high) i ∙ (ap (λ n. made e.input n d.high) l ∙ ap (λ n. made e.input e.low n) h)

two_constants : (j k : ℕ) → j < 2 → k < 2 → nat_eq j 1 ≡ nat_eq k 1 → j ≡ k
two_constants zero zero a b e = refl
two_constants zero (suc zero) a b e = absurd (cc)
two_constants (suc zero) zero a b e = absurd (cc)
two_constants (suc zero) (suc zero) a b e = refl
two_constants (suc (suc j)) k a b e = absurd (omega arith)
two_constants zero (suc (suc k)) a b e = absurd (omega arith)
two_constants (suc zero) (suc (suc k)) a b e = absurd (omega arith)

-- no two rows decide alike
one_row : (inputs : ℕ) (rows : List Decision) → IsDiagram inputs rows → (j k : ℕ) → 2 ≤ j → 2 ≤ k → j < length rows → k < length rows → row rows j ≡ row rows k → j ≡ k
one_row inputs rows D j k big_j big_k node_j node_k same = ⊎_elim (λ e. e)
    (λ either. ⊎_elim (λ before. absurd (D.once j k big_j before node_k same)) (λ after. absurd (D.once k j big_k after node_j (sym same))) either)
    (cases_order j k)

-- two rows whose steps lead to the same places are one
same_steps : (inputs : ℕ) (rows : List Decision) → IsDiagram inputs rows → (level j k : ℕ) → level < inputs → IsAt rows level j → IsAt rows level k →
    ((b : Bool) → step rows level j b ≡ step rows level k b) → j ≡ k
same_steps inputs rows D level j k inside at_j at_k down = ⊎_elim
    (λ here_j. let dj = decides_at inputs rows D j at_j.node (omega (arith, here_j)) in ⊎_elim
    (λ here_k. let dk = decides_at inputs rows D k at_k.node (omega (arith, here_k)) in
    let low = sym (step-at rows level j false here_j) ∙ (down false ∙ step-at rows level k false here_k) in
    let high = sym (step-at rows level j true here_j) ∙ (down true ∙ step-at rows level k true here_k) in
    one_row inputs rows D j k dj.0 dk.0 at_j.node at_k.node (decision-same _ _ (here_j ∙ sym here_k) low high))
    (λ past_k. absurd (dj.1.differ (sym (step-at rows level j false here_j) ∙ (down false ∙ (step-past rows level k false past_k
    ∙ (sym (step-past rows level k true past_k) ∙ (sym (down true) ∙ step-at rows level j true here_j)))))))
    (cases_eq (row rows k).input level))
    (λ past_j. ⊎_elim
    (λ here_k. let dk = decides_at inputs rows D k at_k.node (omega (arith, here_k)) in
    absurd (dk.1.differ (sym (step-at rows level k false here_k) ∙ (sym (down false) ∙ (step-past rows level j false past_j
    ∙ (sym (step-past rows level j true past_j) ∙ (down true ∙ step-at rows level k true here_k)))))))
    (λ past_k. sym (step-past rows level j false past_j) ∙ (down false ∙ step-past rows level k false past_k))
    (cases_eq (row rows k).input level))
    (cases_eq (row rows j).input level)

-- rows whose walks from a level end alike are one
pub canonical : (inputs : ℕ) (rows : List Decision) → IsDiagram inputs rows → (n level j k : ℕ) → level + n ≡ inputs → IsAt rows level j → IsAt rows level k →
    ((x : List Bool) → length x ≡ n → nat_eq (walk rows level j x) 1 ≡ nat_eq (walk rows level k x) 1) → j ≡ k
canonical inputs rows D zero level j k e at_j at_k agree =
    let last : level ≡ inputs = omega arith in
    two_constants j k (constant_at inputs rows D j (subst (λ (l : ℕ). IsAt rows l j) last at_j)) (constant_at inputs rows D k (subst (λ (l : ℕ). IsAt rows l k) last at_k)) (agree [] refl)
canonical inputs rows D (suc n) level j k e at_j at_k agree =
    same_steps inputs rows D level j k (omega arith) at_j at_k (λ b. canonical inputs rows D n (suc level) _ _ (omega arith)
    (IsAt-step inputs rows D level j b at_j (omega arith)) (IsAt-step inputs rows D level k b at_k (omega arith)) (λ x sized. agree (b ∷ x) (ap suc sized)))

-- rows of one function are one
pub one_row_each : (inputs : ℕ) (rows : List Decision) → IsDiagram inputs rows → (j k : ℕ) → j < length rows → k < length rows → Same inputs (value rows j) (value rows k) → j ≡ k
one_row_each inputs rows D j k node_j node_k same =
    canonical inputs rows D inputs 0 j k (omega arith) (record { node = node_j; above = omega arith }) (record { node = node_k; above = omega arith }) (λ x sized. same.at x sized)
