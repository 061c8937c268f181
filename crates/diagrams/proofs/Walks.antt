-- Walks along rows, and the levels that they pass.
use Rattle.std.proofs.Common.{◌≡◌, ℕ, zero, suc, ◌+◌, ◌<◌, ◌≤◌, Bool, true, false, cond, nat_eq, List, [], ◌∷◌, ◌++◌, length, slice_index_or, drop, refl, sym, ap, ◌∙◌, subst, arith, append_assoc}
use Rattle.std.proofs.lemmas.Bool.{eq-eqb, ne_eqb, cases_eq, cases_lt}
use Rattle.std.proofs.Math.Logic.{⊎_elim}
use Rattle.std.proofs.Math.Seq.{drop-cons}
use Rattle.tsc_bits.proofs.Lists.{back}
use Rattle.diagrams.specs.declared.decision.Decision.{Decision}
use Rattle.diagrams.specs.Decisions.{row, step, walk, value, IsAt, IsDecision, IsDiagram}

-- a row of the input that is read goes on
pub step-at : (rows : List Decision) (level k : ℕ) (b : Bool) → (row rows k).input ≡ level → step rows level k b ≡ cond b (row rows k).high (row rows k).low
step-at rows level k b here = ap (λ t. cond t (cond b (row rows k).high (row rows k).low) k) (eq-eqb _ _ here)

-- a row of another input stays
pub step-past : (rows : List Decision) (level k : ℕ) (b : Bool) → ((row rows k).input ≡ level → ⊥) → step rows level k b ≡ k
step-past rows level k b past = ap (λ t. cond t (cond b (row rows k).high (row rows k).low) k) (ne_eqb _ _ past)

-- a constant decides no input
pub input_of_constant : (inputs : ℕ) (rows : List Decision) → IsDiagram inputs rows → (k : ℕ) → k < 2 → (row rows k).input ≡ inputs
input_of_constant inputs rows D zero small = ap (λ d. d.input) D.zero
input_of_constant inputs rows D (suc zero) small = ap (λ d. d.input) D.one
input_of_constant inputs rows D (suc (suc k)) small = absurd (omega arith)

-- a row that decides an input is no constant
pub decides_at : (inputs : ℕ) (rows : List Decision) → IsDiagram inputs rows → (k : ℕ) → k < length rows → (row rows k).input < inputs → (2 ≤ k) × IsDecision inputs rows (row rows k)
decides_at inputs rows D k node below =
    ⊎_elim (λ small. let e = input_of_constant inputs rows D k small in absurd (omega arith)) (λ big. (big, D.decides k big node)) (cases_lt k 2)

-- a row that decides no input is a constant
pub constant_at : (inputs : ℕ) (rows : List Decision) → IsDiagram inputs rows → (k : ℕ) → IsAt rows inputs k → k < 2
constant_at inputs rows D k at =
    ⊎_elim (λ small. small) (λ big. let below = (D.decides k big at.node).input in let above = at.above in absurd (omega arith)) (cases_lt k 2)

-- a step from a level stands at the next
pub IsAt-step : (inputs : ℕ) (rows : List Decision) → IsDiagram inputs rows → (level k : ℕ) (b : Bool) → IsAt rows level k → level < inputs → IsAt rows (suc level) (step rows level k b)
IsAt-step inputs rows D level k b at inside = ⊎_elim
    (λ here. let d = (decides_at inputs rows D k at.node (omega (arith, here))).1 in
    let next : IsAt rows (suc level) (cond b (row rows k).high (row rows k).low) = elim b as (λ t. IsAt rows (suc level) (cond t (row rows k).high (row rows k).low))
    [ true ↦ subst (λ (l : ℕ). IsAt rows (suc l) (row rows k).high) here d.high | false ↦ subst (λ (l : ℕ). IsAt rows (suc l) (row rows k).low) here d.low ] in
    subst (λ (t : ℕ). IsAt rows (suc level) t) (sym (step-at rows level k b here)) next)
    (λ past. let above = at.above in
    let next : IsAt rows (suc level) k = record { node = at.node; above = omega (arith, above) } in
    subst (λ (t : ℕ). IsAt rows (suc level) t) (sym (step-past rows level k b past)) next)
    (cases_eq (row rows k).input level)

-- a walk passes the inputs before its row's own
pub skip : (rows : List Decision) (n level later k : ℕ) (x : List Bool) → level + n ≡ later → IsAt rows later k → walk rows level k x ≡ walk rows later k (drop n x)
skip rows zero level later k x e at = let same : level ≡ later = omega arith in ap (λ l. walk rows l k x) same
skip rows (suc n) level later k [] e at = refl
skip rows (suc n) level later k (b ∷ x) e at = let above = at.above in
    ap (λ j. walk rows (suc level) j x) (step-past rows level k b (λ here. omega arith)) ∙ skip rows n (suc level) later k x (omega arith) at

-- the value of a row by the inputs from its level on
pub value-at : (rows : List Decision) (level k : ℕ) (x : List Bool) → IsAt rows level k → value rows k x ≡ nat_eq (walk rows level k (drop level x)) 1
value-at rows level k x at = ap (λ j. nat_eq j 1) (skip rows level 0 level k x (omega arith) at)

-- the value of a row is that of the row where a step leads
pub value-step : (inputs : ℕ) (rows : List Decision) → IsDiagram inputs rows → (level k : ℕ) (x : List Bool) → IsAt rows level k → level < inputs → length x ≡ inputs →
    value rows k x ≡ value rows (step rows level k (slice_index_or x level false)) x
value-step inputs rows D level k x at inside sized =
    let b = slice_index_or x level false in
    let inside_x : level < length x = omega arith in
    value-at rows level k x at
    ∙ (ap (λ bits. nat_eq (walk rows level k bits) 1) (drop-cons x level false inside_x)
    ∙ sym (value-at rows (suc level) (step rows level k b) x (IsAt-step inputs rows D level k b at inside)))

-- the value of a row where the inputs up to its level's own are these
pub value-prefix : (rows : List Decision) (level k : ℕ) (bits : List Bool) (b : Bool) (z : List Bool) → IsAt rows level k → length bits ≡ level →
    value rows k ((bits ++ b ∷ []) ++ z) ≡ nat_eq (walk rows (suc level) (step rows level k b) z) 1
value-prefix rows level k bits b z at sized =
    value-at rows level k _ at ∙ ap (λ rest. nat_eq (walk rows level k rest) 1) (ap (drop level) (append_assoc bits (b ∷ []) z) ∙ back level bits (b ∷ z) sized)
