-- How much the logic of a machine takes.
use Rattle.std.proofs.Common.{◌≡◌, ℕ, zero, suc, ◌+◌, ◌*◌, ◌<◌, ◌≤◌, List, ◌∷◌, ◌++◌, length, count_by, sym, ◌∙◌, ap, subst, arith}
use Rattle.std.specs.List.{range_with_len, sum_by}
use Rattle.std.proofs.Math.Nat.{add-mul}
use Rattle.std.proofs.lemmas.Nat.{mul-le}
use Rattle.std.proofs.lemmas.List.{take_all}
use Rattle.std.proofs.lemmas.List.Sums.{sum_by-cons, sum_by-append, count_by-le-length}
use Rattle.std.proofs.lemmas.List.FromFn.{length-range_with_len}
use Rattle.machine_lines.specs.Cases.{has_one, choices_before}
use Rattle.machine_lines.specs.declared.cases.Case.{Case}
use Rattle.machine_lines.specs.declared.widths.Widths.{Widths}

-- a sum of so many terms of which none is larger than this
sum_most : (f : ℕ → ℕ) (most a k : ℕ) → ((p : ℕ) → p < a + k → f p ≤ most) → sum_by f (range_with_len a k) ≤ k * most
sum_most f most a zero h = omega arith
sum_most f most a (suc k) h =
    let first : f a ≤ most = h a (omega arith) in
    let rest : sum_by f (range_with_len (a + 1) k) ≤ k * most = sum_most f most (a + 1) k (λ p lt. h p (omega (arith, lt))) in
    let one : suc k * most ≡ k * most + most = ap (λ (n : ℕ). n * most) (let e : suc k ≡ k + 1 = omega arith in e) ∙ add-mul k 1 most ∙ omega arith in
    omega (arith, sum_by-cons f a (range_with_len (a + 1) k), first, rest, one)

split : (a k m n : ℕ) → n ≡ k + m → range_with_len a n ≡ range_with_len a k ++ range_with_len (a + k) m
split a zero m n e =
    let same_start : a + 0 ≡ a = omega arith in
    let same_count : n ≡ m = omega arith in
    ap (range_with_len a) same_count ∙ ap (λ (b : ℕ). range_with_len b m) (sym same_start)
split a (suc k) m zero e = absurd (omega (arith, e))
split a (suc k) m (suc n) e =
    let same_start : a + 1 + k ≡ a + suc k = omega arith in
    ap (λ (list : List ℕ). a ∷ list) (split (a + 1) k m n (omega (arith, e)) ∙ ap (λ (b : ℕ). range_with_len (a + 1) k ++ range_with_len b m) same_start)

-- the choices of all places: at an output a 1 stands in cases of rows alone
pub choices_most : (W : Widths) (cases : List Case) (rows states : ℕ) → length cases ≡ rows + states → ((place : ℕ) → place < W.outputs → count_by (has_one W place) cases ≤ rows)
    → choices_before W cases (W.outputs + W.checks + W.bits) ≤ W.outputs * (2 * rows) + (W.checks + W.bits) * (2 * (rows + states))
choices_most W cases rows states count ones =
    let f : ℕ → ℕ = λ place. 2 * count_by (has_one W place) cases in
    let total = W.outputs + W.checks + W.bits in
    let whole : choices_before W cases (W.outputs + W.checks + W.bits) ≡ sum_by f (range_with_len 0 W.outputs) + sum_by f (range_with_len (0 + W.outputs) (W.checks + W.bits))
    = ap (sum_by f) (take_all total (range_with_len 0 (W.outputs + W.checks + W.bits)) (omega (arith, length-range_with_len 0 (W.outputs + W.checks + W.bits)))
    ∙ split 0 W.outputs (W.checks + W.bits) total (omega arith))
    ∙ sum_by-append f (range_with_len 0 W.outputs) (range_with_len (0 + W.outputs) (W.checks + W.bits)) in
    let front = sum_most f (2 * rows) 0 W.outputs (λ p lt. omega (arith, ones p (omega (arith, lt)))) in
    let back = sum_most f (2 * (rows + states)) (0 + W.outputs) (W.checks + W.bits) (λ p lt. omega (arith, count_by-le-length (has_one W p) cases, count)) in
    omega (arith, whole, front, back)

-- the constant 0, the decoded words, the rows' lines and the choices are within the bound
pub within_size : (rows states inputs outputs checks n words given choices : ℕ) → 1 ≤ states → words ≡ states → given ≡ outputs → choices ≤ given * (2 * rows) + (checks + n) * (2 * (rows + states))
    → 1 + (n + words * (n + 1)) + (rows * (6 * inputs + 3) + states) + choices + 1 ≤ 4 * (rows * (2 * inputs + outputs + checks + n + 2) + states * (2 * n + checks + 2) + inputs)
within_size rows states inputs outputs checks n words given choices some e f most =
    let once : 1 * n ≤ states * n = mul-le 1 n states n some (omega arith) in
    let decoded : words * (n + 1) ≡ states * (n + 1) = ap (λ (k : ℕ). k * (n + 1)) e in
    let chosen : choices ≤ outputs * (2 * rows) + (checks + n) * (2 * (rows + states)) = subst (λ (k : ℕ). choices ≤ k * (2 * rows) + (checks + n) * (2 * (rows + states))) f most in
    omega (arith, chosen, once, decoded)
