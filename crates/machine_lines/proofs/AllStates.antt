-- The cases of the states so far.
use Rattle.std.proofs.Common.{◌≡◌, ℕ, ◌+◌, ◌*◌, ◌<◌, ◌≤◌, Bool, false, ◌&&◌, ◌||◌, List, ◌∷◌, map, length, drop, get_or, sym, ◌∙◌, ap, ap₂, arith}
use Rattle.std.specs.List.{range_with_len, sum_by}
use Rattle.std.proofs.Math.Nat.{add-mul}
use Rattle.std.proofs.lemmas.List.{drop_more, take_all}
use Rattle.std.proofs.lemmas.List.Sums.{sum_by_more, sum_by-take-le}
use Rattle.std.proofs.lemmas.List.FromFn.{length-range_with_len, length-map-range_with_len, get_or-range_with_len, get_or-map-range_with_len}
use Rattle.tsc_bits.proofs.Bools.{or_assoc}
use Rattle.fault_secure.specs.Logic.{StateTable}
use Rattle.gate_net.specs.declared.line.Line.{Line}
use Rattle.gate_net.specs.Gates.{GateNetwork, AreLines, line_value, line_values}
use Rattle.gate_net.specs.Growth.{Grows}
use Rattle.state_code.specs.Lines.{rows_at}
use Rattle.tsc_bits.specs.Counting.{some_both}
use Rattle.state_code.proofs.Decoded.{times_mono}
use Rattle.machine_lines.specs.MachineSize.{row_count}
use Rattle.machine_lines.specs.Cases.{rows_before}
use Rattle.gate_net.proofs.Joined.{bits_from}

-- the rows of all states, once none is left
pub rows_all : (M : StateTable) (i : ℕ) → M.states ≤ i → rows_before M i ≡ row_count M
rows_all M i le = ap (sum_by (λ q. length (rows_at M q))) (take_all i (range_with_len 0 M.states) (omega (arith, le, length-range_with_len 0 M.states)))

-- the rows of the states so far, and of one more, with so many gates each
pub rows_more : (M : StateTable) (i k : ℕ) → i < M.states
    → (rows_before M (i + 1) ≡ rows_before M i + length (rows_at M i)) × (rows_before M (i + 1) * k ≡ rows_before M i * k + length (rows_at M i) * k) × (rows_before M (i + 1) * k ≤ row_count M * k)
rows_more M i k lt =
    let f : ℕ → ℕ = λ q. length (rows_at M q) in
    let states = range_with_len 0 M.states in
    let at : get_or (range_with_len 0 M.states) i 0 ≡ i = get_or-range_with_len 0 M.states i 0 lt ∙ omega arith in
    let one : rows_before M (i + 1) ≡ rows_before M i + length (rows_at M i)
    = sum_by_more f states i 0 (omega (arith, lt, length-range_with_len 0 M.states)) ∙ ap (λ (q : ℕ). rows_before M i + length (rows_at M q)) at in (
      one,
      ap (λ (n : ℕ). n * k) one ∙ add-mul (rows_before M i) (length (rows_at M i)) k,
      times_mono (rows_before M (i + 1)) (row_count M) k (sum_by-take-le f states (i + 1)),
    )

-- a state more: what its cases choose is joined to those before it
pub state_step : (start here : GateNetwork) (x s : ℕ → Bool) (decoded : List Line) (i : ℕ) (d : Line) (f : ℕ → Bool) (states : ℕ) (old new goal : Bool) → Grows start here → AreLines start decoded → i < length decoded → i < states
    → new ≡ (old || (line_value here x s (get_or decoded i d) && f i))
    → (old || some_both (drop i (line_values start x s decoded)) (drop i (map f (range_with_len 0 states)))) ≡ goal
    → (new || some_both (drop (i + 1) (line_values start x s decoded)) (drop (i + 1) (map f (range_with_len 0 states)))) ≡ goal
state_step start here x s decoded i d f states old new goal grows within lt lt' e h =
    let v = line_value here x s (get_or decoded i d) in
    let bits = map f (range_with_len 0 states) in
    let rest = some_both (drop (i + 1) (line_values start x s decoded)) (drop (i + 1) (map f (range_with_len 0 states))) in
    let choice_from : drop i (map f (range_with_len 0 states)) ≡ f i ∷ drop (i + 1) (map f (range_with_len 0 states))
    = drop_more bits i false (omega (arith, lt', length-map-range_with_len f 0 states)) ∙ ap (λ (b : Bool). b ∷ drop (i + 1) bits) (get_or-map-range_with_len f 0 states i i false lt' (omega arith)) in
    ap (λ (b : Bool). b || rest) e
    ∙ or_assoc old (v && f i) rest
    ∙ ap (λ (b : Bool). old || b) (sym (ap₂ some_both (bits_from start here x s decoded i d grows within lt) choice_from))
    ∙ h
