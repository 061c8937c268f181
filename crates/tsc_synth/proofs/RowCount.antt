-- The rows of a table, counted a state or a row at a time.
use Rattle.std.proofs.Common.{◌≡◌, ℕ, suc, zero, ◌+◌, ◌<◌, ◌≤◌, Bool, true, false, cond, inl, inr, List, [], ◌∷◌, length, filter, All, Option, Some, None, refl, sym, ap, ap₂, ◌∙◌, arith, eqb}
use Rattle.std.specs.List.{range_with_len, sum_by}
use Rattle.std.proofs.lemmas.Bool.{cases_eq, eq-eqb, ne_eqb}
use Rattle.std.proofs.lemmas.List.Sums.{sum_by-cons}
use Rattle.std.proofs.lemmas.List.Elements.{All-head, All-tail}
use Rattle.fault_secure.specs.Logic.{StateTable, Transition, starts_at, IsTransitionOf}
use Rattle.machine_lines.specs.MachineSize.{row_count}
use Rattle.tsc_net.specs.MachineView.{transition_of, transitions_of}
use Rattle.tsc_net.specs.declared.machine.MachineRow.{MachineRow}
use Rattle.tsc_synth.specs.RowStates.{states_of_row}

-- 1 where the row starts at the state
abbrev one_at : Option ℕ → ℕ → ℕ
one_at from q = cond (starts_at from q) 1 0

-- below a state that comes later none is met
pub none-met : (from a n : ℕ) → from < a → sum_by (λ q. cond (eqb from q) 1 0) (range_with_len a n) ≡ 0
none-met from a zero h = refl
none-met from a (suc n) h =
    sum_by-cons (λ q. cond (eqb from q) 1 0) a (range_with_len (a + 1) n)
    ∙ ap₂ (λ b s. cond b 1 0 + s) (ne_eqb from a (λ e. omega arith)) (none-met from (a + 1) n (omega arith))

-- among all from a on it is met once
pub met-once : (from a n : ℕ) → a ≤ from → from < a + n → sum_by (λ q. cond (eqb from q) 1 0) (range_with_len a n) ≡ 1
met-once from a zero low high = absurd (omega arith)
met-once from a (suc n) low high = elim (cases_eq from a) [
  | inl same ↦ sum_by-cons (λ q. cond (eqb from q) 1 0) a (range_with_len (a + 1) n)
      ∙ ap₂ (λ b s. cond b 1 0 + s) (eq-eqb from a same) (none-met from (a + 1) n (omega arith))
  | inr other ↦ sum_by-cons (λ q. cond (eqb from q) 1 0) a (range_with_len (a + 1) n)
      ∙ ap₂ (λ b s. cond b 1 0 + s) (ne_eqb from a other) (met-once from (a + 1) n (omega (arith, other)) (omega arith))
]

all-met : (a n : ℕ) → sum_by (λ q. 1) (range_with_len a n) ≡ n
all-met a zero = refl
all-met a (suc n) = sum_by-cons (λ q. 1) a (range_with_len (a + 1) n) ∙ ap (λ s. 1 + s) (all-met (a + 1) n) ∙ omega arith

row-states : (states : ℕ) (from : Option ℕ) → ((q : ℕ) → from ≡ Some q → q < states) → sum_by (one_at from) (range_with_len 0 states) ≡ states_of_row states from
row-states states None within = all-met 0 states
row-states states (Some from) within = met-once from 0 states (omega arith) (let h = within from refl in omega arith)

-- how many rows start at a state, one row more
rows-cons : (row : Transition) (rows : List Transition) (q : ℕ)
    → length (filter (λ r. starts_at r.from q) (row ∷ rows)) ≡ one_at row.from q + length (filter (λ r. starts_at r.from q) rows)
rows-cons row rows q = by (starts_at row.from q)
  where
    by : (b : Bool) → length (cond b (row ∷ filter (λ r. starts_at r.from q) rows) (filter (λ r. starts_at r.from q) rows)) ≡ cond b 1 0 + length (filter (λ r. starts_at r.from q) rows)
    by true = omega arith
    by false = omega arith

abbrev total : List Transition → List ℕ → ℕ
total rows qs = sum_by (λ q. length (filter (λ r. starts_at r.from q) rows)) qs

total-none : (qs : List ℕ) → total [] qs ≡ 0
total-none [] = refl
total-none (q ∷ qs) = let a = sum_by-cons (λ (q : ℕ). 0) q qs in let b = total-none qs in omega arith

total-cons : (row : Transition) (rows : List Transition) (qs : List ℕ) → total (row ∷ rows) qs ≡ sum_by (one_at row.from) qs + total rows qs
total-cons row rows [] = refl
total-cons row rows (q ∷ qs) =
    let a = sum_by-cons (λ q. length (filter (λ r. starts_at r.from q) (row ∷ rows))) q qs in
    let b = rows-cons row rows q in
    let c = total-cons row rows qs in
    let d = sum_by-cons (one_at row.from) q qs in
    let e = sum_by-cons (λ q. length (filter (λ r. starts_at r.from q) rows)) q qs in
    omega (arith, a, b, c, d, e)

-- a row counts once for each state at which it may answer
pub row_count-rows : (M : StateTable) (rows : List Transition) → All (IsTransitionOf M) rows
    → total rows (range_with_len 0 M.states) ≡ sum_by (λ row. states_of_row M.states row.from) rows
row_count-rows M [] all = total-none (range_with_len 0 M.states)
row_count-rows M (row ∷ rows) all =
    total-cons row rows (range_with_len 0 M.states)
    ∙ ap₂ (λ a b. a + b) (row-states M.states row.from (All-head (IsTransitionOf M) row rows all).from) (row_count-rows M rows (All-tail (IsTransitionOf M) row rows all))
    ∙ sym (sum_by-cons (λ (r : Transition). states_of_row M.states r.from) row rows)

-- the same over rows of numbers
pub states-of-numbers : (inputs outputs states : ℕ) (rows : List MachineRow)
    → sum_by (λ row. states_of_row states row.from) (transitions_of inputs outputs rows) ≡ sum_by (λ row. states_of_row states row.from) rows
states-of-numbers inputs outputs states [] = refl
states-of-numbers inputs outputs states (row ∷ rows) =
    sum_by-cons (λ (r : Transition). states_of_row states r.from) (transition_of inputs outputs row) (transitions_of inputs outputs rows)
    ∙ ap (λ s. states_of_row states row.from + s) (states-of-numbers inputs outputs states rows)
    ∙ sym (sum_by-cons (λ (r : MachineRow). states_of_row states r.from) row rows)

-- the rows of numbers that stand for those of a table
pub counted : (M : StateTable) (rows : List MachineRow) → All (IsTransitionOf M) M.rows → transitions_of M.inputs M.outputs rows ≡ M.rows
    → row_count M ≡ sum_by (λ row. states_of_row M.states row.from) rows
counted M rows all are =
    row_count-rows M M.rows all ∙ ap (λ list. sum_by (λ (row : Transition). states_of_row M.states row.from) list) (sym are)
    ∙ states-of-numbers M.inputs M.outputs M.states rows
