-- Where the variables of nodes stand.
use Rattle.std.proofs.Common.{◌≡◌, ℕ, zero, suc, ◌+◌, ◌-◌, ◌<◌, ◌≤◌, Bool, true, false, cond, List, [], ◌∷◌, ◌++◌, length, take, nat_le, nat_eq, slice_index, slice_index_or, refl, ap, ◌∙◌, arith, length-append}
use Rattle.fault_secure.specs.Circuit.{NodeOf, no_node}
use Rattle.exact_question.specs.Variables.{Copy, Failing, Variable, Net, Row, Choice, Gate, Differs, spread}
use Rattle.exact_question.specs.Rows.{rows_of}
use Rattle.exact_question.specs.Question.{row_variables, node_variables, chosen_by, chosen_variables, failing_variables}
use Rattle.question_text.specs.Covers.{wide}
use Rattle.question_text.specs.Nodes.{wide_of, numbers_from, end_from}
use Rattle.question_text.specs.Failing.{cell_from, cell_end, cells_from, cells_end, cell_at}
use Rattle.question_text.proofs.Ends.{end_least, cell_least}
use Rattle.question_text.proofs.Places.{At, at_same, at_left, at_right, at_rows, rows_count}

-- ---- copies without a fault

pub numbers_least : (at j : ℕ) (nodes : List NodeOf) → j < length nodes → at ≤ slice_index (numbers_from at nodes) j
numbers_least at j [] inside = absurd (omega arith)
numbers_least at zero (n ∷ nodes) inside = omega arith
numbers_least at (suc j) (n ∷ nodes) inside = omega (arith, numbers_least (at + 1 + wide_of n) j nodes (omega arith))

pub numbers_room : (at j : ℕ) (nodes : List NodeOf) → j < length nodes → slice_index (numbers_from at nodes) j + 1 + wide_of (slice_index_or nodes j no_node) ≤ end_from at nodes
numbers_room at j [] inside = absurd (omega arith)
numbers_room at zero (n ∷ nodes) inside = end_least (at + 1 + wide_of n) nodes
numbers_room at (suc j) (n ∷ nodes) inside = numbers_room (at + 1 + wide_of n) j nodes (omega arith)

node_long : (copy : Copy) (j : ℕ) (n : NodeOf) → length (node_variables copy j n) ≡ 1 + wide_of n
node_long copy j n = let e = rows_count copy j (rows_of n) in omega (arith, e)

pub nodes_long : (f : ℕ → NodeOf → List Variable) (at : ℕ) (nodes : List NodeOf) → ((k : ℕ) (n : NodeOf) → length (f k n) ≡ 1 + wide_of n) → at + length (spread f nodes) ≡ end_from at nodes
nodes_long f at [] each = omega arith
nodes_long f at (n ∷ nodes) each =
    let first = each 0 n in
    let rest = nodes_long (λ k. f (suc k)) (at + 1 + wide_of n) nodes (λ k. each (suc k)) in
    omega (arith, first, rest, length-append (f 0 n) (spread (λ k. f (suc k)) nodes))

pub copy_long : (copy : Copy) (at : ℕ) (nodes : List NodeOf) → at + length (spread (node_variables copy) nodes) ≡ end_from at nodes
copy_long copy at nodes = nodes_long (node_variables copy) at nodes (node_long copy)

at_node : (f : ℕ → NodeOf → List Variable) (at j k p : ℕ) (nodes : List NodeOf) (v : Variable)
    → ((i : ℕ) (n : NodeOf) → length (f i n) ≡ 1 + wide_of n)
    → j < length nodes → At (f j (slice_index_or nodes j no_node)) k v → at + p ≡ slice_index (numbers_from at nodes) j + k → At (spread f nodes) p v
at_node f at j k p [] v long inside here is = absurd (omega arith)
at_node f at zero k p (n ∷ nodes) v long inside here is =
    at_left (f 0 n) (spread (λ i. f (suc i)) nodes) p v (at_same (f 0 n) k p v here (omega (arith, is)))
at_node f at (suc j) k p (n ∷ nodes) v long inside here is =
    let least = numbers_least (at + 1 + wide_of n) j nodes (omega arith) in
    at_right (f 0 n) (spread (λ i. f (suc i)) nodes) (1 + wide_of n) (p - (1 + wide_of n)) p v (long 0 n)
    (at_node (λ i. f (suc i)) (at + 1 + wide_of n) j k (p - (1 + wide_of n)) nodes v (λ i. long (suc i)) (omega arith) here (omega (arith, is, least)))
    (omega (arith, is, least))

pub at_net_of : (copy : Copy) (at j p : ℕ) (nodes : List NodeOf) → j < length nodes → at + p ≡ slice_index (numbers_from at nodes) j → At (spread (node_variables copy) nodes) p (Net copy j)
at_net_of copy at j p nodes inside is =
    at_node (node_variables copy) at j 0 p nodes (Net copy j) (node_long copy) inside (record { inside = omega arith; here = refl }) (omega (arith, is))

pub at_row_of : (copy : Copy) (at j r p : ℕ) (nodes : List NodeOf) → j < length nodes
    → r < length (rows_of (slice_index_or nodes j no_node)) → nat_le 2 (length (slice_index_or (rows_of (slice_index_or nodes j no_node)) r [])) ≡ true
    → at + p ≡ slice_index (numbers_from at nodes) j + 1 + wide (take r (rows_of (slice_index_or nodes j no_node)))
    → At (spread (node_variables copy) nodes) p (Row copy j r)
at_row_of copy at j r p nodes inside below is place =
    let rows = rows_of (slice_index_or nodes j no_node) in
    at_node (node_variables copy) at j (1 + wide (take r rows)) p nodes (Row copy j r) (node_long copy) inside
    (at_right (Net copy j ∷ []) (spread (row_variables copy j) rows) 1 (wide (take r rows)) (1 + wide (take r rows)) (Row copy j r) refl (at_rows copy j rows r below is) refl)
    (omega (arith, place))

-- ---- the copy with a failing cell

chosen_long : (j : ℕ) (at rows : ℕ) → at + (3 + (rows + (1 + length (chosen_variables j)))) ≡ cell_end j at rows
chosen_long zero at rows = omega arith
chosen_long (suc j) at rows = by (nat_eq (suc j) 0) (grind arith)
  where
    by : (b : Bool) → b ≡ false → at + (3 + (rows + (1 + 1))) ≡ cond b (at + 4 + rows) (at + 5 + rows)
    by true is = absurd (cc)
    by false is = omega arith

failing_long : (j at : ℕ) (n : NodeOf) → at + length (failing_variables j n) ≡ cell_end j at (wide_of n)
failing_long j at n =
    let rows = rows_count Failing j (rows_of n) in
    omega (arith, rows, length-append (spread (row_variables Failing j) (rows_of n)) (Differs j ∷ chosen_variables j), chosen_long j at (wide_of n))

pub cells_long : (f : ℕ → NodeOf → List Variable) (i at : ℕ) (nodes : List NodeOf) → ((k a : ℕ) (n : NodeOf) → a + length (f k n) ≡ cell_end (i + k) a (wide_of n)) → at + length (spread f nodes) ≡ cells_end i at nodes
cells_long f i at [] each = omega arith
cells_long f i at (n ∷ nodes) each =
    let first = each 0 at n in
    let same = ap (λ k. cell_end k at (wide_of n)) (let e : i + 0 ≡ i = omega arith in e) in
    let rest = cells_long (λ k. f (suc k)) (i + 1) (cell_end i at (wide_of n)) nodes (λ k a m. each (suc k) a m ∙ ap (λ k. cell_end k a (wide_of m)) (let e : i + suc k ≡ i + 1 + k = omega arith in e)) in
    omega (arith, first, same, rest, length-append (f 0 n) (spread (λ k. f (suc k)) nodes))

pub failing_copy_long : (at : ℕ) (nodes : List NodeOf) → at + length (spread failing_variables nodes) ≡ cells_end 0 at nodes
failing_copy_long at nodes = cells_long failing_variables 0 at nodes (λ k a n. failing_long k a n ∙ ap (λ i. cell_end i a (wide_of n)) (let e : k ≡ 0 + k = omega arith in e))

pub cells_choice_least : (i at j : ℕ) (nodes : List NodeOf) → j < length nodes → at ≤ (cell_at (cells_from i at nodes) j).choice
cells_choice_least i at j [] inside = absurd (omega arith)
cells_choice_least i at zero (n ∷ nodes) inside = omega arith
cells_choice_least i at (suc j) (n ∷ nodes) inside = omega (arith, cells_choice_least (i + 1) (cell_end i at (wide_of n)) j nodes (omega arith), cell_least i at (wide_of n))

-- the variables of a node, from its choice on
pub cell_is : (i at j : ℕ) (nodes : List NodeOf) → j < length nodes
    → cell_at (cells_from i at nodes) j ≡ cell_from (i + j) (cell_at (cells_from i at nodes) j).choice (wide_of (slice_index_or nodes j no_node))
cell_is i at j [] inside = absurd (omega arith)
cell_is i at zero (n ∷ nodes) inside = ap (λ k. cell_from k at (wide_of n)) (let e : i ≡ i + 0 = omega arith in e)
cell_is i at (suc j) (n ∷ nodes) inside =
    cell_is (i + 1) (cell_end i at (wide_of n)) j nodes (omega arith)
    ∙ ap (λ k. cell_from k (cell_at (cells_from (i + 1) (cell_end i at (wide_of n)) nodes) j).choice (wide_of (slice_index_or nodes j no_node))) (let e : i + 1 + j ≡ i + suc j = omega arith in e)

at_cell : (f : ℕ → NodeOf → List Variable) (i at j k p : ℕ) (nodes : List NodeOf) (v : Variable)
    → ((m a : ℕ) (n : NodeOf) → a + length (f m n) ≡ cell_end (i + m) a (wide_of n))
    → j < length nodes → At (f j (slice_index_or nodes j no_node)) k v → at + p ≡ (cell_at (cells_from i at nodes) j).choice + k → At (spread f nodes) p v
at_cell f i at j k p [] v long inside here is = absurd (omega arith)
at_cell f i at zero k p (n ∷ nodes) v long inside here is =
    at_left (f 0 n) (spread (λ m. f (suc m)) nodes) p v (at_same (f 0 n) k p v here (omega (arith, is)))
at_cell f i at (suc j) k p (n ∷ nodes) v long inside here is =
    let size = long 0 at n in
    let same = ap (λ k. cell_end k at (wide_of n)) (let e : i + 0 ≡ i = omega arith in e) in
    let least = cells_choice_least (i + 1) (cell_end i at (wide_of n)) j nodes (omega arith) in
    at_right (f 0 n) (spread (λ m. f (suc m)) nodes) (length (f 0 n)) (p - length (f 0 n)) p v refl
    (at_cell (λ m. f (suc m)) (i + 1) (cell_end i at (wide_of n)) j k (p - length (f 0 n)) nodes v
    (λ m a n. long (suc m) a n ∙ ap (λ k. cell_end k a (wide_of n)) (let e : i + suc m ≡ i + 1 + m = omega arith in e)) (omega arith) here (omega (arith, is, least, size, same)))
    (omega (arith, is, least, size, same))

module _ (at j p : ℕ) (nodes : List NodeOf) (inside : j < length nodes) where
  abbrev n : NodeOf
  n = slice_index_or nodes j no_node

  abbrev first : ℕ
  first = (cell_at (cells_from 0 at nodes) j).choice

  at_place : (k : ℕ) (v : Variable) → At (failing_variables j n) k v → at + p ≡ first + k → At (spread failing_variables nodes) p v
  at_place k v here is = at_cell failing_variables 0 at j k p nodes v (λ m a n. failing_long m a n ∙ ap (λ i. cell_end i a (wide_of n)) (let e : m ≡ 0 + m = omega arith in e)) inside here is

  pub at_choice : at + p ≡ first → At (spread failing_variables nodes) p (Choice j)
  at_choice is = at_place 0 (Choice j) (record { inside = omega arith; here = refl }) (omega (arith, is))

  pub at_gate : at + p ≡ first + 1 → At (spread failing_variables nodes) p (Gate j)
  at_gate is = at_place 1 (Gate j) (record { inside = omega arith; here = refl }) is

  pub at_wrong : at + p ≡ first + 2 → At (spread failing_variables nodes) p (Net Failing j)
  at_wrong is = at_place 2 (Net Failing j) (record { inside = omega arith; here = refl }) is

  abbrev front : List Variable
  front = Choice j ∷ Gate j ∷ Net Failing j ∷ []

  abbrev of_rows : List Variable
  of_rows = spread (row_variables Failing j) (rows_of n)

  pub at_failing_row : (r : ℕ) → r < length (rows_of n) → nat_le 2 (length (slice_index_or (rows_of n) r [])) ≡ true
      → at + p ≡ first + 3 + wide (take r (rows_of n)) → At (spread failing_variables nodes) p (Row Failing j r)
  at_failing_row r below is place =
      at_place (3 + wide (take r (rows_of n))) (Row Failing j r)
      (at_right front (of_rows ++ Differs j ∷ chosen_variables j) 3 (wide (take r (rows_of n))) (3 + wide (take r (rows_of n))) (Row Failing j r) refl
      (at_left of_rows (Differs j ∷ chosen_variables j) (wide (take r (rows_of n))) (Row Failing j r) (at_rows Failing j (rows_of n) r below is)) refl) (omega (arith, place))

  pub at_differs : at + p ≡ first + 3 + wide_of n → At (spread failing_variables nodes) p (Differs j)
  at_differs place =
      at_place (3 + wide_of n) (Differs j)
      (at_right front (of_rows ++ Differs j ∷ chosen_variables j) 3 (wide_of n) (3 + wide_of n) (Differs j) refl
      (at_right of_rows (Differs j ∷ chosen_variables j) (wide_of n) 0 (wide_of n) (Differs j) (rows_count Failing j (rows_of n)) (record { inside = omega arith; here = refl }) (omega arith)) refl)
      (omega (arith, place))

  chosen_here : (i : ℕ) → (i ≡ 0 → ⊥) → At (Differs j ∷ chosen_variables i) 1 (chosen_by i)
  chosen_here zero off = absurd (off refl)
  chosen_here (suc i) off = record { inside = omega arith; here = refl }

  pub at_chosen : (j ≡ 0 → ⊥) → at + p ≡ first + 4 + wide_of n → At (spread failing_variables nodes) p (chosen_by j)
  at_chosen off place =
      at_place (4 + wide_of n) (chosen_by j)
      (at_right front (of_rows ++ Differs j ∷ chosen_variables j) 3 (wide_of n + 1) (4 + wide_of n) (chosen_by j) refl
      (at_right of_rows (Differs j ∷ chosen_variables j) (wide_of n) 1 (wide_of n + 1) (chosen_by j) (rows_count Failing j (rows_of n)) (chosen_here j off) refl) (omega arith))
      (omega (arith, place))
