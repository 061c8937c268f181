-- The numbers of the question's variables.
use Rattle.std.proofs.Common.{◌≡◌, ℕ, zero, suc, ◌+◌, ◌-◌, ◌<◌, ◌≤◌, Bool, true, false, List, [], ◌∷◌, ◌++◌, length, take, nat_le, nat_lt, slice_index, slice_index_or, refl, sym, ap, ◌∙◌, arith, length-append}
use Rattle.fault_secure.specs.Circuit.{Circuit, node}
use Rattle.fault_secure.specs.CodePlan.{CodePlan, members}
use Rattle.exact_question.specs.Variables.{Source, Right, Failing, Variable, Input, Net, Row, Choice, Gate, Differs, OutputDiffers, RailsDiffer, Unheard, number_of, spread}
use Rattle.exact_question.specs.Rows.{rows_of}
use Rattle.exact_question.specs.Question.{node_variables, chosen_by, failing_variables, group_variables, input_variables, variables}
use Rattle.exact_question.proofs.InOrder.{variables_are_in_order}
use Rattle.question_text.specs.Covers.{wide}
use Rattle.question_text.specs.Nodes.{wide_of, numbers_from}
use Rattle.question_text.specs.Failing.{cells_from, cell_at}
use Rattle.question_text.specs.Whole.{right_first, failing_first, outputs_first, groups_first}
use Rattle.question_text.proofs.Places.{At, at_left, at_right, inputs_long}
use Rattle.question_text.proofs.Standing.{numbers_least, cells_choice_least, copy_long, failing_copy_long, at_net_of, at_row_of, at_choice, at_gate, at_wrong, at_failing_row, at_differs, at_chosen}

-- the place of an input
pub at_input : (n i : ℕ) → i < n → At (input_variables n) i (Input i)
at_input zero i inside = absurd (omega arith)
at_input (suc n) i inside = by (λ below. at_input n i below) (nat_lt i n) refl
  where
    by : (i < n → At (input_variables n) i (Input i)) → (b : Bool) → nat_lt i n ≡ b → At (input_variables n ++ Input n ∷ []) i (Input i)
    by before true below = at_left (input_variables n) (Input n ∷ []) i (Input i) (before (grind arith))
    by before false past =
        let same : i ≡ n = grind arith in
        at_right (input_variables n) (Input n ∷ []) n 0 i (Input i) (inputs_long n) (record { inside = omega arith; here = ap Input (sym same) }) (omega (arith, same))

-- variables of which each item has one
pub singles_long : {A : Type 0} (f : ℕ → Variable) (items : List A) → length (spread (λ k a. f k ∷ []) items) ≡ length items
singles_long f [] = refl
singles_long f (a ∷ as_) = let e = singles_long (λ k. f (suc k)) as_ in omega (arith, e)

pub at_single : {A : Type 0} (f : ℕ → Variable) (items : List A) (k : ℕ) → k < length items → At (spread (λ k a. f k ∷ []) items) k (f k)
at_single f [] k inside = absurd (omega arith)
at_single f (a ∷ as_) zero inside = record { inside = omega arith; here = refl }
at_single f (a ∷ as_) (suc k) inside = at_right (f 0 ∷ []) (spread (λ i a. f (suc i) ∷ []) as_) 1 k (suc k) (f (suc k)) refl (at_single (λ i. f (suc i)) as_ k (omega arith)) (omega arith)

module _ (C N : Circuit) (P : CodePlan) where
  abbrev of_inputs : List Variable
  of_inputs = input_variables N.inputs

  abbrev of_source : List Variable
  of_source = spread (node_variables Source) C.nodes

  abbrev of_right : List Variable
  of_right = spread (node_variables Right) N.nodes

  abbrev of_failing : List Variable
  of_failing = spread failing_variables N.nodes

  abbrev of_outputs : List Variable
  of_outputs = spread (λ place net. OutputDiffers place ∷ []) C.outputs

  abbrev of_groups : List Variable
  of_groups = spread group_variables (members P)

  abbrev of_last : List Variable
  of_last = RailsDiffer Right ∷ RailsDiffer Failing ∷ Unheard ∷ []

  abbrev to_source : List Variable
  to_source = of_inputs ++ of_source

  abbrev to_right : List Variable
  to_right = to_source ++ of_right

  abbrev to_failing : List Variable
  to_failing = to_right ++ of_failing

  abbrev to_outputs : List Variable
  to_outputs = to_failing ++ of_outputs

  abbrev to_groups : List Variable
  to_groups = to_outputs ++ of_groups

  -- ---- how many there are up to a part

  source_long : length to_source ≡ right_first C N
  source_long = let a = inputs_long N.inputs in let b = copy_long Source N.inputs C.nodes in omega (arith, a, b, length-append of_inputs of_source)

  right_long : length to_right ≡ failing_first C N
  right_long = let a = source_long in let b = copy_long Right (right_first C N) N.nodes in omega (arith, a, b, length-append to_source of_right)

  failing_long : length to_failing ≡ outputs_first C N
  failing_long = let a = right_long in let b = failing_copy_long (failing_first C N) N.nodes in omega (arith, a, b, length-append to_right of_failing)

  outputs_long : length to_outputs ≡ groups_first C N
  outputs_long = let a = failing_long in let b = singles_long OutputDiffers C.outputs in omega (arith, a, b, length-append to_failing of_outputs)

  pub groups_long : (last : ℕ) → groups_first C N + length of_groups ≡ last → length to_groups ≡ last
  groups_long last is = let a = outputs_long in omega (arith, a, is, length-append to_outputs of_groups)

  pub all_long : (last : ℕ) → groups_first C N + length of_groups ≡ last → length (variables C N P) ≡ last + 3
  all_long last is = let a = groups_long last is in omega (arith, a, length-append to_groups of_last)

  -- ---- the number of a variable is its place

  abbrev pub num : Variable → ℕ
  num v = number_of v (variables C N P)

  num_at : (k : ℕ) (v : Variable) → At (variables C N P) k v → num v ≡ k
  num_at k v at = ap num (sym at.here) ∙ variables_are_in_order C N P k at.inside

  in_groups : (k : ℕ) (v : Variable) → At to_groups k v → num v ≡ k
  in_groups k v at = num_at k v (at_left to_groups of_last k v at)

  in_outputs : (k : ℕ) (v : Variable) → At to_outputs k v → num v ≡ k
  in_outputs k v at = in_groups k v (at_left to_outputs of_groups k v at)

  in_failing : (k : ℕ) (v : Variable) → At to_failing k v → num v ≡ k
  in_failing k v at = in_outputs k v (at_left to_failing of_outputs k v at)

  in_right : (k : ℕ) (v : Variable) → At to_right k v → num v ≡ k
  in_right k v at = in_failing k v (at_left to_right of_failing k v at)

  in_source : (k : ℕ) (v : Variable) → At to_source k v → num v ≡ k
  in_source k v at = in_right k v (at_left to_source of_right k v at)

  pub num_input : (i : ℕ) → i < N.inputs → num (Input i) ≡ i
  num_input i inside = in_source i (Input i) (at_left of_inputs of_source i (Input i) (at_input N.inputs i inside))

  -- ---- copies without a fault

  module _ (j : ℕ) (inside : j < length C.nodes) where
    abbrev source_at : ℕ
    source_at = slice_index (numbers_from N.inputs C.nodes) j

    pub num_source : num (Net Source j) ≡ source_at
    num_source =
        let least = numbers_least N.inputs j C.nodes inside in
        in_source source_at (Net Source j)
        (at_right of_inputs of_source N.inputs (source_at - N.inputs) source_at (Net Source j) (inputs_long N.inputs)
        (at_net_of Source N.inputs j (source_at - N.inputs) C.nodes inside (omega (arith, least))) (omega (arith, least)))

    pub num_source_row : (r : ℕ) → r < length (rows_of (node C j)) → nat_le 2 (length (slice_index_or (rows_of (node C j)) r [])) ≡ true
        → num (Row Source j r) ≡ source_at + 1 + wide (take r (rows_of (node C j)))
    num_source_row r below is =
        let least = numbers_least N.inputs j C.nodes inside in
        let place = source_at + 1 + wide (take r (rows_of (node C j))) in
        in_source place (Row Source j r)
        (at_right of_inputs of_source N.inputs (place - N.inputs) place (Row Source j r) (inputs_long N.inputs)
        (at_row_of Source N.inputs j r (place - N.inputs) C.nodes inside below is (omega (arith, least))) (omega (arith, least)))

  module _ (j : ℕ) (inside : j < length N.nodes) where
    abbrev right_at : ℕ
    right_at = slice_index (numbers_from (right_first C N) N.nodes) j

    pub num_right : num (Net Right j) ≡ right_at
    num_right =
        let least = numbers_least (right_first C N) j N.nodes inside in
        in_right right_at (Net Right j)
        (at_right to_source of_right (right_first C N) (right_at - right_first C N) right_at (Net Right j) source_long
        (at_net_of Right (right_first C N) j (right_at - right_first C N) N.nodes inside (omega (arith, least))) (omega (arith, least)))

    pub num_right_row : (r : ℕ) → r < length (rows_of (node N j)) → nat_le 2 (length (slice_index_or (rows_of (node N j)) r [])) ≡ true
        → num (Row Right j r) ≡ right_at + 1 + wide (take r (rows_of (node N j)))
    num_right_row r below is =
        let least = numbers_least (right_first C N) j N.nodes inside in
        let place = right_at + 1 + wide (take r (rows_of (node N j))) in
        in_right place (Row Right j r)
        (at_right to_source of_right (right_first C N) (place - right_first C N) place (Row Right j r) source_long
        (at_row_of Right (right_first C N) j r (place - right_first C N) N.nodes inside below is (omega (arith, least))) (omega (arith, least)))

    -- ---- the copy with a failing cell

    abbrev first : ℕ
    first = (cell_at (cells_from 0 (failing_first C N) N.nodes) j).choice

    of_cell : (k : ℕ) (v : Variable) → failing_first C N ≤ k → At of_failing (k - failing_first C N) v → num v ≡ k
    of_cell k v least at = in_failing k v (at_right to_right of_failing (failing_first C N) (k - failing_first C N) k v right_long at (omega (arith, least)))

    least : failing_first C N ≤ first
    least = cells_choice_least 0 (failing_first C N) j N.nodes inside

    pub num_choice : num (Choice j) ≡ first
    num_choice = let low = least in of_cell first (Choice j) low (at_choice (failing_first C N) j (first - failing_first C N) N.nodes inside (omega (arith, low)))

    pub num_gate : num (Gate j) ≡ first + 1
    num_gate = let low = least in of_cell (first + 1) (Gate j) (omega (arith, low)) (at_gate (failing_first C N) j (first + 1 - failing_first C N) N.nodes inside (omega (arith, low)))

    pub num_wrong : num (Net Failing j) ≡ first + 2
    num_wrong = let low = least in of_cell (first + 2) (Net Failing j) (omega (arith, low)) (at_wrong (failing_first C N) j (first + 2 - failing_first C N) N.nodes inside (omega (arith, low)))

    pub num_failing_row : (r : ℕ) → r < length (rows_of (node N j)) → nat_le 2 (length (slice_index_or (rows_of (node N j)) r [])) ≡ true
        → num (Row Failing j r) ≡ first + 3 + wide (take r (rows_of (node N j)))
    num_failing_row r below is =
        let low = least in
        let place = first + 3 + wide (take r (rows_of (node N j))) in
        of_cell place (Row Failing j r) (omega (arith, low)) (at_failing_row (failing_first C N) j (place - failing_first C N) N.nodes inside r below is (omega (arith, low)))

    pub num_differs : num (Differs j) ≡ first + 3 + wide_of (node N j)
    num_differs =
        let low = least in
        let place = first + 3 + wide_of (node N j) in
        of_cell place (Differs j) (omega (arith, low)) (at_differs (failing_first C N) j (place - failing_first C N) N.nodes inside (omega (arith, low)))

    pub num_chosen : (j ≡ 0 → ⊥) → num (chosen_by j) ≡ first + 4 + wide_of (node N j)
    num_chosen off =
        let low = least in
        let place = first + 4 + wide_of (node N j) in
        of_cell place (chosen_by j) (omega (arith, low)) (at_chosen (failing_first C N) j (place - failing_first C N) N.nodes inside off (omega (arith, low)))

  -- ---- what may be wrong

  pub num_output : (k : ℕ) → k < length C.outputs → num (OutputDiffers k) ≡ outputs_first C N + k
  num_output k inside = in_outputs (outputs_first C N + k) (OutputDiffers k)
      (at_right to_failing of_outputs (outputs_first C N) k (outputs_first C N + k) (OutputDiffers k) failing_long (at_single OutputDiffers C.outputs k inside) refl)

  pub num_in_groups : (k : ℕ) (v : Variable) → At of_groups k v → num v ≡ groups_first C N + k
  num_in_groups k v at = in_groups (groups_first C N + k) v (at_right to_outputs of_groups (groups_first C N) k (groups_first C N + k) v outputs_long at refl)

  module _ (last : ℕ) (end : groups_first C N + length of_groups ≡ last) where
    of_end : (k : ℕ) (v : Variable) → At of_last k v → num v ≡ last + k
    of_end k v at = num_at (last + k) v (at_right to_groups of_last last k (last + k) v (groups_long last end) at refl)

    pub num_rails : num (RailsDiffer Right) ≡ last
    num_rails = let e = of_end 0 (RailsDiffer Right) (record { inside = omega arith; here = refl }) in omega (arith, e)

    pub num_wrong_rails : num (RailsDiffer Failing) ≡ last + 1
    num_wrong_rails = of_end 1 (RailsDiffer Failing) (record { inside = omega arith; here = refl })

    pub num_unheard : num Unheard ≡ last + 2
    num_unheard = of_end 2 Unheard (record { inside = omega arith; here = refl })
