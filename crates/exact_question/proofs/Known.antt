-- Each variable that a clause can name stands among the variables of the question.
use Rattle.std.proofs.Common.{◌≡◌, ℕ, zero, suc, ◌<◌, ◌⊎◌, List, [], ◌∷◌, ◌++◌, length, slice_index_or, All, Contains, sym, subst, inl, inr, arith}
use Rattle.std.proofs.lemmas.Bool.{cases_eq}
use Rattle.std.proofs.lemmas.List.Elements.{All-weaker, All-contains_itself, Contains-append_left, Contains-append_right, Contains-push}
use Rattle.fault_secure.specs.Circuit.{Circuit, node, no_node}
use Rattle.fault_secure.specs.CodePlan.{CodePlan, members}
use Rattle.exact_question.specs.Variables.{Source, Right, Failing, Variable, Input, Net, Choice, Gate, Differs, Chosen, OutputDiffers, Odd, RailsDiffer, Unheard, spread}
use Rattle.exact_question.specs.Rows.{rows_of}
use Rattle.exact_question.specs.Question.{row_variables, node_variables, chosen_by, chosen_variables, failing_variables, group_variables, input_variables, variables}
use Rattle.exact_question.proofs.Numbers.{Contains-spread, contains_first, contains_later}

input_known : (n i : ℕ) → i < n → Contains (input_variables n) (Input i)
input_known zero i inside = absurd (omega arith)
input_known (suc n) i inside = by (λ below. input_known n i below) (cases_eq i n)
  where
    by : (i < n → Contains (input_variables n) (Input i)) → (i ≡ n) ⊎ (i ≡ n → ⊥) → Contains (input_variables n ++ Input n ∷ []) (Input i)
    by before (inl is) = subst (λ k. Contains (input_variables n ++ Input n ∷ []) (Input k)) (sym is) (Contains-push (input_variables n) (Input n))
    by before (inr off) = Contains-append_left (input_variables n) (Input n ∷ []) (Input i) (before (omega (arith, off)))

module _ (C N : Circuit) (P : CodePlan) where
  abbrev of_inputs : List Variable
  of_inputs = input_variables N.inputs

  abbrev of_source : List Variable
  of_source = spread (node_variables Source) C.nodes

  abbrev of_right : List Variable
  of_right = spread (node_variables Right) N.nodes

  abbrev of_failing : List Variable
  of_failing = spread failing_variables N.nodes

  abbrev of_outputs : List Variable
  of_outputs = spread (λ place net. OutputDiffers place ∷ []) C.outputs

  abbrev of_groups : List Variable
  of_groups = spread group_variables (members P)

  abbrev of_last : List Variable
  of_last = RailsDiffer Right ∷ RailsDiffer Failing ∷ Unheard ∷ []

  abbrev to_source : List Variable
  to_source = of_inputs ++ of_source

  abbrev to_right : List Variable
  to_right = to_source ++ of_right

  abbrev to_failing : List Variable
  to_failing = to_right ++ of_failing

  abbrev to_outputs : List Variable
  to_outputs = to_failing ++ of_outputs

  abbrev to_groups : List Variable
  to_groups = to_outputs ++ of_groups

  abbrev pub In : Variable → Type 0
  In v = Contains (variables C N P) v

  before_last : (v : Variable) → Contains to_groups v → In v
  before_last v at = Contains-append_left to_groups of_last v at

  before_groups : (v : Variable) → Contains to_outputs v → In v
  before_groups v at = before_last v (Contains-append_left to_outputs of_groups v at)

  before_outputs : (v : Variable) → Contains to_failing v → In v
  before_outputs v at = before_groups v (Contains-append_left to_failing of_outputs v at)

  before_failing : (v : Variable) → Contains to_right v → In v
  before_failing v at = before_outputs v (Contains-append_left to_right of_failing v at)

  before_right : (v : Variable) → Contains to_source v → In v
  before_right v at = before_failing v (Contains-append_left to_source of_right v at)

  in_last : (v : Variable) → Contains of_last v → In v
  in_last v at = Contains-append_right to_groups of_last v at

  pub in_inputs : (i : ℕ) → i < N.inputs → In (Input i)
  in_inputs i inside = before_right (Input i) (Contains-append_left of_inputs of_source (Input i) (input_known N.inputs i inside))

  in_source : (j : ℕ) (v : Variable) → j < length C.nodes → Contains (node_variables Source j (node C j)) v → In v
  in_source j v inside at = before_right v (Contains-append_right of_inputs of_source v (Contains-spread (node_variables Source) C.nodes no_node j v inside at))

  in_right : (j : ℕ) (v : Variable) → j < length N.nodes → Contains (node_variables Right j (node N j)) v → In v
  in_right j v inside at = before_failing v (Contains-append_right to_source of_right v (Contains-spread (node_variables Right) N.nodes no_node j v inside at))

  in_failing : (j : ℕ) (v : Variable) → j < length N.nodes → Contains (failing_variables j (node N j)) v → In v
  in_failing j v inside at = before_outputs v (Contains-append_right to_right of_failing v (Contains-spread failing_variables N.nodes no_node j v inside at))

  -- ---- copies without a fault

  pub source_net : (j : ℕ) → j < length C.nodes → In (Net Source j)
  source_net j inside = in_source j (Net Source j) inside (contains_first (Net Source j) (spread (row_variables Source j) (rows_of (node C j))))

  pub right_net : (j : ℕ) → j < length N.nodes → In (Net Right j)
  right_net j inside = in_right j (Net Right j) inside (contains_first (Net Right j) (spread (row_variables Right j) (rows_of (node N j))))

  module _ (j r : ℕ) where
    abbrev source_row : List Variable
    source_row = row_variables Source j r (slice_index_or (rows_of (node C j)) r [])

    abbrev right_row : List Variable
    right_row = row_variables Right j r (slice_index_or (rows_of (node N j)) r [])

    abbrev failing_row : List Variable
    failing_row = row_variables Failing j r (slice_index_or (rows_of (node N j)) r [])

    pub source_rows : j < length C.nodes → r < length (rows_of (node C j)) → All In source_row
    source_rows inside below =
        All-weaker (Contains source_row) In
        (λ v at. in_source j v inside (contains_later (Net Source j) v (spread (row_variables Source j) (rows_of (node C j)))
        (Contains-spread (row_variables Source j) (rows_of (node C j)) [] r v below at))) source_row (All-contains_itself source_row)

    pub right_rows : j < length N.nodes → r < length (rows_of (node N j)) → All In right_row
    right_rows inside below =
        All-weaker (Contains right_row) In
        (λ v at. in_right j v inside (contains_later (Net Right j) v (spread (row_variables Right j) (rows_of (node N j)))
        (Contains-spread (row_variables Right j) (rows_of (node N j)) [] r v below at))) right_row (All-contains_itself right_row)

    abbrev rows_on : List Variable
    rows_on = spread (row_variables Failing j) (rows_of (node N j)) ++ Differs j ∷ chosen_variables j

    pub failing_rows : j < length N.nodes → r < length (rows_of (node N j)) → All In failing_row
    failing_rows inside below =
        All-weaker (Contains failing_row) In
        (λ v at. in_failing j v inside (contains_later (Choice j) v (Gate j ∷ Net Failing j ∷ rows_on) (contains_later (Gate j) v (Net Failing j ∷ rows_on)
        (contains_later (Net Failing j) v rows_on (Contains-append_left (spread (row_variables Failing j) (rows_of (node N j))) (Differs j ∷ chosen_variables j) v
        (Contains-spread (row_variables Failing j) (rows_of (node N j)) [] r v below at)))))) failing_row (All-contains_itself failing_row)

  -- ---- the copy with a failing cell

  module _ (j : ℕ) (inside : j < length N.nodes) where
    abbrev after_rows : List Variable
    after_rows = Differs j ∷ chosen_variables j

    abbrev after_net : List Variable
    after_net = spread (row_variables Failing j) (rows_of (node N j)) ++ after_rows

    pub choice_known : In (Choice j)
    choice_known = in_failing j (Choice j) inside (contains_first (Choice j) (Gate j ∷ Net Failing j ∷ after_net))

    pub gate_known : In (Gate j)
    gate_known = in_failing j (Gate j) inside (contains_later (Choice j) (Gate j) (Gate j ∷ Net Failing j ∷ after_net) (contains_first (Gate j) (Net Failing j ∷ after_net)))

    pub wrong_known : In (Net Failing j)
    wrong_known = in_failing j (Net Failing j) inside
        (contains_later (Choice j) (Net Failing j) (Gate j ∷ Net Failing j ∷ after_net)
        (contains_later (Gate j) (Net Failing j) (Net Failing j ∷ after_net) (contains_first (Net Failing j) after_net)))

    in_after_rows : (v : Variable) → Contains after_rows v → In v
    in_after_rows v at = in_failing j v inside
        (contains_later (Choice j) v (Gate j ∷ Net Failing j ∷ after_net) (contains_later (Gate j) v (Net Failing j ∷ after_net)
        (contains_later (Net Failing j) v after_net (Contains-append_right (spread (row_variables Failing j) (rows_of (node N j))) after_rows v at))))

    pub differs_known : In (Differs j)
    differs_known = in_after_rows (Differs j) (contains_first (Differs j) (chosen_variables j))

  pub chosen_known : (j : ℕ) → j < length N.nodes → In (chosen_by j)
  chosen_known zero inside = choice_known zero inside
  chosen_known (suc j) inside = in_after_rows (suc j) inside (Chosen (suc j)) (contains_later (Differs (suc j)) (Chosen (suc j)) (chosen_variables (suc j)) (contains_first (Chosen (suc j)) []))

  -- ---- what may be wrong

  pub output_known : (k : ℕ) → k < length C.outputs → In (OutputDiffers k)
  output_known k inside = before_groups (OutputDiffers k)
      (Contains-append_right to_failing of_outputs (OutputDiffers k)
      (Contains-spread (λ place net. OutputDiffers place ∷ []) C.outputs 0 k (OutputDiffers k) inside (contains_first (OutputDiffers k) [])))

  -- a group's first place, and those after it
  pub odd_known : (g first k : ℕ) (places : List ℕ) → g < length (members P) → slice_index_or (members P) g [] ≡ first ∷ places → k < length places → In (Odd g k)
  odd_known g first k places inside is below = before_last (Odd g k)
      (Contains-append_right to_outputs of_groups (Odd g k)
      (Contains-spread group_variables (members P) [] g (Odd g k) inside
      (subst (λ group. Contains (group_variables g group) (Odd g k)) (sym is)
      (Contains-spread (λ i place. Odd g i ∷ []) places 0 k (Odd g k) below (contains_first (Odd g k) [])))))

  pub rails_known : In (RailsDiffer Right)
  rails_known = in_last (RailsDiffer Right) (contains_first (RailsDiffer Right) (RailsDiffer Failing ∷ Unheard ∷ []))

  pub wrong_rails_known : In (RailsDiffer Failing)
  wrong_rails_known = in_last (RailsDiffer Failing)
      (contains_later (RailsDiffer Right) (RailsDiffer Failing) (RailsDiffer Failing ∷ Unheard ∷ []) (contains_first (RailsDiffer Failing) (Unheard ∷ [])))

  pub unheard_known : In Unheard
  unheard_known = in_last Unheard
      (contains_later (RailsDiffer Right) Unheard (RailsDiffer Failing ∷ Unheard ∷ [])
      (contains_later (RailsDiffer Failing) Unheard (Unheard ∷ []) (contains_first Unheard [])))
