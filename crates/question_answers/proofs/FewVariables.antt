-- A question over nodes of so few rows has fewer than 2 ^ 32 variables.
use Rattle.std.proofs.Common.{◌≡◌, ℕ, zero, suc, ◌+◌, ◌*◌, ◌^◌, ◌<◌, ◌≤◌, Bool, not, List, [], ◌∷◌, ◌++◌, map, filter, length, arith, subst, length-append}
use Rattle.std.proofs.lemmas.List.{length-map}
use Rattle.std.proofs.lemmas.List.Sums.{count_by-le-length, length-filter}
use Rattle.tsc_bits.proofs.Below.{all_below, few_below}
use Rattle.fault_secure.specs.Circuit.{Circuit, NodeOf}
use Rattle.fault_secure.specs.CodePlan.{CodePlan, HasGroups, HasShape, IsWellMade, concat_places, members, members_from}
use Rattle.fault_secure.specs.declared.code.Code.{Code}
use Rattle.fault_secure.specs.declared.code.Code.TheVariants.{Parity}
use Rattle.refutations.specs.declared.literal.Literal.{Literal}
use Rattle.tsc_cover.specs.Cover.{Literal as PinLiteral}
use Rattle.exact_question.specs.Variables.{Copy, Source, Right, Failing, Variable, Input, Differs, OutputDiffers, Odd, RailsDiffer, Unheard, spread}
use Rattle.exact_question.specs.Rows.{asked, clashes, once, rows_of}
use Rattle.exact_question.specs.Question.{chosen_variables, failing_variables, group_variables, input_variables, node_variables, row_variables, variables}
use Rattle.question_answers.specs.Sizes.{size_of}

-- ---- lists that are spread

each_few : {A : Type 0} (f : ℕ → A → List Variable) → ((k : ℕ) (a : A) → length (f k a) ≤ 1) → (items : List A) → length (spread f items) ≤ length items
each_few f each [] = omega arith
each_few f each (a ∷ items) =
    omega (arith, length-append (f 0 a) (spread (λ k. f (suc k)) items), each 0 a, each_few (λ k. f (suc k)) (λ k. each (suc k)) items)

nodes_few : (f : ℕ → NodeOf → List Variable) → ((j : ℕ) (n : NodeOf) → length (f j n) ≤ 5 + length n.cover.rows) → (nodes : List NodeOf) → length (spread f nodes) ≤ 5 * size_of nodes
nodes_few f each [] = omega arith
nodes_few f each (n ∷ nodes) =
    omega (arith, length-append (f 0 n) (spread (λ j. f (suc j)) nodes), each 0 n, nodes_few (λ j. f (suc j)) (λ j. each (suc j)) nodes)

groups_few : (f : ℕ → List ℕ → List Variable) → ((g : ℕ) (places : List ℕ) (check : ℕ) → length (f g (places ++ check ∷ [])) ≤ length places)
    → (check : ℕ) (groups : List (List ℕ)) → length (spread f (members_from check groups)) ≤ length (concat_places groups)
groups_few f each check [] = omega arith
groups_few f each check (group ∷ groups) =
    omega (
      arith,
      length-append (f 0 (group ++ check ∷ [])) (spread (λ g. f (suc g)) (members_from (suc check) groups)),
      each 0 group check,
      length-append group (concat_places groups),
      groups_few (λ g. f (suc g)) (λ g. each (suc g)) (suc check) groups,
    )

-- ---- what each item has

row_few : (copy : Copy) (j r : ℕ) (row : List Literal) → length (row_variables copy j r row) ≤ 1
row_few copy j r [] = omega arith
row_few copy j r (l ∷ []) = omega arith
row_few copy j r (l ∷ m ∷ ls) = omega arith

-- a node asks no more rows than its cover has
pub rows_few : (n : NodeOf) → length (rows_of n) ≤ length n.cover.rows
rows_few n =
    let lists : List (List Literal) = map (λ (row : List PinLiteral). asked row n.reads) n.cover.rows in
    let kept : List Literal → Bool = λ ls. not (clashes ls) in
    omega (arith, length-map (filter kept lists) once, length-filter kept lists, count_by-le-length kept lists, length-map n.cover.rows (λ (row : List PinLiteral). asked row n.reads))

spread_rows_few : (copy : Copy) (j : ℕ) (n : NodeOf) → length (spread (row_variables copy j) (rows_of n)) ≤ length n.cover.rows
spread_rows_few copy j n = omega (arith, each_few (row_variables copy j) (row_few copy j) (rows_of n), rows_few n)

node_few : (copy : Copy) (j : ℕ) (n : NodeOf) → length (node_variables copy j n) ≤ 5 + length n.cover.rows
node_few copy j n = omega (arith, spread_rows_few copy j n)

chosen_few : (j : ℕ) → length (chosen_variables j) ≤ 1
chosen_few zero = omega arith
chosen_few (suc j) = omega arith

failing_few : (j : ℕ) (n : NodeOf) → length (failing_variables j n) ≤ 5 + length n.cover.rows
failing_few j n =
    omega (
      arith,
      spread_rows_few Failing j n,
      chosen_few j,
      length-append (spread (row_variables Failing j) (rows_of n)) (Differs j ∷ chosen_variables j),
    )

group_few : (g : ℕ) (places : List ℕ) (check : ℕ) → length (group_variables g (places ++ check ∷ [])) ≤ length places
group_few g [] check = omega arith
group_few g (place ∷ places) check =
    omega (arith, each_few (λ k (place : ℕ). Odd g k ∷ []) (λ k place. omega arith) (places ++ check ∷ []), length-append places (check ∷ []))

inputs_few : (n : ℕ) → length (input_variables n) ≤ n
inputs_few zero = omega arith
inputs_few (suc n) = omega (arith, length-append (input_variables n) (Input n ∷ []), inputs_few n)

-- each output stands in one group
pub places_few : (P : CodePlan) → HasGroups P → length (concat_places P.groups) ≤ P.outputs
places_few P has = omega (arith, all_below P.outputs (concat_places P.groups) has.within, few_below P.outputs (concat_places P.groups) has.once)

-- ---- all of them

pub few_variables : (C N : Circuit) (P : CodePlan) → IsWellMade P → P.code ≡ Parity → P.outputs ≡ length C.outputs → N.inputs ≤ 1024
    → size_of C.nodes ≤ 67108866 → size_of N.nodes ≤ 67108866 → length (variables C N P) < 2 ^ 32
few_variables C N P made parity outputs inputs source right =
    let of_inputs = input_variables N.inputs in
    let of_source = spread (node_variables Source) C.nodes in
    let of_right = spread (node_variables Right) N.nodes in
    let of_failing = spread failing_variables N.nodes in
    let of_outputs : List Variable = spread (λ place (net : ℕ). OutputDiffers place ∷ []) C.outputs in
    let of_groups = spread group_variables (members P) in
    let shape : Code → Type 0 = λ code. HasShape code P in
    let most = made.most_outputs in
    omega (
      arith,
      most,
      outputs,
      inputs,
      source,
      right,
      inputs_few N.inputs,
      nodes_few (node_variables Source) (node_few Source) C.nodes,
      nodes_few (node_variables Right) (node_few Right) N.nodes,
      nodes_few failing_variables failing_few N.nodes,
      each_few (λ place (net : ℕ). OutputDiffers place ∷ []) (λ k net. omega arith) C.outputs,
      groups_few group_variables group_few P.outputs P.groups,
      places_few P (subst shape parity made.shape),
      length-append of_inputs of_source,
      length-append (of_inputs ++ of_source) of_right,
      length-append (of_inputs ++ of_source ++ of_right) of_failing,
      length-append (of_inputs ++ of_source ++ of_right ++ of_failing) of_outputs,
      length-append (of_inputs ++ of_source ++ of_right ++ of_failing ++ of_outputs) of_groups,
      length-append (of_inputs ++ of_source ++ of_right ++ of_failing ++ of_outputs ++ of_groups) (RailsDiffer Right ∷ RailsDiffer Failing ∷ Unheard ∷ []),
    )
