-- The clauses of the code are the question, and its lines are the text.
use Rattle.std.proofs.Common.{◌≡◌, ℕ, ◌+◌, ◌<◌, List, [], ◌∷◌, ◌++◌, codes, map, length, slice_index, slice_index_or, refl, sym, ap, ap₂, ◌∙◌, arith}
use Rattle.std.specs.List.{flat_map}
use Rattle.std.proofs.lemmas.List.{get_or_append_left}
use Rattle.fault_secure.specs.Circuit.{Circuit, node_net, no_node}
use Rattle.fault_secure.specs.CodePlan.{CodePlan}
use Rattle.fault_secure.specs.declared.code.Code.TheVariants.{Parity}
use Rattle.refutations.specs.declared.literal.Literal.{Literal}
use Rattle.tsc_net.specs.Names.{text_at}
use Rattle.tsc_net.specs.NetlistOf.{NetlistOf}
use Rattle.tsc_net.specs.PlanView.{plan_of, net_numbers, KeepsRules}
use Rattle.tsc_net.specs.declared.ids.NetId.{NetId}
use Rattle.tsc_net.specs.declared.plan.Group.{Group}
use Rattle.tsc_net.specs.declared.plan.Plan.TheInside.{Inside}
use Rattle.exact_question.specs.Variables.{Source, Right, Failing, Variable, Net, Choice, Unheard, number_of, spread}
use Rattle.exact_question.specs.Rows.{written}
use Rattle.exact_question.specs.Question.{input_variables, variables, question}
use Rattle.exact_question.specs.Laws.{IsAsked}
use Rattle.question_text.specs.declared.numbers.Numbers.{Numbers}
use Rattle.question_text.specs.Nodes.{first_numbers, numbers_from}
use Rattle.question_text.specs.Failing.{cell_at}
use Rattle.question_text.specs.Whole.{right_first, rails_first, numbers_of, all_gates}
use Rattle.question_text.specs.Groups.{AreGroups}
use Rattle.question_text.specs.Text.{name_line, header, clause_line, comments, question_text}
use Rattle.question_text.specs.Lines.{net_lines, cell_lines, cells_lines, comment_lines}
use Rattle.question_text.proofs.Places.{inputs_long}
use Rattle.question_text.proofs.Numbered.{num_input, at_input, num_source, num_right, all_long}
use Rattle.question_text.proofs.Spreads.{first_long, first_at}
use Rattle.question_text.proofs.Law.{all_are, end_is, source_at, right_at, of_choice, of_wrong}
use Rattle.question_text.proofs.TextLines.{net_lines_are, cells_lines_are}

-- what a plan keeps of its groups
each_check : (groups : List Group) → map (λ (net : NetId). net.number) (map (λ (g : Group). g.check) groups) ≡ map (λ g. g.check.number) groups
each_check [] = refl
each_check (g ∷ groups) = ap (λ rest. g.check.number ∷ rest) (each_check groups)

pub groups_kept : (p : Inside) (P : CodePlan) → plan_of p ≡ P → KeepsRules p → P.code ≡ Parity → AreGroups P p.groups
groups_kept p P view rules parity = record {
  places = sym (ap (λ (Q : CodePlan). Q.groups) view);
  checks =
      sym (ap (λ (Q : CodePlan). Q.checks) view)
      ∙ ap net_numbers (sym (rules.same_checks (ap (λ (Q : CodePlan). Q.code) view ∙ parity))) ∙ each_check p.groups;
}

module _ (C N : Circuit) (P : CodePlan) (groups : List Group) (asked : IsAsked C N P) (are : AreGroups P groups) where
  pub question_is : written (all_gates (numbers_of C N groups) C N P groups) ≡ question C N P
  question_is = ap written (sym (all_are C N P groups asked are))

  pub count_is : length (variables C N P) ≡ rails_first C N groups + 3
  count_is = all_long C N P (rails_first C N groups) (end_is C N P groups asked are)

module _ (S N : NetlistOf) (P : CodePlan) (groups : List Group) (asked : IsAsked S.circuit N.circuit P) (are : AreGroups P groups) where
  abbrev all : List Variable
  all = variables S.circuit N.circuit P

  abbrev n : Numbers
  n = numbers_of S.circuit N.circuit groups

  inputs_named : spread (λ i v. name_line (codes "input") (number_of v all) (text_at N.names i)) (input_variables N.circuit.inputs) ≡ net_lines (codes "input") N.names n.right 0 N.circuit.inputs
  inputs_named =
      net_lines_are (λ i v. name_line (codes "input") (number_of v all) (text_at N.names i)) (codes "input") N.names n.right 0 (input_variables N.circuit.inputs) Unheard (λ i inside.
      let low : i < N.circuit.inputs = omega (arith, inputs_long N.circuit.inputs, inside) in
      let long : i < length (first_numbers N.circuit.inputs) = omega (arith, first_long N.circuit.inputs, low) in
      let here = at_input N.circuit.inputs i low in
      let number : number_of (slice_index_or (input_variables N.circuit.inputs) i Unheard) all ≡ i = ap (λ v. number_of v all) here.here ∙ num_input S.circuit N.circuit P i low in
      let kept : slice_index n.right i ≡ i = get_or_append_left (first_numbers N.circuit.inputs) (numbers_from (right_first S.circuit N.circuit) N.circuit.nodes) 0 i long ∙ first_at N.circuit.inputs i low in
      ap (λ k. name_line (codes "input") k (text_at N.names i)) (number ∙ sym kept)
      ∙ ap (λ k. name_line (codes "input") (slice_index n.right k) (text_at N.names k)) (let e : i ≡ 0 + i = omega arith in e))
      ∙ ap (net_lines (codes "input") N.names n.right 0) (inputs_long N.circuit.inputs)

  source_named : spread (λ j m. name_line (codes "net") (number_of (Net Source j) all) (text_at S.names (node_net S.circuit j))) S.circuit.nodes
      ≡ net_lines (codes "net") S.names n.source (node_net S.circuit 0) (length S.circuit.nodes)
  source_named =
      net_lines_are (λ j m. name_line (codes "net") (number_of (Net Source j) all) (text_at S.names (node_net S.circuit j))) (codes "net") S.names n.source (node_net S.circuit 0) S.circuit.nodes no_node
      (λ j inside. ap₂ (λ k net. name_line (codes "net") k (text_at S.names net))
      (num_source S.circuit N.circuit P j inside ∙ sym (source_at S.circuit N.circuit P groups asked are j)) (let e : node_net S.circuit j ≡ node_net S.circuit 0 + j = omega arith in e))

  right_named : spread (λ j m. name_line (codes "net") (number_of (Net Right j) all) (text_at N.names (node_net N.circuit j))) N.circuit.nodes
      ≡ net_lines (codes "net") N.names n.right (node_net N.circuit 0) (length N.circuit.nodes)
  right_named =
      net_lines_are (λ j m. name_line (codes "net") (number_of (Net Right j) all) (text_at N.names (node_net N.circuit j))) (codes "net") N.names n.right (node_net N.circuit 0) N.circuit.nodes no_node
      (λ j inside. ap₂ (λ k net. name_line (codes "net") k (text_at N.names net))
      (num_right S.circuit N.circuit P j inside ∙ sym (right_at S.circuit N.circuit P groups asked are j)) (let e : node_net N.circuit j ≡ node_net N.circuit 0 + j = omega arith in e))

  cell_named : (j : ℕ) → j < length N.circuit.nodes
      → name_line (codes "cell") (number_of (Choice j) all) (text_at N.names (node_net N.circuit j)) ++ name_line (codes "wrong") (number_of (Net Failing j) all) (text_at N.names (node_net N.circuit j))
      ≡ cell_lines N.names (cell_at n.cells (0 + j)) (node_net N.circuit 0 + j)
  cell_named j inside =
      ap₂ (λ a b. name_line (codes "cell") a (text_at N.names (node_net N.circuit j)) ++ name_line (codes "wrong") b (text_at N.names (node_net N.circuit j)))
      (of_choice S.circuit N.circuit P groups asked are j inside) (of_wrong S.circuit N.circuit P groups asked are j inside)
      ∙ ap₂ (λ k net. cell_lines N.names (cell_at n.cells k) net) (let e : j ≡ 0 + j = omega arith in e) (let e : node_net N.circuit j ≡ node_net N.circuit 0 + j = omega arith in e)

  cells_named : spread (λ j m.
      name_line (codes "cell") (number_of (Choice j) all) (text_at N.names (node_net N.circuit j)) ++ name_line (codes "wrong") (number_of (Net Failing j) all) (text_at N.names (node_net N.circuit j))) N.circuit.nodes
      ≡ cells_lines N.names n.cells 0 (node_net N.circuit 0) (length N.circuit.nodes)
  cells_named = cells_lines_are (λ j m.
      name_line (codes "cell") (number_of (Choice j) all) (text_at N.names (node_net N.circuit j)) ++ name_line (codes "wrong") (number_of (Net Failing j) all) (text_at N.names (node_net N.circuit j)))
      N.names n.cells 0 (node_net N.circuit 0) N.circuit.nodes no_node cell_named

  comments_are : comments S N all ≡ comment_lines S N n
  comments_are = ap₂ (λ a b. a ++ b) (ap₂ (λ a b. a ++ b) (ap₂ (λ a b. a ++ b) inputs_named source_named) right_named) cells_named

  -- the text of these numbers and clauses is that of the question
  pub text_is : (numbers : Numbers) (clauses : List (List Literal)) → numbers ≡ n → clauses ≡ question S.circuit N.circuit P
      → comment_lines S N numbers ++ header (numbers.rails + 3) (length clauses) ++ flat_map clause_line clauses ≡ question_text S N P
  text_is numbers clauses same are_clauses =
      ap (λ (k : Numbers). comment_lines S N k ++ header (k.rails + 3) (length clauses) ++ flat_map clause_line clauses) same
      ∙ ap₂ (λ a b. a ++ header (rails_first S.circuit N.circuit groups + 3) (length b) ++ flat_map clause_line b) (sym comments_are) are_clauses
      ∙ ap (λ k. comments S N all ++ header k (length (question S.circuit N.circuit P)) ++ flat_map clause_line (question S.circuit N.circuit P)) (sym (count_is S.circuit N.circuit P groups asked are))
