-- Clauses that are given, one list after another.
use Rattle.std.proofs.Common.{◌≡◌, ℕ, ◌+◌, ◌<◌, not, List, [], ◌∷◌, ◌++◌, map, filter, drop, length, slice_index_or, All, refl, sym, ap, ◌∙◌, subst, arith, append_assoc, append-nil, length-append}
use Rattle.std.proofs.lemmas.List.{map-append, at_drop_more}
use Rattle.std.proofs.lemmas.List.Elements.{filter-append}
use Rattle.tsc_bits.proofs.Lists.{all_left, all_right}
use Rattle.fault_secure.specs.CodePlan.{CodePlan}
use Rattle.fault_secure.specs.Circuit.{Circuit, node, no_node, node_net}
use Rattle.refutations.specs.declared.literal.Literal.{Literal}
use Rattle.refutations.specs.Checking.{AreWithin, CheckerState, IsSound, empty_checker, with_clause}
use Rattle.refutations.proofs.Soundness.{sound_empty, sound_given}
use Rattle.exact_question.specs.Question.{question, variables}
use Rattle.exact_question.specs.Rows.{clashes, once, written}
use Rattle.question_text.specs.declared.cells.Cell.{Cell}
use Rattle.question_text.specs.Nodes.{node_gates, nodes_gates}
use Rattle.question_text.specs.Failing.{cell_at, cell_gates, choice_gates, failing_gates}
use Rattle.question_text.specs.Gates.{after_clauses}
use Rattle.question_text.specs.Giving.{CanBeGiven, given, question_state}
use Rattle.question_text.proofs.Once.{after_clauses-written}

pub given-append : (state : CheckerState) (as_ bs : List (List Literal)) → given state (as_ ++ bs) ≡ given (given state as_) bs
given-append state [] bs = refl
given-append state (a ∷ as_) bs = given-append (with_clause state (state.last + 1) a) as_ bs

pub given_variables : (state : CheckerState) (clauses : List (List Literal)) → (given state clauses).variables ≡ state.variables
given_variables state [] = refl
given_variables state (c ∷ clauses) = given_variables (with_clause state (state.last + 1) c) clauses

pub given_last : (state : CheckerState) (clauses : List (List Literal)) → (given state clauses).last ≡ state.last + length clauses
given_last state [] = omega arith
given_last state (c ∷ clauses) = omega (arith, given_last (with_clause state (state.last + 1) c) clauses)

pub written-append : (as_ bs : List (List Literal)) → written (as_ ++ bs) ≡ written as_ ++ written bs
written-append as_ bs =
    ap (map once) (filter-append (λ ls. not (clashes ls)) as_ bs) ∙ map-append once (filter (λ ls. not (clashes ls)) as_) (filter (λ ls. not (clashes ls)) bs)

-- a checker that can be given all can be given the first ones, and then the others
pub first_given : (state : CheckerState) (as_ bs : List (List Literal)) → CanBeGiven state (as_ ++ bs) → CanBeGiven state as_
first_given state as_ bs all = record {
  within = all_left (AreWithin state.variables) as_ bs all.within;
  room = let room = all.room in omega (arith, length-append as_ bs);
}

pub later_given : (state : CheckerState) (as_ bs : List (List Literal)) → CanBeGiven state (as_ ++ bs) → CanBeGiven (given state as_) bs
later_given state as_ bs all = record {
  within = subst (λ (n : ℕ). All (AreWithin n) bs) (sym (given_variables state as_)) (all_right (AreWithin state.variables) as_ bs all.within);
  room = let room = all.room in omega (arith, length-append as_ bs, given_last state as_);
}

-- clauses of which the first ones were given: the others are left
pub record IsLeft (start : CheckerState) (all : List (List Literal)) (state : CheckerState) (rest : List (List Literal)) : Type 0 where
  pub given : given state rest ≡ given start all
  pub can : CanBeGiven state rest

-- some more were given
pub left_more : (start : CheckerState) (all : List (List Literal)) (state next : CheckerState) (rest some after : List (List Literal)) → IsLeft start all state rest → rest ≡ some ++ after
    → next ≡ given state some → IsLeft start all next after
left_more start all state next rest some after left is more =
    let can : CanBeGiven state (some ++ after) = subst (CanBeGiven state) is left.can in
    subst (λ (s : CheckerState). IsLeft start all s after) (sym more) (record {
      given = sym (given-append state some after) ∙ ap (given state) (sym is) ∙ left.given;
      can = later_given state some after can;
    })

-- what can be given next
pub left_next : (start : CheckerState) (all : List (List Literal)) (state : CheckerState) (rest some after : List (List Literal)) → IsLeft start all state rest → rest ≡ some ++ after → CanBeGiven state some
left_next start all state rest some after left is = first_given state some after (subst (CanBeGiven state) is left.can)

-- ---- lists of clauses

pub clauses_next : (clauses : List (List Literal)) (i : ℕ) (c : List Literal) → i < length clauses → c ≡ slice_index_or clauses i c → drop i clauses ≡ (c ∷ []) ++ drop (i + 1) clauses
clauses_next clauses i c inside is = at_drop_more (λ (cs : List (List Literal)). cs) clauses i c inside ∙ ap (λ (d : List Literal). d ∷ drop (i + 1) clauses) (sym is)

-- ---- the nodes of a circuit

module _ (numbers : List ℕ) (N : Circuit) where
  abbrev pub nodes_left : ℕ → List (List Literal)
  nodes_left j = written (nodes_gates numbers (node_net N j) (drop j N.nodes))

  pub nodes_next : (j : ℕ) → j < length N.nodes → nodes_left j ≡ written (node_gates numbers (slice_index_or numbers (node_net N j) 0) (node N j)) ++ nodes_left (j + 1)
  nodes_next j inside =
      ap written (at_drop_more (nodes_gates numbers (node_net N j)) N.nodes j no_node inside)
      ∙ written-append (node_gates numbers (slice_index_or numbers (node_net N j) 0) (node N j)) (nodes_gates numbers (node_net N j + 1) (drop (j + 1) N.nodes))
      ∙ ap (λ (net : ℕ). written (node_gates numbers (slice_index_or numbers (node_net N j) 0) (node N j)) ++ written (nodes_gates numbers net (drop (j + 1) N.nodes)))
      (let e : node_net N j + 1 ≡ node_net N (j + 1) = omega arith in e)

module _ (numbers right : List ℕ) (N : Circuit) (cells : List Cell) where
  abbrev pub cells_left : ℕ → List (List Literal)
  cells_left j = written (failing_gates numbers right N.inputs cells j (node_net N j) (drop j N.nodes))

  abbrev pub of_cell : ℕ → List (List Literal)
  of_cell j = cell_gates numbers (slice_index_or right (node_net N j) 0) N.inputs cells (cell_at cells j) (node N j) ++ choice_gates cells j

  pub cells_next : (j : ℕ) → j < length N.nodes → cells_left j ≡ written (of_cell j) ++ cells_left (j + 1)
  cells_next j inside =
      ap written (at_drop_more (failing_gates numbers right N.inputs cells j (node_net N j)) N.nodes j no_node inside)
      ∙ written-append (of_cell j) (failing_gates numbers right N.inputs cells (j + 1) (node_net N j + 1) (drop (j + 1) N.nodes))
      ∙ ap (λ (net : ℕ). written (of_cell j) ++ written (failing_gates numbers right N.inputs cells (j + 1) net (drop (j + 1) N.nodes)))
      (let e : node_net N j + 1 ≡ node_net N (j + 1) = omega arith in e)

-- ---- lists of clauses before they are written

pub can_first : (s : CheckerState) (A B : List (List Literal)) → CanBeGiven s (written (A ++ B)) → CanBeGiven s (written A)
can_first s A B all = first_given s (written A) (written B) (subst (CanBeGiven s) (written-append A B) all)

pub can_later : (s t : CheckerState) (A B : List (List Literal)) → CanBeGiven s (written (A ++ B)) → t ≡ given s (written A) → CanBeGiven t (written B)
can_later s t A B all is =
    subst (λ (u : CheckerState). CanBeGiven u (written B)) (sym is) (later_given s (written A) (written B) (subst (CanBeGiven s) (written-append A B) all))

pub both_given : (s t u : CheckerState) (A B : List (List Literal)) → t ≡ given s (written A) → u ≡ given t (written B) → u ≡ given s (written (A ++ B))
both_given s t u A B first second =
    second ∙ ap (λ (v : CheckerState). given v (written B)) first ∙ sym (given-append s (written A) (written B)) ∙ ap (given s) (sym (written-append A B))

-- what was made from no clause on is what is written
pub made_is : (none list gates : List (List Literal)) → none ≡ [] → list ≡ after_clauses none gates → list ≡ written gates
made_is none list gates empty made = made ∙ ap (λ (out : List (List Literal)). after_clauses out gates) empty ∙ after_clauses-written [] gates

-- and so it is given
pub made_given : (s t : CheckerState) (none list gates : List (List Literal)) → none ≡ [] → list ≡ after_clauses none gates → t ≡ given s list → t ≡ given s (written gates)
made_given s t none list gates empty made is = is ∙ ap (given s) (made_is none list gates empty made)

pub can_made : (s : CheckerState) (none list gates : List (List Literal)) → none ≡ [] → list ≡ after_clauses none gates → CanBeGiven s (written gates) → CanBeGiven s list
can_made s none list gates empty made can = subst (CanBeGiven s) (sym (made_is none list gates empty made)) can

-- two lists, and three, that are given one after another, each by another name
module _ (s : CheckerState) (A B : List (List Literal)) (all : CanBeGiven s (written (A ++ B))) where
  pub can_one : (a : List (List Literal)) → a ≡ A → CanBeGiven s (written a)
  can_one a is = subst (λ (g : List (List Literal)). CanBeGiven s (written g)) (sym is) (can_first s A B all)

  one_given : (t : CheckerState) (a : List (List Literal)) → a ≡ A → t ≡ given s (written a) → t ≡ given s (written A)
  one_given t a is e = e ∙ ap (λ (g : List (List Literal)). given s (written g)) is

  pub can_two : (t : CheckerState) (a b : List (List Literal)) → a ≡ A → b ≡ B → t ≡ given s (written a) → CanBeGiven t (written b)
  can_two t a b is also e = subst (λ (g : List (List Literal)). CanBeGiven t (written g)) (sym also) (can_later s t A B all (one_given t a is e))

  pub two_given : (t u : CheckerState) (a b : List (List Literal)) → a ≡ A → b ≡ B → t ≡ given s (written a) → u ≡ given t (written b) → u ≡ given s (written (A ++ B))
  two_given t u a b is also e f = both_given s t u A B (one_given t a is e) (f ∙ ap (λ (g : List (List Literal)). given t (written g)) also)

module _ (s : CheckerState) (A B F : List (List Literal)) (all : CanBeGiven s (written (A ++ B ++ F))) where
  first_two : CanBeGiven s (written (A ++ B))
  first_two = can_first s (A ++ B) F all

  pub can_first_of : (a : List (List Literal)) → a ≡ A → CanBeGiven s (written a)
  can_first_of a is = can_one s A B first_two a is

  pub can_second_of : (t : CheckerState) (a b : List (List Literal)) → a ≡ A → b ≡ B → t ≡ given s (written a) → CanBeGiven t (written b)
  can_second_of t a b is also e = can_two s A B first_two t a b is also e

  pub can_third_of : (t u : CheckerState) (a b f : List (List Literal)) → a ≡ A → b ≡ B → f ≡ F → t ≡ given s (written a) → u ≡ given t (written b) → CanBeGiven u (written f)
  can_third_of t u a b f is also last e g = can_two s (A ++ B) F all u (A ++ B) f refl last (two_given s A B first_two t u a b is also e g)

  pub three_given : (t u v : CheckerState) (a b f : List (List Literal)) → a ≡ A → b ≡ B → f ≡ F → t ≡ given s (written a) → u ≡ given t (written b) → v ≡ given u (written f)
      → v ≡ given s (written (A ++ B ++ F))
  three_given t u v a b f is also last e g h = two_given s (A ++ B) F all u v (A ++ B) f refl last (two_given s A B first_two t u a b is also e g) h

-- ---- what is given is implied

given_is_sound : (formula : List (List Literal)) (state : CheckerState) (clauses : List (List Literal)) → IsSound formula state → IsSound (formula ++ clauses) (given state clauses)
given_is_sound formula state [] sound = subst (λ (f : List (List Literal)). IsSound f state) (sym (append-nil formula)) sound
given_is_sound formula state (c ∷ clauses) sound =
    subst (λ (f : List (List Literal)). IsSound f (given (with_clause state (state.last + 1) c) clauses)) (append_assoc formula (c ∷ []) clauses)
    (given_is_sound (formula ++ c ∷ []) (with_clause state (state.last + 1) c) clauses (sound_given formula state (state.last + 1) c sound))

-- a checker that holds the question is sound for it
pub question_is_sound : (C N : Circuit) (P : CodePlan) → IsSound (question C N P) (question_state C N P)
question_is_sound C N P = given_is_sound [] (empty_checker (length (variables C N P))) (question C N P) (sound_empty [] (length (variables C N P)))
