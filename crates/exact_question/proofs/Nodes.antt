-- The clauses of nodes hold under the meaning of the variables: those of the two copies without a fault, and those of the one with a failing cell.
use Rattle.std.proofs.Common.{◌≡◌, ℕ, zero, suc, ◌+◌, ◌<◌, Bool, true, false, ◌||◌, List, [], ◌∷◌, ◌++◌, length, All, refl, sym, ap, ap₂, ◌∙◌, arith}
use Rattle.std.specs.List.{list_any}
use Rattle.std.proofs.lemmas.Bool.{false≢true}
use Rattle.std.proofs.lemmas.List.Elements.{All-cons, All-from_get_or}
use Rattle.tsc_bits.specs.Counting.{differ}
use Rattle.tsc_cover.specs.Cover.{truth}
use Rattle.fault_secure.specs.Circuit.{Circuit, node, no_node, nets, bit}
use Rattle.fault_secure.specs.StuckAt.{NoFault}
use Rattle.fault_secure.specs.Closed.{IsClosed}
use Rattle.fault_secure.specs.Settle.{Settles, node_value}
use Rattle.fault_secure.specs.CodePlan.{CodePlan}
use Rattle.fault_secure.specs.FailingCell.{SettlesBut}
use Rattle.refutations.specs.Clauses.{same}
use Rattle.exact_question.specs.Variables.{Source, Right, Failing, Net, Choice, Gate, Differs, Chosen, spread}
use Rattle.exact_question.specs.Gates.{Claim, yes, no, some_holds, xor_clauses}
use Rattle.exact_question.specs.Question.{chosen_by, one_choice, differs_at, cover_clauses, node_clauses, failing_clauses, variables}
use Rattle.exact_question.specs.Laws.{IsAsked}
use Rattle.exact_question.proofs.Numbers.{All-spread}
use Rattle.exact_question.proofs.Written.{IsGood}
use Rattle.exact_question.proofs.Gates.{Knows, Good, good_nil, good_cons, good_append, know_two, xor_good, same_true}
use Rattle.exact_question.proofs.Covers.{cover_good}
use Rattle.exact_question.proofs.Known.{source_net, right_net, wrong_known, gate_known, choice_known, differs_known, chosen_known, source_rows, right_rows, failing_rows}
use Rattle.exact_question.proofs.Meaning.{meaning, choice, chosen, value_is, source_known, source_means, right_known, right_means, failing_known, failing_means, differs_are_known, differs_means, none_differs, choice_is_cell, chosen_is_cell}

-- the pins of a node of a closed circuit read its nets
pub reads_within : (C : Circuit) → IsClosed C → (j : ℕ) → j < length C.nodes → All (λ net. net < nets C) (node C j).reads
reads_within C closed j inside = All-from_get_or (λ net. net < nets C) (node C j).reads 0 (λ pin below. closed.pins j pin inside below)

-- a bit is a gate's, but where it differs from it
differ_back : (a g : Bool) → a ≡ differ g (differ a g)
differ_back true true = refl
differ_back true false = refl
differ_back false true = refl
differ_back false false = refl

-- where the difference says so, the node is chosen or a pin differs
so_differs : (d c r : Bool) → (c ≡ false → r ≡ false → d ≡ false) → (same d false || (same c true || r)) ≡ true
so_differs true true r so = refl
so_differs true false true so = refl
so_differs true false false so = absurd (false≢true (sym (so refl refl)))
so_differs false c r so = refl

differ_equal : (a b : Bool) → a ≡ b → differ a b ≡ false
differ_equal true true e = refl
differ_equal true false e = absurd (false≢true (sym e))
differ_equal false true e = absurd (false≢true e)
differ_equal false false e = refl

not_differ : (a b : Bool) → differ a b ≡ false → a ≡ b
not_differ true true e = refl
not_differ true false e = absurd (false≢true (sym e))
not_differ false true e = absurd (false≢true (sym e))
not_differ false false e = refl

-- one choice: what came before stays, and comes with no other
stays : (b c : Bool) → (same b false || (same (b || c) true || false)) ≡ true
stays true c = refl
stays false c = refl

comes : (b c : Bool) → (same c false || (same (b || c) true || false)) ≡ true
comes true true = refl
comes true false = refl
comes false true = refl
comes false false = refl

not_twice : (b c : Bool) → (b ≡ true → c ≡ true → ⊥) → (same c false || (same b false || false)) ≡ true
not_twice true true no = absurd (no refl refl)
not_twice true false no = refl
not_twice false true no = refl
not_twice false false no = refl

module _ (C N : Circuit) (P : CodePlan) (asked : IsAsked C N P) (cell : ℕ) (x s t z : ℕ → Bool) (w v u : List Bool)
    (source : Settles C NoFault x z w) (right : Settles N NoFault x s v) (failing : SettlesBut N cell x t u) where
  abbrev pub AllGood : List (List Claim) → Type 0
  AllGood clauses = Good (variables C N P) (meaning C N P w v u) clauses

  -- ---- without a fault

  source_good : (j : ℕ) → j < length C.nodes → AllGood (node_clauses Source C.inputs j (node C j))
  source_good j inside =
      cover_good (variables C N P) (meaning C N P w v u) Source C.inputs (nets C) (bit w)
      (source_known C N P asked cell x s t z w v u source right failing) (source_means C N P asked cell x s t z w v u source right failing)
      (Net Source j) j (node C j) (source_net C N P j inside) (reads_within C asked.source_closed j inside)
      (λ r below. source_rows C N P j r inside below) (λ r below. refl)
      (ap (bit w) (omega (arith, asked.source_latches)) ∙ source.nodes j inside ∙ value_is C w j)

  right_good : (j : ℕ) → j < length N.nodes → AllGood (node_clauses Right N.inputs j (node N j))
  right_good j inside =
      cover_good (variables C N P) (meaning C N P w v u) Right N.inputs (nets N) (bit v)
      (right_known C N P asked cell x s t z w v u source right failing) (right_means C N P asked cell x s t z w v u source right failing)
      (Net Right j) j (node N j) (right_net C N P j inside) (reads_within N asked.closed j inside)
      (λ r below. right_rows C N P j r inside below) (λ r below. refl)
      (ap (bit v) (omega (arith, asked.latches)) ∙ right.nodes j inside ∙ value_is N v j)

  -- ---- with a failing cell

  gate_good : (j : ℕ) → j < length N.nodes → AllGood (cover_clauses Failing N.inputs (Gate j) j (node N j))
  gate_good j inside =
      cover_good (variables C N P) (meaning C N P w v u) Failing N.inputs (nets N) (bit u)
      (failing_known C N P asked cell x s t z w v u source right failing) (failing_means C N P asked cell x s t z w v u source right failing)
      (Gate j) j (node N j) (gate_known C N P j inside) (reads_within N asked.closed j inside)
      (λ r below. failing_rows C N P j r inside below) (λ r below. refl) (value_is N u j)

  wrong_good : (j : ℕ) → j < length N.nodes → AllGood (xor_clauses (Net Failing j) (yes (Gate j)) (yes (Choice j)))
  wrong_good j inside =
      xor_good (variables C N P) (meaning C N P w v u) (Net Failing j) (yes (Gate j)) (yes (Choice j))
      (wrong_known C N P j inside) (gate_known C N P j inside) (choice_known C N P j inside)
      (differ_back (bit u (N.inputs + j)) (node_value N NoFault u j)
      ∙ sym (ap₂ differ (same_true (node_value N NoFault u j)) (same_true (choice C N P w v u j))))

  differs_good : (j : ℕ) → j < length N.nodes → AllGood (xor_clauses (Differs j) (yes (Net Right j)) (yes (Net Failing j)))
  differs_good j inside =
      xor_good (variables C N P) (meaning C N P w v u) (Differs j) (yes (Net Right j)) (yes (Net Failing j))
      (differs_known C N P j inside) (right_net C N P j inside) (wrong_known C N P j inside)
      (sym (ap₂ differ (same_true (bit v (N.inputs + j))) (same_true (bit u (N.inputs + j)))))

  -- no net differs unless its node is chosen, or a pin differs
  only_so : (j : ℕ) → j < length N.nodes → choice C N P w v u j ≡ false
      → list_any (λ net. differ (bit v net) (bit u net)) (node N j).reads ≡ false → differ (bit v (N.inputs + j)) (bit u (N.inputs + j)) ≡ false
  only_so j inside not_chosen alike =
      differ_equal (bit v (N.inputs + j)) (bit u (N.inputs + j))
      (ap (bit v) (omega (arith, asked.latches)) ∙ right.nodes j inside ∙ value_is N v j
      ∙ ap (truth (node N j).cover) (none_differs C N P asked cell x s t z w v u source right failing (node N j).reads alike)
      ∙ sym (value_is N u j) ∙ sym (not_differ (bit u (N.inputs + j)) (node_value N NoFault u j) not_chosen))

  abbrev only_clause : ℕ → List Claim
  only_clause j = no (Differs j) ∷ yes (Choice j) ∷ differs_at N.inputs (node N j).reads

  only_known : (j : ℕ) → j < length N.nodes → All (Knows (variables C N P) (meaning C N P w v u)) (only_clause j)
  only_known j inside =
      All-cons (Knows (variables C N P) (meaning C N P w v u)) (no (Differs j)) (yes (Choice j) ∷ differs_at N.inputs (node N j).reads) (differs_known C N P j inside)
      (All-cons (Knows (variables C N P) (meaning C N P w v u)) (yes (Choice j)) (differs_at N.inputs (node N j).reads) (choice_known C N P j inside)
      (differs_are_known C N P asked cell x s t z w v u source right failing (node N j).reads (reads_within N asked.closed j inside)))

  only_holds : (j : ℕ) → j < length N.nodes → some_holds (meaning C N P w v u) (only_clause j) ≡ true
  only_holds j inside =
      so_differs (differ (bit v (N.inputs + j)) (bit u (N.inputs + j))) (choice C N P w v u j) (some_holds (meaning C N P w v u) (differs_at N.inputs (node N j).reads))
      (λ c r. only_so j inside c (sym (differs_means C N P asked cell x s t z w v u source right failing (node N j).reads) ∙ r))

  -- ---- at most one choice

  chosen_means : (j : ℕ) → meaning C N P w v u (chosen_by j) ≡ chosen C N P w v u j
  chosen_means zero = refl
  chosen_means (suc j) = refl

  never_two : (j : ℕ) → suc j < length N.nodes → chosen C N P w v u j ≡ true → choice C N P w v u (suc j) ≡ true → ⊥
  never_two j inside before here =
      let low = chosen_is_cell C N P asked cell x s t z w v u source right failing j (omega arith) before in
      let at = choice_is_cell C N P asked cell x s t z w v u source right failing (suc j) inside here in
      omega arith

  one_good : (j : ℕ) → j < length N.nodes → AllGood (one_choice j)
  one_good zero inside = good_nil (variables C N P) (meaning C N P w v u)
  one_good (suc j) inside =
      let before : List Claim = no (chosen_by j) ∷ yes (Chosen (suc j)) ∷ [] in
      let here : List Claim = no (Choice (suc j)) ∷ yes (Chosen (suc j)) ∷ [] in
      let never : List Claim = no (Choice (suc j)) ∷ no (chosen_by j) ∷ [] in
      let in_before = chosen_known C N P j (omega arith) in let in_chosen = chosen_known C N P (suc j) inside in let in_choice = choice_known C N P (suc j) inside in
      good_cons (variables C N P) (meaning C N P w v u) before (here ∷ never ∷ []) (know_two (variables C N P) (meaning C N P w v u) (no (chosen_by j)) (yes (Chosen (suc j))) in_before in_chosen)
      (ap (λ b. same b false || (same (chosen C N P w v u j || choice C N P w v u (suc j)) true || false)) (chosen_means j) ∙ stays (chosen C N P w v u j) (choice C N P w v u (suc j)))
      (good_cons (variables C N P) (meaning C N P w v u) here (never ∷ []) (know_two (variables C N P) (meaning C N P w v u) (no (Choice (suc j))) (yes (Chosen (suc j))) in_choice in_chosen)
      (comes (chosen C N P w v u j) (choice C N P w v u (suc j)))
      (good_cons (variables C N P) (meaning C N P w v u) never [] (know_two (variables C N P) (meaning C N P w v u) (no (Choice (suc j))) (no (chosen_by j)) in_choice in_before)
      (ap (λ b. same (choice C N P w v u (suc j)) false || (same b false || false)) (chosen_means j)
      ∙ not_twice (chosen C N P w v u j) (choice C N P w v u (suc j)) (never_two j inside))
      (good_nil (variables C N P) (meaning C N P w v u))))

  failing_good : (j : ℕ) → j < length N.nodes → AllGood (failing_clauses N.inputs j (node N j))
  failing_good j inside =
      let wrong : List (List Claim) = xor_clauses (Net Failing j) (yes (Gate j)) (yes (Choice j)) in
      let gate : List (List Claim) = cover_clauses Failing N.inputs (Gate j) j (node N j) in
      let differs : List (List Claim) = xor_clauses (Differs j) (yes (Net Right j)) (yes (Net Failing j)) in
      good_append (variables C N P) (meaning C N P w v u) (wrong ++ gate ++ differs) (only_clause j ∷ one_choice j)
      (good_append (variables C N P) (meaning C N P w v u) (wrong ++ gate) differs
      (good_append (variables C N P) (meaning C N P w v u) wrong gate (wrong_good j inside) (gate_good j inside)) (differs_good j inside))
      (good_cons (variables C N P) (meaning C N P w v u) (only_clause j) (one_choice j) (only_known j inside) (only_holds j inside) (one_good j inside))

  -- ---- all nodes

  pub nodes_good : AllGood (spread (node_clauses Source C.inputs) C.nodes ++ spread (node_clauses Right N.inputs) N.nodes ++ spread (failing_clauses N.inputs) N.nodes)
  nodes_good =
      let first : List (List Claim) = spread (node_clauses Source C.inputs) C.nodes in
      let second : List (List Claim) = spread (node_clauses Right N.inputs) N.nodes in
      let third : List (List Claim) = spread (failing_clauses N.inputs) N.nodes in
      good_append (variables C N P) (meaning C N P w v u) (first ++ second) third
      (good_append (variables C N P) (meaning C N P w v u) first second
      (All-spread (IsGood (variables C N P) (meaning C N P w v u)) (node_clauses Source C.inputs) C.nodes no_node source_good)
      (All-spread (IsGood (variables C N P) (meaning C N P w v u)) (node_clauses Right N.inputs) N.nodes no_node right_good))
      (All-spread (IsGood (variables C N P) (meaning C N P w v u)) (failing_clauses N.inputs) N.nodes no_node failing_good)
