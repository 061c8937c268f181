-- The valuations that a model of the question gives: one of the source, one of the netlist, and one in which at most one cell fails.
use Rattle.std.proofs.Common.{◌≡◌, ℕ, zero, suc, ◌+◌, ◌-◌, ◌<◌, ◌≤◌, ◌⊎◌, Bool, true, false, not, cond, ◌||◌, List, [], ◌∷◌, ◌++◌, map, filter, length, nat_lt, nat_le, All, refl, sym, ap, ap₂, ◌∙◌, inl, inr, arith}
use Rattle.std.specs.List.{list_any}
use Rattle.std.proofs.lemmas.Bool.{cond-true, cond-false, lt-ltb, le-ltb, leb-true, or_parts, or_from, false≢true, cases_lt, cases_eq}
use Rattle.std.proofs.lemmas.List.Elements.{All-head, All-tail}
use Rattle.tsc_bits.specs.Counting.{differ}
use Rattle.tsc_bits.proofs.Lists.{all_left, all_right}
use Rattle.fault_secure.specs.Circuit.{Circuit, node, no_node, node_net, nets, bit}
use Rattle.fault_secure.specs.StuckAt.{NoFault}
use Rattle.fault_secure.specs.Settle.{Settles, node_value}
use Rattle.fault_secure.specs.CodePlan.{CodePlan, members}
use Rattle.fault_secure.specs.FailingCell.{SettlesBut}
use Rattle.fault_secure.proofs.ByRank.{tabulate, length_tabulate, bit_tabulate}
use Rattle.refutations.specs.Clauses.{same}
use Rattle.exact_question.specs.Variables.{Copy, Source, Right, Failing, Variable, Input, Net, Choice, Gate, Differs, Chosen, spread}
use Rattle.exact_question.specs.Gates.{Claim, yes, no, holds, some_holds, xor_clauses}
use Rattle.exact_question.specs.Question.{of_net, differs_at, chosen_by, one_choice, cover_clauses, node_clauses, failing_clauses, output_clauses, group_clauses, rails_clauses, unheard_clauses, circuit_clauses}
use Rattle.exact_question.specs.Laws.{IsAsked}
use Rattle.exact_question.proofs.Gates.{same_true}
use Rattle.exact_question.proofs.Back.{AreTrue, All-at_spread, xor_back, cover_back}
use Rattle.exact_question.proofs.Meaning.{value_is}
use Rattle.exact_question.proofs.Nodes.{reads_within}

of_input : (copy : Copy) (inputs net : ℕ) → net < inputs → of_net copy inputs net ≡ Input net
of_input copy inputs net inside = cond-true (nat_lt net inputs) (Input net) (Net copy (net - inputs)) (lt-ltb net inputs inside)

of_node : (copy : Copy) (inputs net j : ℕ) → net ≡ inputs + j → of_net copy inputs net ≡ Net copy j
of_node copy inputs net j is =
    cond-false (nat_lt net inputs) (Input net) (Net copy (net - inputs)) (le-ltb net inputs (omega arith)) ∙ ap (Net copy) (omega arith)

differ_itself : (a : Bool) → differ a a ≡ false
differ_itself true = refl
differ_itself false = refl

differ_off : (g c : Bool) → c ≡ false → differ g c ≡ g
differ_off true c is = ap not is
differ_off false c is = is

-- ---- the clauses, part by part

module _ (C N : Circuit) (P : CodePlan) (m : Variable → Bool) (all : AreTrue m (circuit_clauses C N P)) where
  abbrev part : List Claim → Type 0
  part c = some_holds m c ≡ true

  abbrev of_source : List (List Claim)
  of_source = spread (node_clauses Source C.inputs) C.nodes

  abbrev of_right : List (List Claim)
  of_right = spread (node_clauses Right N.inputs) N.nodes

  abbrev of_failing : List (List Claim)
  of_failing = spread (failing_clauses N.inputs) N.nodes

  abbrev of_outputs : List (List Claim)
  of_outputs = spread (output_clauses C N) C.outputs

  abbrev of_groups : List (List Claim)
  of_groups = spread (group_clauses N P) (members P)

  to_wrong_rails : AreTrue m (of_source ++ of_right ++ of_failing ++ of_outputs ++ of_groups ++ rails_clauses Right N P ++ rails_clauses Failing N P)
  to_wrong_rails = all_left part (of_source ++ of_right ++ of_failing ++ of_outputs ++ of_groups ++ rails_clauses Right N P ++ rails_clauses Failing N P) (unheard_clauses N P) all

  to_rails : AreTrue m (of_source ++ of_right ++ of_failing ++ of_outputs ++ of_groups ++ rails_clauses Right N P)
  to_rails = all_left part (of_source ++ of_right ++ of_failing ++ of_outputs ++ of_groups ++ rails_clauses Right N P) (rails_clauses Failing N P) to_wrong_rails

  to_groups : AreTrue m (of_source ++ of_right ++ of_failing ++ of_outputs ++ of_groups)
  to_groups = all_left part (of_source ++ of_right ++ of_failing ++ of_outputs ++ of_groups) (rails_clauses Right N P) to_rails

  to_outputs : AreTrue m (of_source ++ of_right ++ of_failing ++ of_outputs)
  to_outputs = all_left part (of_source ++ of_right ++ of_failing ++ of_outputs) of_groups to_groups

  to_failing : AreTrue m (of_source ++ of_right ++ of_failing)
  to_failing = all_left part (of_source ++ of_right ++ of_failing) of_outputs to_outputs

  pub unheard_true : AreTrue m (unheard_clauses N P)
  unheard_true = all_right part (of_source ++ of_right ++ of_failing ++ of_outputs ++ of_groups ++ rails_clauses Right N P ++ rails_clauses Failing N P) (unheard_clauses N P) all

  pub wrong_rails_true : AreTrue m (rails_clauses Failing N P)
  wrong_rails_true = all_right part (of_source ++ of_right ++ of_failing ++ of_outputs ++ of_groups ++ rails_clauses Right N P) (rails_clauses Failing N P) to_wrong_rails

  pub rails_true : AreTrue m (rails_clauses Right N P)
  rails_true = all_right part (of_source ++ of_right ++ of_failing ++ of_outputs ++ of_groups) (rails_clauses Right N P) to_rails

  pub groups_true : AreTrue m of_groups
  groups_true = all_right part (of_source ++ of_right ++ of_failing ++ of_outputs) of_groups to_groups

  pub outputs_true : AreTrue m of_outputs
  outputs_true = all_right part (of_source ++ of_right ++ of_failing) of_outputs to_outputs

  pub failing_true : (j : ℕ) → j < length N.nodes → AreTrue m (failing_clauses N.inputs j (node N j))
  failing_true j inside = All-at_spread part (failing_clauses N.inputs) N.nodes no_node j inside (all_right part (of_source ++ of_right) of_failing to_failing)

  pub right_true : (j : ℕ) → j < length N.nodes → AreTrue m (node_clauses Right N.inputs j (node N j))
  right_true j inside = All-at_spread part (node_clauses Right N.inputs) N.nodes no_node j inside (all_right part of_source of_right (all_left part (of_source ++ of_right) of_failing to_failing))

  pub source_true : (j : ℕ) → j < length C.nodes → AreTrue m (node_clauses Source C.inputs j (node C j))
  source_true j inside = All-at_spread part (node_clauses Source C.inputs) C.nodes no_node j inside (all_left part of_source of_right (all_left part (of_source ++ of_right) of_failing to_failing))

-- ---- valuations

module _ (C N : Circuit) (P : CodePlan) (asked : IsAsked C N P) (m : Variable → Bool) (all : AreTrue m (circuit_clauses C N P)) where
  -- the input, and the bits of all nets in each copy
  abbrev pub x : List Bool
  x = tabulate N.inputs 0 (λ i. m (Input i))

  abbrev pub w : List Bool
  w = tabulate (nets C) 0 (λ net. m (of_net Source C.inputs net))

  abbrev pub v : List Bool
  v = tabulate (nets N) 0 (λ net. m (of_net Right N.inputs net))

  abbrev pub u : List Bool
  u = tabulate (nets N) 0 (λ net. m (of_net Failing N.inputs net))

  pub source_bit : (net : ℕ) → net < nets C → m (of_net Source C.inputs net) ≡ bit w net
  source_bit net inside = sym (bit_tabulate (nets C) net (λ n. m (of_net Source C.inputs n)) inside)

  pub right_bit : (net : ℕ) → net < nets N → m (of_net Right N.inputs net) ≡ bit v net
  right_bit net inside = sym (bit_tabulate (nets N) net (λ n. m (of_net Right N.inputs n)) inside)

  pub failing_bit : (net : ℕ) → net < nets N → m (of_net Failing N.inputs net) ≡ bit u net
  failing_bit net inside = sym (bit_tabulate (nets N) net (λ n. m (of_net Failing N.inputs n)) inside)

  input_bit : (i : ℕ) → i < N.inputs → m (Input i) ≡ bit x i
  input_bit i inside = sym (bit_tabulate N.inputs i (λ n. m (Input n)) inside)

  pub source_settles : (z : ℕ → Bool) → Settles C NoFault (bit x) z w
  source_settles z = record {
    sized = length_tabulate (nets C) 0 (λ n. m (of_net Source C.inputs n));
    inputs = λ i inside. sym (source_bit i (omega arith)) ∙ ap m (of_input Source C.inputs i inside) ∙ input_bit i (omega (arith, asked.inputs));
    latches = λ l inside. absurd (omega (arith, asked.source_latches));
    nodes = λ j inside.
        sym (source_bit (node_net C j) (omega arith)) ∙ ap m (of_node Source C.inputs (node_net C j) j (omega (arith, asked.source_latches)))
        ∙ cover_back m Source C.inputs (nets C) (bit w) source_bit (Net Source j) j (node C j) (reads_within C asked.source_closed j inside) (source_true C N P m all j inside)
        ∙ sym (value_is C w j);
  }

  pub right_settles : (s : ℕ → Bool) → Settles N NoFault (bit x) s v
  right_settles s = record {
    sized = length_tabulate (nets N) 0 (λ n. m (of_net Right N.inputs n));
    inputs = λ i inside. sym (right_bit i (omega arith)) ∙ ap m (of_input Right N.inputs i inside) ∙ input_bit i inside;
    latches = λ l inside. absurd (omega (arith, asked.latches));
    nodes = λ j inside.
        sym (right_bit (node_net N j) (omega arith)) ∙ ap m (of_node Right N.inputs (node_net N j) j (omega (arith, asked.latches)))
        ∙ cover_back m Right N.inputs (nets N) (bit v) right_bit (Net Right j) j (node N j) (reads_within N asked.closed j inside) (right_true C N P m all j inside)
        ∙ sym (value_is N v j);
  }

  -- ---- the failing cell

  module _ (j : ℕ) (inside : j < length N.nodes) where
    abbrev wrong : List (List Claim)
    wrong = xor_clauses (Net Failing j) (yes (Gate j)) (yes (Choice j))

    abbrev gate : List (List Claim)
    gate = cover_clauses Failing N.inputs (Gate j) j (node N j)

    abbrev differs : List (List Claim)
    differs = xor_clauses (Differs j) (yes (Net Right j)) (yes (Net Failing j))

    abbrev only : List (List Claim)
    only = (no (Differs j) ∷ yes (Choice j) ∷ differs_at N.inputs (node N j).reads) ∷ one_choice j

    to_differs : AreTrue m (wrong ++ gate ++ differs)
    to_differs = all_left (part C N P m all) (wrong ++ gate ++ differs) only (failing_true C N P m all j inside)

    to_gate : AreTrue m (wrong ++ gate)
    to_gate = all_left (part C N P m all) (wrong ++ gate) differs to_differs

    one_true : AreTrue m (one_choice j)
    one_true =
        All-tail (part C N P m all) (no (Differs j) ∷ yes (Choice j) ∷ differs_at N.inputs (node N j).reads) (one_choice j)
        (all_right (part C N P m all) (wrong ++ gate ++ differs) only (failing_true C N P m all j inside))

    -- a node that isn't chosen settles
    pub node_settles : m (Choice j) ≡ false → bit u (node_net N j) ≡ node_value N NoFault u j
    node_settles off =
        sym (failing_bit (node_net N j) (omega arith)) ∙ ap m (of_node Failing N.inputs (node_net N j) j (omega (arith, asked.latches)))
        ∙ xor_back m (Net Failing j) (yes (Gate j)) (yes (Choice j)) (all_left (part C N P m all) wrong gate to_gate)
        ∙ differ_off (holds m (yes (Gate j))) (holds m (yes (Choice j))) (same_true (m (Choice j)) ∙ off) ∙ same_true (m (Gate j))
        ∙ cover_back m Failing N.inputs (nets N) (bit u) failing_bit (Gate j) j (node N j) (reads_within N asked.closed j inside) (all_right (part C N P m all) wrong gate to_gate)
        ∙ sym (value_is N u j)

    pub differs_is : m (Differs j) ≡ differ (bit v (N.inputs + j)) (bit u (N.inputs + j))
    differs_is =
        xor_back m (Differs j) (yes (Net Right j)) (yes (Net Failing j)) (all_right (part C N P m all) (wrong ++ gate) differs to_differs)
        ∙ ap₂ differ
        (same_true (m (Net Right j)) ∙ ap m (sym (of_node Right N.inputs (N.inputs + j) j refl)) ∙ right_bit (N.inputs + j) (omega (arith, asked.latches)))
        (same_true (m (Net Failing j)) ∙ ap m (sym (of_node Failing N.inputs (N.inputs + j) j refl)) ∙ failing_bit (N.inputs + j) (omega (arith, asked.latches)))

  follows_so : (a b : Bool) → a ≡ true → (same a false || (same b true || false)) ≡ true → b ≡ true
  follows_so true true is e = refl
  follows_so true false is e = absurd (false≢true e)
  follows_so false b is e = absurd (false≢true is)

  never_so : (a b : Bool) → a ≡ true → b ≡ true → (same a false || (same b false || false)) ≡ true → ⊥
  never_so true true is at e = false≢true e
  never_so true false is at e = false≢true at
  never_so false b is at e = false≢true is

  -- once a node is chosen, some node up to each later one is
  chosen_on : (i j : ℕ) → i ≤ j → j < length N.nodes → m (Choice i) ≡ true → m (chosen_by j) ≡ true
  chosen_on i zero low inside is = ap (λ n. m (Choice n)) (omega arith) ∙ is
  chosen_on i (suc j) low inside is = by (λ l. chosen_on i j l (omega arith) is) (cases_eq i (suc j))
    where
      by : (i ≤ j → m (chosen_by j) ≡ true) → (i ≡ suc j) ⊎ (i ≡ suc j → ⊥) → m (Chosen (suc j)) ≡ true
      by before (inl here) = follows_so (m (Choice (suc j))) (m (Chosen (suc j))) (ap (λ n. m (Choice n)) (sym here) ∙ is) (one_true (suc j) inside 1 [] (omega arith))
      by before (inr off) = follows_so (m (chosen_by j)) (m (Chosen (suc j))) (before (omega (arith, off))) (one_true (suc j) inside 0 [] (omega arith))

  one_chosen : (i j : ℕ) → i < j → j < length N.nodes → m (Choice i) ≡ true → m (Choice j) ≡ true → ⊥
  one_chosen i zero low inside first second = absurd (omega arith)
  one_chosen i (suc j) low inside first second =
      never_so (m (Choice (suc j))) (m (chosen_by j)) second (chosen_on i j (omega arith) (omega arith) first) (one_true (suc j) inside 2 [] (omega arith))

  -- a node is chosen, or none is
  some_or_none : (n : ℕ) → ((j : ℕ) × (j < n) × (m (Choice j) ≡ true)) ⊎ ((j : ℕ) → j < n → m (Choice j) ≡ false)
  some_or_none zero = inr (λ j below. absurd (omega arith))
  some_or_none (suc n) = by (some_or_none n) (m (Choice n)) refl
    where
      by : ((j : ℕ) × (j < n) × (m (Choice j) ≡ true)) ⊎ ((j : ℕ) → j < n → m (Choice j) ≡ false) → (b : Bool) → m (Choice n) ≡ b
          → ((j : ℕ) × (j < suc n) × (m (Choice j) ≡ true)) ⊎ ((j : ℕ) → j < suc n → m (Choice j) ≡ false)
      by (inl found) b is = inl (found.0, (let below = found.1 in omega arith), found.2)
      by (inr none) true is = inl (n, omega arith, is)
      by (inr none) false is = inr (λ j below. at j below (cases_eq j n))
        where
          at : (j : ℕ) → j < suc n → (j ≡ n) ⊎ (j ≡ n → ⊥) → m (Choice j) ≡ false
          at j below (inl here) = ap (λ k. m (Choice k)) here ∙ is
          at j below (inr off) = none j (omega (arith, off))

  others_off : (i j : ℕ) → i < length N.nodes → m (Choice i) ≡ true → j < length N.nodes → (j ≡ i → ⊥) → m (Choice j) ≡ false
  others_off i j low is inside off = by (m (Choice j)) refl (cases_lt i j)
    where
      by : (b : Bool) → m (Choice j) ≡ b → (i < j) ⊎ (j ≤ i) → b ≡ false
      by false e order = refl
      by true e (inl later) = absurd (one_chosen i j later inside is e)
      by true e (inr before) = absurd (one_chosen j i (omega (arith, off)) low e is)

  -- with these nodes chosen at most, the other valuation settles at every net except the cell's
  failing_settles : (cell : ℕ) → ((j : ℕ) → j < length N.nodes → (node_net N j ≡ cell → ⊥) → m (Choice j) ≡ false) → (t : ℕ → Bool) → SettlesBut N cell (bit x) t u
  failing_settles cell only_cell t = record {
    sized = length_tabulate (nets N) 0 (λ n. m (of_net Failing N.inputs n));
    inputs = λ i inside. sym (failing_bit i (omega arith)) ∙ ap m (of_input Failing N.inputs i inside) ∙ input_bit i inside;
    latches = λ l inside off. absurd (omega (arith, asked.latches));
    nodes = λ j inside off. node_settles j inside (only_cell j inside off);
  }

  -- there is a cell, where there is a node, so that it does
  pub failing_cell : 0 < length N.nodes → (cell : ℕ) × (N.inputs ≤ cell) × (cell < nets N) × ((t : ℕ → Bool) → SettlesBut N cell (bit x) t u)
  failing_cell some = elim (some_or_none (length N.nodes)) [
    | inl found ↦
        let inside = found.1 in (
          node_net N found.0,
          omega arith,
          omega arith,
          failing_settles (node_net N found.0) (λ j below off. others_off found.0 j inside found.2 below (λ e. off (ap (node_net N) e))),
        )
    | inr none ↦ (node_net N 0, omega arith, omega arith, failing_settles (node_net N 0) (λ j below off. none j below))
  ]

  -- ---- what differs

  same_input : (net : ℕ) → net < N.inputs → bit v net ≡ bit u net
  same_input net inside =
      sym (right_bit net (omega arith)) ∙ ap m (of_input Right N.inputs net inside ∙ sym (of_input Failing N.inputs net inside)) ∙ failing_bit net (omega arith)

  -- where no net of these differs, no variable says so
  pub none_differs_back : (reads : List ℕ) → All (λ net. net < nets N) reads → list_any (λ net. differ (bit v net) (bit u net)) reads ≡ false
      → some_holds m (differs_at N.inputs reads) ≡ false
  none_differs_back [] inside e = refl
  none_differs_back (net ∷ reads) inside e =
      by (none_differs_back reads (All-tail (λ net. net < nets N) net reads inside) both.1) (All-head (λ net. net < nets N) net reads inside) (nat_le N.inputs net) refl
    where
      both : (differ (bit v net) (bit u net) ≡ false) × (list_any (λ net. differ (bit v net) (bit u net)) reads ≡ false)
      both = or_parts (differ (bit v net) (bit u net)) (list_any (λ net. differ (bit v net) (bit u net)) reads) e

      by : some_holds m (differs_at N.inputs reads) ≡ false → net < nets N → (b : Bool) → nat_le N.inputs net ≡ b
          → some_holds m (map (λ n. yes (Differs (n - N.inputs))) (cond b (net ∷ filter (λ n. nat_le N.inputs n) reads) (filter (λ n. nat_le N.inputs n) reads))) ≡ false
      by rest below true is =
          let past = leb-true N.inputs net is in
          let back : N.inputs + (net - N.inputs) ≡ net = omega arith in
          or_from (holds m (yes (Differs (net - N.inputs)))) (some_holds m (differs_at N.inputs reads))
          (same_true (m (Differs (net - N.inputs))) ∙ differs_is (net - N.inputs) (omega (arith, asked.latches)) ∙ ap (λ n. differ (bit v n) (bit u n)) back ∙ both.0) rest
      by rest below false is = rest

  -- without a node no net differs
  pub inputs_alike : length N.nodes ≡ 0 → (reads : List ℕ) → All (λ net. net < nets N) reads → list_any (λ net. differ (bit v net) (bit u net)) reads ≡ false
  inputs_alike none [] inside = refl
  inputs_alike none (net ∷ reads) inside =
      or_from (differ (bit v net) (bit u net)) (list_any (λ net. differ (bit v net) (bit u net)) reads)
      (ap (λ b. differ b (bit u net)) (same_input net (let below = All-head (λ net. net < nets N) net reads inside in omega (arith, asked.latches))) ∙ differ_itself (bit u net))
      (inputs_alike none reads (All-tail (λ net. net < nets N) net reads inside))
