-- The clauses over numbers are those of the question.
use Rattle.std.proofs.Common.{◌≡◌, ℕ, zero, suc, ◌+◌, ◌-◌, ◌<◌, ◌≤◌, Bool, true, false, cond, List, [], ◌∷◌, ◌++◌, map, filter, length, take, nat_le, nat_eq, slice_index, slice_index_or, All, refl, sym, ap, ap₂, ◌∙◌, subst, arith, append_assoc, length-append}
use Rattle.std.proofs.lemmas.List.{map-append, get_or-map, length-map, get_or_append_left, get_or-append-add, get_or-take, length-take-le}
use Rattle.std.proofs.lemmas.List.Elements.{All-nil, All-cons, All-head, All-tail, All-get_or, All-take, All-append, All-weaker}
use Rattle.question_text.proofs.Places.{At}
use Rattle.question_text.proofs.Ends.{groups_least}
use Rattle.tsc_bits.proofs.Lists.{all_left, all_right}
use Rattle.fault_secure.specs.Circuit.{Circuit, NodeOf, node, nets, node_net}
use Rattle.fault_secure.specs.CodePlan.{CodePlan, HasGroups, HasShape, monitored, members, members_from, concat_places}
use Rattle.fault_secure.proofs.PlanSizes.{monitored_within}
use Rattle.refutations.specs.declared.literal.Literal.{Literal}
use Rattle.tsc_net.specs.declared.plan.Group.{Group}
use Rattle.exact_question.specs.Variables.{Source, Right, Failing, Variable, Net, Choice, Gate, Differs, Chosen, OutputDiffers, Odd, RailsDiffer, Unheard, spread}
use Rattle.exact_question.specs.Rows.{literal, rows_of}
use Rattle.exact_question.specs.Gates.{Claim, yes, no, xor_clauses}
use Rattle.exact_question.specs.Question.{of_net, differs_at, node_clauses, chosen_by, one_choice, failing_clauses, cover_clauses, output_clauses, word_claim, odd_claim, group_variables, group_clauses, group_is_even, rails_clauses, unheard_clauses, circuit_clauses, wrong}
use Rattle.exact_question.specs.Laws.{IsAsked}
use Rattle.exact_question.proofs.Nodes.{reads_within}
use Rattle.exact_question.proofs.Rows.{rows_within}
use Rattle.question_text.specs.declared.cells.Cell.{Cell}
use Rattle.question_text.specs.declared.numbers.Numbers.{Numbers}
use Rattle.question_text.specs.Gates.{is_one, is_zero, turned, xor_of}
use Rattle.question_text.specs.Covers.{wide, cover_gates}
use Rattle.question_text.specs.Nodes.{wide_of, numbers_from, nodes_gates}
use Rattle.question_text.specs.Failing.{cell_from, no_cell, cell_at, differs_of, cell_gates, choice_gates, failing_gates}
use Rattle.question_text.specs.Reasons.{one_at, outputs_gates, group_gates, group_even, nets_of, groups_gates, groups_even, groups_end, rails_gates, unheard_gates}
use Rattle.question_text.specs.Whole.{right_first, failing_first, outputs_first, groups_first, rails_first, numbers_of, copies_gates, wrong_of, all_gates}
use Rattle.question_text.specs.Groups.{AreGroups}
use Rattle.question_text.proofs.Same.{lit, lits, cover_is}
use Rattle.question_text.proofs.Standing.{cell_is}
use Rattle.question_text.proofs.Numbered.{num, num_input, num_source, num_source_row, num_right, num_right_row, num_choice, num_gate, num_wrong, num_failing_row, num_differs, num_chosen, num_output, num_in_groups, num_rails, num_wrong_rails, num_unheard}
use Rattle.question_text.proofs.Spreads.{nets_are, numbers_long, cells_count, behind_first, xor_num, nodes_are, failing_are, outputs_are, ones_are, chain_are, chain_ends, groups_are, evens_are, all_groups_count, at_odd}

module _ (C N : Circuit) (P : CodePlan) (groups : List Group) (asked : IsAsked C N P) (are : AreGroups P groups) where
  abbrev n : Numbers
  n = numbers_of C N groups

  abbrev v : Variable → ℕ
  v = num C N P

  -- ---- nets

  source_is : (net : ℕ) → net < nets C → v (of_net Source C.inputs net) ≡ slice_index n.source net
  source_is net inside = nets_are v Source C.inputs (numbers_from N.inputs C.nodes)
      (λ i low. num_input C N P i (omega (arith, asked.inputs)))
      (λ j low. num_source C N P j (omega (arith, numbers_long N.inputs C.nodes))) net
      (let a = asked.source_latches in let b = numbers_long N.inputs C.nodes in omega arith)

  right_is : (net : ℕ) → net < nets N → v (of_net Right N.inputs net) ≡ slice_index n.right net
  right_is net inside = nets_are v Right N.inputs (numbers_from (right_first C N) N.nodes) (num_input C N P)
      (λ j low. num_right C N P j (omega (arith, numbers_long (right_first C N) N.nodes))) net
      (let a = asked.latches in let b = numbers_long (right_first C N) N.nodes in omega arith)

  -- ---- the variables of a node

  module _ (j : ℕ) (inside : j < length N.nodes) where
    abbrev c : Cell
    c = cell_at n.cells j

    abbrev made : Cell
    made = cell_from (0 + j) c.choice (wide_of (node N j))

    c_is : c ≡ made
    c_is = cell_is 0 (failing_first C N) j N.nodes inside

    pub of_choice : v (Choice j) ≡ c.choice
    of_choice = num_choice C N P j inside

    of_gate : v (Gate j) ≡ c.gate
    of_gate = num_gate C N P j inside ∙ sym (ap (λ (a : Cell). a.gate) c_is)

    pub of_wrong : v (Net Failing j) ≡ c.net
    of_wrong = num_wrong C N P j inside ∙ sym (ap (λ (a : Cell). a.net) c_is)

    of_rows : c.rows ≡ c.choice + 3
    of_rows = ap (λ (a : Cell). a.rows) c_is

    of_differs : v (Differs j) ≡ c.differs
    of_differs = num_differs C N P j inside ∙ sym (ap (λ (a : Cell). a.differs) c_is)

    chosen_of : (i : ℕ) → i ≡ j → c.chosen ≡ cond (nat_eq i 0) c.choice (c.choice + 4 + wide_of (node N j))
    chosen_of i same = ap (λ (a : Cell). a.chosen) c_is ∙ ap (λ k. cond (nat_eq k 0) c.choice (c.choice + 4 + wide_of (node N j))) (let e : 0 + j ≡ i = omega (arith, same) in e)

  of_chosen : (j : ℕ) → j < length N.nodes → v (chosen_by j) ≡ (cell_at n.cells j).chosen
  of_chosen zero inside = num_choice C N P zero inside ∙ sym (chosen_of zero inside zero refl)
  of_chosen (suc j) inside =
      num_chosen C N P (suc j) inside (λ e. (let off : suc j ≡ 0 = e in omega arith))
      ∙ sym (chosen_of (suc j) inside (suc j) refl
      ∙ ap (λ b. cond b (cell_at n.cells (suc j)).choice ((cell_at n.cells (suc j)).choice + 4 + wide_of (node N (suc j)))) (let e : nat_eq (suc j) 0 ≡ false = grind arith in e))

  failing_is : (net : ℕ) → net < nets N → v (of_net Failing N.inputs net) ≡ slice_index n.failing net
  failing_is net inside = nets_are v Failing N.inputs (map (λ (a : Cell). a.net) n.cells) (num_input C N P)
      (λ j low.
      let count = cells_count 0 (failing_first C N) N.nodes in
      let long = length-map n.cells (λ (a : Cell). a.net) in
      of_wrong j (omega (arith, count, long, low)) ∙ sym (get_or-map (λ (a : Cell). a.net) n.cells j no_cell 0 (omega (arith, count, long, low)))) net
      (let a = asked.latches in let count = cells_count 0 (failing_first C N) N.nodes in let long = length-map n.cells (λ (a : Cell). a.net) in omega arith)

  -- ---- the copies

  pub source_at : (j : ℕ) → slice_index n.source (node_net C 0 + j) ≡ slice_index (numbers_from N.inputs C.nodes) j
  source_at j = ap (slice_index n.source) (let a = asked.source_latches in let e : node_net C 0 + j ≡ C.inputs + j = omega arith in e) ∙ behind_first C.inputs j (numbers_from N.inputs C.nodes)

  pub right_at : (j : ℕ) → slice_index n.right (node_net N 0 + j) ≡ slice_index (numbers_from (right_first C N) N.nodes) j
  right_at j = ap (slice_index n.right) (let a = asked.latches in let e : node_net N 0 + j ≡ N.inputs + j = omega arith in e) ∙ behind_first N.inputs j (numbers_from (right_first C N) N.nodes)

  of_source : map (lits v) (spread (node_clauses Source C.inputs) C.nodes) ≡ nodes_gates n.source (node_net C 0) C.nodes
  of_source = nodes_are v (node_clauses Source C.inputs) n.source (node_net C 0) C.nodes (λ j inside.
      let m = node C j in
      let at = slice_index n.source (node_net C 0 + j) in
      cover_is v Source C.inputs j (nets C) n.source source_is (at + 1) (Net Source j) m
      (rows_within (λ net. net < nets C) m (reads_within C asked.source_closed j inside))
      (λ r below is. num_source_row C N P j inside r below is ∙ ap (λ k. k + 1 + wide (take r (rows_of m))) (sym (source_at j)))
      ∙ ap (λ k. cover_gates n.source (at + 1) (literal k m.cover.on) (rows_of m)) (num_source C N P j inside ∙ sym (source_at j)))

  of_right : map (lits v) (spread (node_clauses Right N.inputs) N.nodes) ≡ nodes_gates n.right (node_net N 0) N.nodes
  of_right = nodes_are v (node_clauses Right N.inputs) n.right (node_net N 0) N.nodes (λ j inside.
      let m = node N j in
      let at = slice_index n.right (node_net N 0 + j) in
      cover_is v Right N.inputs j (nets N) n.right right_is (at + 1) (Net Right j) m
      (rows_within (λ net. net < nets N) m (reads_within N asked.closed j inside))
      (λ r below is. num_right_row C N P j inside r below is ∙ ap (λ k. k + 1 + wide (take r (rows_of m))) (sym (right_at j)))
      ∙ ap (λ k. cover_gates n.right (at + 1) (literal k m.cover.on) (rows_of m)) (num_right C N P j inside ∙ sym (right_at j)))

  differs_are : (list : List ℕ) → All (λ net. net < nets N) list → map (lit v) (differs_at N.inputs list) ≡ differs_of N.inputs n.cells list
  differs_are [] within = refl
  differs_are (net ∷ list) within = by (differs_are list (All-tail (λ net. net < nets N) net list within)) (nat_le N.inputs net) refl
    where
      by : map (lit v) (differs_at N.inputs list) ≡ differs_of N.inputs n.cells list → (b : Bool) → nat_le N.inputs net ≡ b
          → map (lit v) (map (λ i. yes (Differs (i - N.inputs))) (cond b (net ∷ filter (λ i. nat_le N.inputs i) list) (filter (λ i. nat_le N.inputs i) list)))
          ≡ map (λ i. is_one (cell_at n.cells (i - N.inputs)).differs) (cond b (net ∷ filter (λ i. nat_le N.inputs i) list) (filter (λ i. nat_le N.inputs i) list))
      by rest true is =
          let low = All-head (λ i. i < nets N) net list within in
          let none = asked.latches in
          let high : N.inputs ≤ net = grind arith in
          ap₂ (λ a as_. is_one a ∷ as_) (of_differs (net - N.inputs) (omega arith)) rest
      by rest false is = rest

  choice_is : (j : ℕ) → j < length N.nodes → map (lits v) (one_choice j) ≡ choice_gates n.cells j
  choice_is zero inside = refl
  choice_is (suc j) inside =
      let before = of_chosen j (omega arith) in
      let after = of_chosen (suc j) inside in
      let choice = of_choice (suc j) inside in
      ap (λ a. (is_zero a ∷ is_one (v (Chosen (suc j))) ∷ []) ∷ (is_zero (v (Choice (suc j))) ∷ is_one (v (Chosen (suc j))) ∷ []) ∷ (is_zero (v (Choice (suc j))) ∷ is_zero a ∷ []) ∷ []) before
      ∙ ap (λ a. (is_zero (cell_at n.cells j).chosen ∷ is_one a ∷ []) ∷ (is_zero (v (Choice (suc j))) ∷ is_one a ∷ []) ∷ (is_zero (v (Choice (suc j))) ∷ is_zero (cell_at n.cells j).chosen ∷ []) ∷ []) after
      ∙ ap (λ a. (is_zero (cell_at n.cells j).chosen ∷ is_one (cell_at n.cells (suc j)).chosen ∷ []) ∷ (is_zero a ∷ is_one (cell_at n.cells (suc j)).chosen ∷ []) ∷ (is_zero a ∷ is_zero (cell_at n.cells j).chosen ∷ []) ∷ []) choice
      ∙ ap (λ i. (is_zero (cell_at n.cells i).chosen ∷ is_one (cell_at n.cells (suc j)).chosen ∷ [])
      ∷ (is_zero (cell_at n.cells (suc j)).choice ∷ is_one (cell_at n.cells (suc j)).chosen ∷ [])
      ∷ (is_zero (cell_at n.cells (suc j)).choice ∷ is_zero (cell_at n.cells i).chosen ∷ []) ∷ []) (let e : j ≡ suc j - 1 = omega arith in e)
      ∙ ap (λ b. cond b [] ((is_zero (cell_at n.cells (suc j - 1)).chosen ∷ is_one (cell_at n.cells (suc j)).chosen ∷ [])
      ∷ (is_zero (cell_at n.cells (suc j)).choice ∷ is_one (cell_at n.cells (suc j)).chosen ∷ [])
      ∷ (is_zero (cell_at n.cells (suc j)).choice ∷ is_zero (cell_at n.cells (suc j - 1)).chosen ∷ []) ∷ [])) (let e : false ≡ nat_eq (suc j) 0 = grind arith in e)

  module _ (j : ℕ) (inside : j < length N.nodes) where
    abbrev m : NodeOf
    m = node N j

    abbrev k : Cell
    k = cell_at n.cells j

    wrong_cover : map (lits v) (cover_clauses Failing N.inputs (Gate j) j m) ≡ cover_gates n.failing k.rows (literal k.gate m.cover.on) (rows_of m)
    wrong_cover =
        cover_is v Failing N.inputs j (nets N) n.failing failing_is k.rows (Gate j) m
        (rows_within (λ net. net < nets N) m (reads_within N asked.closed j inside))
        (λ r below is. num_failing_row C N P j inside r below is ∙ ap (λ i. i + wide (take r (rows_of m))) (sym (of_rows j inside)))
        ∙ ap (λ g. cover_gates n.failing k.rows (literal g m.cover.on) (rows_of m)) (of_gate j inside)

    cause_is : lits v (no (Differs j) ∷ yes (Choice j) ∷ differs_at N.inputs m.reads) ≡ is_zero k.differs ∷ is_one k.choice ∷ differs_of N.inputs n.cells m.reads
    cause_is =
        ap (λ a. is_zero a ∷ is_one (v (Choice j)) ∷ map (lit v) (differs_at N.inputs m.reads)) (of_differs j inside)
        ∙ ap (λ a. is_zero k.differs ∷ is_one a ∷ map (lit v) (differs_at N.inputs m.reads)) (of_choice j inside)
        ∙ ap (λ rest. is_zero k.differs ∷ is_one k.choice ∷ rest) (differs_are m.reads (reads_within N asked.closed j inside))

    four : (A B D : List (List Claim)) (E F : List (List Claim)) (a b d e f : List (List Literal)) → map (lits v) A ≡ a → map (lits v) B ≡ b → map (lits v) D ≡ d → map (lits v) E ≡ e → map (lits v) F ≡ f
        → map (lits v) (A ++ B ++ D ++ (E ++ F)) ≡ (a ++ b ++ d ++ e) ++ f
    four A B D E F a b d e f p q r s t =
        ap (map (lits v)) (sym (append_assoc (A ++ B ++ D) E F))
        ∙ map-append (lits v) (A ++ B ++ D ++ E) F
        ∙ ap₂ (λ x y. x ++ y)
        (map-append (lits v) (A ++ B ++ D) E ∙ ap₂ (λ x y. x ++ y)
        (map-append (lits v) (A ++ B) D ∙ ap₂ (λ x y. x ++ y) (map-append (lits v) A B ∙ ap₂ (λ x y. x ++ y) p q) r) s) t

    pub cell_is_right : map (lits v) (failing_clauses N.inputs j m) ≡ cell_gates n.failing (slice_index n.right (node_net N 0 + j)) N.inputs n.cells k m ++ choice_gates n.cells j
    cell_is_right = four
        (xor_clauses (Net Failing j) (yes (Gate j)) (yes (Choice j)))
        (cover_clauses Failing N.inputs (Gate j) j m)
        (xor_clauses (Differs j) (yes (Net Right j)) (yes (Net Failing j)))
        ((no (Differs j) ∷ yes (Choice j) ∷ differs_at N.inputs m.reads) ∷ []) (one_choice j)
        (xor_of k.net (is_one k.gate) (is_one k.choice)) (cover_gates n.failing k.rows (literal k.gate m.cover.on) (rows_of m))
        (xor_of k.differs (is_one (slice_index n.right (node_net N 0 + j))) (is_one k.net))
        ((is_zero k.differs ∷ is_one k.choice ∷ differs_of N.inputs n.cells m.reads) ∷ []) (choice_gates n.cells j)
        (xor_num v (Net Failing j) (Gate j) (Choice j) k.net k.gate k.choice (of_wrong j inside) (of_gate j inside) (of_choice j inside))
        wrong_cover
        (xor_num v (Differs j) (Net Right j) (Net Failing j) k.differs (slice_index n.right (node_net N 0 + j)) k.net (of_differs j inside) (num_right C N P j inside ∙ sym (right_at j)) (of_wrong j inside))
        (ap (λ clause. clause ∷ []) cause_is) (choice_is j inside)

  of_failing : map (lits v) (spread (failing_clauses N.inputs) N.nodes) ≡ failing_gates n.failing n.right N.inputs n.cells 0 (node_net N 0) N.nodes
  of_failing = failing_are v (failing_clauses N.inputs) n.failing n.right N.inputs n.cells 0 (node_net N 0) N.nodes (λ j inside.
      cell_is_right j inside
      ∙ ap (λ i. cell_gates n.failing (slice_index n.right (node_net N 0 + j)) N.inputs n.cells (cell_at n.cells i) (node N j) ++ choice_gates n.cells i) (let e : j ≡ 0 + j = omega arith in e))

  pub copies_are : map (lits v) (spread (node_clauses Source C.inputs) C.nodes ++ spread (node_clauses Right N.inputs) N.nodes ++ spread (failing_clauses N.inputs) N.nodes) ≡ copies_gates n C N
  copies_are =
      map-append (lits v) (spread (node_clauses Source C.inputs) C.nodes ++ spread (node_clauses Right N.inputs) N.nodes) (spread (failing_clauses N.inputs) N.nodes)
      ∙ ap₂ (λ a b. a ++ b)
      (map-append (lits v) (spread (node_clauses Source C.inputs) C.nodes) (spread (node_clauses Right N.inputs) N.nodes) ∙ ap₂ (λ a b. a ++ b) of_source of_right) of_failing

  -- ---- the word

  abbrev IsPlace : ℕ → Type 0
  IsPlace place = place < length (monitored N P)

  word_is : (place : ℕ) → IsPlace place → lit v (word_claim N P place) ≡ one_at n.right (slice_index (monitored N P) place)
  word_is place inside = ap is_one (right_is (slice_index (monitored N P) place) (All-get_or (λ net. net < nets N) (monitored N P) place 0 inside (monitored_within N P asked.closed asked.plan_of)))

  group_of : (g at : ℕ) (places : List ℕ) → All IsPlace places → ((i : ℕ) → suc i < length places → v (Odd g i) ≡ at + i)
      → map (lits v) (group_clauses N P g places) ≡ group_gates n.right at (map (slice_index (monitored N P)) places)
  group_of g at [] within each = refl
  group_of g at (first ∷ places) within each =
      chain_are v n.right (monitored N P) (word_claim N P) IsPlace word_is (Odd g) (odd_claim N P g first) at (one_at n.right (slice_index (monitored N P) first)) places
      (λ i low. each i (omega arith)) (word_is first (All-head IsPlace first places within)) (λ i. refl) (All-tail IsPlace first places within)

  even_of : (g at : ℕ) (places : List ℕ) → All IsPlace places → ((i : ℕ) → suc i < length places → v (Odd g i) ≡ at + i)
      → map (lit v) (group_is_even N P g places) ≡ group_even n.right at (map (slice_index (monitored N P)) places)
  even_of g at [] within each = refl
  even_of g at (first ∷ places) within each =
      ap (λ l. turned l ∷ [])
      (chain_ends v n.right (monitored N P) (word_claim N P) IsPlace word_is (Odd g) (odd_claim N P g first) at (one_at n.right (slice_index (monitored N P) first)) places
      (λ i low. each i (omega arith)) (word_is first (All-head IsPlace first places within)) (λ i. refl))

  -- ---- groups

  has_groups : HasGroups P
  has_groups = subst (λ code. HasShape code P) asked.parity asked.well_made.shape

  shown_long : length (take P.outputs N.outputs) ≡ P.outputs
  shown_long = let e = asked.plan_of.outputs in length-take-le P.outputs N.outputs (omega arith)

  output_place : (place : ℕ) → place < P.outputs → slice_index (monitored N P) place ≡ slice_index N.outputs place
  output_place place inside =
      let long = shown_long in
      let first : place < length (take P.outputs N.outputs) = omega arith in
      let both : place < length (take P.outputs N.outputs ++ P.checks) = omega (arith, first, length-append (take P.outputs N.outputs) P.checks) in
      get_or_append_left (take P.outputs N.outputs ++ P.checks) (map (λ l. l.reads) N.latches) 0 place both
      ∙ get_or_append_left (take P.outputs N.outputs) P.checks 0 place first ∙ get_or-take P.outputs N.outputs place 0 inside

  check_place : (k : ℕ) → k < length P.checks → slice_index (monitored N P) (P.outputs + k) ≡ slice_index P.checks k
  check_place k inside =
      let long = shown_long in
      let both : P.outputs + k < length (take P.outputs N.outputs ++ P.checks) = omega (arith, long, length-append (take P.outputs N.outputs) P.checks) in
      get_or_append_left (take P.outputs N.outputs ++ P.checks) (map (λ l. l.reads) N.latches) 0 (P.outputs + k) both
      ∙ ap (λ i. slice_index (take P.outputs N.outputs ++ P.checks) (i + k)) (sym long) ∙ get_or-append-add (take P.outputs N.outputs) P.checks k 0

  outputs_at : (places : List ℕ) → All (λ place. place < P.outputs) places → map (slice_index (monitored N P)) places ≡ map (slice_index N.outputs) places
  outputs_at [] within = refl
  outputs_at (place ∷ places) within =
      ap₂ (λ a as_. a ∷ as_) (output_place place (All-head (λ i. i < P.outputs) place places within)) (outputs_at places (All-tail (λ i. i < P.outputs) place places within))

  places_of : (gs : List Group) (none : Group) (k : ℕ) → k < length gs → All (λ place. place < P.outputs) (concat_places (map (λ g. g.places) gs))
      → All (λ place. place < P.outputs) (slice_index_or gs k none).places
  places_of [] none k inside all = absurd (omega arith)
  places_of (g ∷ gs) none zero inside all = all_left (λ place. place < P.outputs) g.places (concat_places (map (λ g. g.places) gs)) all
  places_of (g ∷ gs) none (suc k) inside all = places_of gs none k (omega arith) (all_right (λ place. place < P.outputs) g.places (concat_places (map (λ g. g.places) gs)) all)

  checks_count : length P.checks ≡ length groups
  checks_count = ap length are.checks ∙ length-map groups (λ g. g.check.number)

  abbrev no_group : Group
  no_group = record { places = []; check = record { number = 0 } }

  module _ (k : ℕ) (inside : k < length groups) where
    abbrev g : Group
    g = slice_index_or groups k no_group

    abbrev at : ℕ
    at = groups_end (groups_first C N) (take k groups)

    abbrev member : List ℕ
    member = g.places ++ (P.outputs + k) ∷ []

    g_within : All (λ place. place < P.outputs) g.places
    g_within = places_of groups no_group k inside (subst (λ gs. All (λ place. place < P.outputs) (concat_places gs)) are.places has_groups.within)

    word_long : P.outputs + length P.checks ≤ length (monitored N P)
    word_long = omega (arith, shown_long, length-append (take P.outputs N.outputs) P.checks, length-append (take P.outputs N.outputs ++ P.checks) (map (λ l. l.reads) N.latches))

    member_within : All IsPlace member
    member_within =
        let long = word_long in
        let count = checks_count in
        All-append IsPlace g.places ((P.outputs + k) ∷ []) (All-weaker (λ place. place < P.outputs) IsPlace (λ place low. omega (arith, low, long)) g.places g_within)
        (All-cons IsPlace (P.outputs + k) [] (omega (arith, long, count)) (All-nil IsPlace))

    nets_are_of : map (slice_index (monitored N P)) member ≡ nets_of N.outputs g
    nets_are_of =
        let count = checks_count in
        map-append (slice_index (monitored N P)) g.places ((P.outputs + k) ∷ [])
        ∙ ap₂ (λ a b. a ++ b ∷ []) (outputs_at g.places g_within)
        (check_place k (omega (arith, count, inside)) ∙ ap (λ list. slice_index list k) are.checks ∙ get_or-map (λ (h : Group). h.check.number) groups k no_group 0 inside)

    odd_is : (i : ℕ) → suc i < length member → v (Odd k i) ≡ at + i
    odd_is i low =
        let long = length-append g.places ((P.outputs + k) ∷ []) in
        let least = groups_least (groups_first C N) (take k groups) in
        let here = at_odd P.outputs (groups_first C N) k i (at + i - groups_first C N) groups no_group inside (omega (arith, long, low)) (omega (arith, least)) in
        num_in_groups C N P (at + i - groups_first C N) (Odd k i)
        (subst (λ gs. At (spread group_variables (members_from P.outputs gs)) (at + i - groups_first C N) (Odd k i)) (sym are.places) here)
        ∙ (let e : groups_first C N + (at + i - groups_first C N) ≡ at + i = omega (arith, least) in e)

    group_is : map (lits v) (group_clauses N P k member) ≡ group_gates n.right at (nets_of N.outputs g)
    group_is = group_of k at member member_within odd_is ∙ ap (group_gates n.right at) nets_are_of

    even_is : map (lit v) (group_is_even N P k member) ≡ group_even n.right at (nets_of N.outputs g)
    even_is = even_of k at member member_within odd_is ∙ ap (group_even n.right at) nets_are_of

  all_groups : map (lits v) (spread (group_clauses N P) (members P)) ≡ groups_gates n.right N.outputs n.groups groups
  all_groups =
      ap (λ gs. map (lits v) (spread (group_clauses N P) (members_from P.outputs gs))) are.places
      ∙ groups_are v no_group n.right N.outputs (group_clauses N P) P.outputs (groups_first C N) groups group_is

  all_evens : map (lit v) (spread (group_is_even N P) (members P)) ≡ groups_even n.right N.outputs n.groups groups
  all_evens =
      ap (λ gs. map (lit v) (spread (group_is_even N P) (members_from P.outputs gs))) are.places
      ∙ evens_are v no_group n.right N.outputs (group_is_even N P) P.outputs (groups_first C N) groups even_is

  -- ---- outputs

  all_outputs : map (lits v) (spread (output_clauses C N) C.outputs) ≡ outputs_gates n.source n.right N.outputs 0 n.outputs C.outputs
  all_outputs = outputs_are v (output_clauses C N) n.source n.right N.outputs 0 (outputs_first C N) C.outputs (λ k inside.
      let ours = slice_index_or C.outputs k 0 in
      let its = slice_index N.outputs k in
      let long = asked.plan_of.outputs in
      let count = asked.outputs in
      xor_num v (OutputDiffers k) (of_net Source C.inputs ours) (of_net Right N.inputs its) (outputs_first C N + k) (slice_index n.source ours) (slice_index n.right its)
      (num_output C N P k inside)
      (source_is ours (All-get_or (λ net. net < nets C) C.outputs k 0 inside asked.source_closed.outputs))
      (right_is its (All-get_or (λ net. net < nets N) N.outputs k 0 (omega (arith, long, count)) asked.closed.outputs))
      ∙ ap (λ i. xor_of (outputs_first C N + k) (one_at n.source ours) (one_at n.right (slice_index N.outputs i))) (let e : k ≡ 0 + k = omega arith in e))

  -- ---- rails, and what is unheard

  pub end_is : groups_first C N + length (spread group_variables (members P)) ≡ rails_first C N groups
  end_is =
      ap (λ gs. groups_first C N + length (spread group_variables (members_from P.outputs gs))) are.places
      ∙ all_groups_count P.outputs (groups_first C N) groups

  abbrev last : ℕ
  last = rails_first C N groups

  right_rails : map (lits v) (rails_clauses Right N P) ≡ rails_gates n.right last P.rail1 P.rail2
  right_rails = xor_num v (RailsDiffer Right) (of_net Right N.inputs P.rail1) (of_net Right N.inputs P.rail2) last (slice_index n.right P.rail1) (slice_index n.right P.rail2)
      (num_rails C N P last end_is) (right_is P.rail1 asked.plan_of.rails.0) (right_is P.rail2 asked.plan_of.rails.1)

  wrong_rails : map (lits v) (rails_clauses Failing N P) ≡ rails_gates n.failing (last + 1) P.rail1 P.rail2
  wrong_rails = xor_num v (RailsDiffer Failing) (of_net Failing N.inputs P.rail1) (of_net Failing N.inputs P.rail2) (last + 1) (slice_index n.failing P.rail1) (slice_index n.failing P.rail2)
      (num_wrong_rails C N P last end_is) (failing_is P.rail1 asked.plan_of.rails.0) (failing_is P.rail2 asked.plan_of.rails.1)

  unheard_is : map (lits v) (unheard_clauses N P) ≡ unheard_gates (last + 1) (last + 2) N.inputs n.cells (take P.outputs N.outputs)
  unheard_is =
      ap (λ a. (is_zero a ∷ is_one (v (RailsDiffer Failing)) ∷ []) ∷ (is_zero a ∷ map (lit v) (differs_at N.inputs (take P.outputs N.outputs))) ∷ []) (num_unheard C N P last end_is)
      ∙ ap (λ a. (is_zero (last + 2) ∷ is_one a ∷ []) ∷ (is_zero (last + 2) ∷ map (lit v) (differs_at N.inputs (take P.outputs N.outputs))) ∷ []) (num_wrong_rails C N P last end_is)
      ∙ ap (λ rest. (is_zero (last + 2) ∷ is_one (last + 1) ∷ []) ∷ (is_zero (last + 2) ∷ rest) ∷ [])
      (differs_are (take P.outputs N.outputs) (All-take (λ net. net < nets N) P.outputs N.outputs asked.closed.outputs))

  wrong_is : lits v (wrong C N P) ≡ wrong_of n C N groups
  wrong_is =
      map-append (lit v) (spread (λ place net. yes (OutputDiffers place) ∷ []) C.outputs ++ spread (group_is_even N P) (members P)) (no (RailsDiffer Right) ∷ yes Unheard ∷ [])
      ∙ ap₂ (λ a b. a ++ b)
      (map-append (lit v) (spread (λ place net. yes (OutputDiffers place) ∷ []) C.outputs) (spread (group_is_even N P) (members P))
      ∙ ap₂ (λ a b. a ++ b) (ones_are v OutputDiffers (outputs_first C N) C.outputs (num_output C N P)) all_evens)
      (ap₂ (λ a b. is_zero a ∷ is_one b ∷ []) (num_rails C N P last end_is) (num_unheard C N P last end_is))

  -- ---- all

  regroup : (K O G A B U : List (List Claim)) → K ++ O ++ G ++ A ++ B ++ U ≡ (K ++ (O ++ G)) ++ (A ++ B ++ U)
  regroup K O G A B U = simp append_assoc

  pieces : (K O G A B U : List (List Claim)) (k o g a b u : List (List Literal))
      → map (lits v) K ≡ k → map (lits v) O ≡ o → map (lits v) G ≡ g → map (lits v) A ≡ a → map (lits v) B ≡ b → map (lits v) U ≡ u
      → map (lits v) (K ++ O ++ G ++ A ++ B ++ U) ≡ (k ++ (o ++ g)) ++ (a ++ b ++ u)
  pieces K O G A B U k o g a b u p q r s t w =
      ap (map (lits v)) (regroup K O G A B U)
      ∙ map-append (lits v) (K ++ (O ++ G)) (A ++ B ++ U)
      ∙ ap₂ (λ x y. x ++ y)
      (map-append (lits v) K (O ++ G) ∙ ap₂ (λ x y. x ++ y) p (map-append (lits v) O G ∙ ap₂ (λ x y. x ++ y) q r))
      (map-append (lits v) (A ++ B) U ∙ ap₂ (λ x y. x ++ y) (map-append (lits v) A B ∙ ap₂ (λ x y. x ++ y) s t) w)

  pub all_are : map (lits v) (circuit_clauses C N P ++ wrong C N P ∷ []) ≡ all_gates n C N P groups
  all_are =
      map-append (lits v) (circuit_clauses C N P) (wrong C N P ∷ [])
      ∙ ap₂ (λ a b. a ++ b ∷ [])
      (pieces (spread (node_clauses Source C.inputs) C.nodes ++ spread (node_clauses Right N.inputs) N.nodes ++ spread (failing_clauses N.inputs) N.nodes)
      (spread (output_clauses C N) C.outputs) (spread (group_clauses N P) (members P)) (rails_clauses Right N P) (rails_clauses Failing N P) (unheard_clauses N P)
      (copies_gates n C N) (outputs_gates n.source n.right N.outputs 0 n.outputs C.outputs) (groups_gates n.right N.outputs n.groups groups)
      (rails_gates n.right last P.rail1 P.rail2) (rails_gates n.failing (last + 1) P.rail1 P.rail2) (unheard_gates (last + 1) (last + 2) N.inputs n.cells (take P.outputs N.outputs))
      copies_are all_outputs all_groups right_rails wrong_rails unheard_is) wrong_is
