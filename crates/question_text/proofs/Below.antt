-- The variables of all clauses are below the number behind the last one.
use Rattle.std.proofs.Common.{◌≡◌, ℕ, zero, suc, ◌+◌, ◌-◌, ◌<◌, ◌≤◌, Bool, true, false, cond, not, List, [], ◌∷◌, ◌++◌, map, filter, length, take, nat_le, nat_eq, slice_index, slice_index_or, All, sym, ap, ◌∙◌, subst, arith, length-append}
use Rattle.std.specs.List.{list_any}
use Rattle.std.proofs.lemmas.List.{length-map}
use Rattle.std.proofs.lemmas.List.Elements.{All-nil, All-cons, All-head, All-tail, All-append, All-weaker, All-map, All-filter}
use Rattle.fault_secure.specs.Circuit.{Circuit, NodeOf, no_node, node_net}
use Rattle.fault_secure.specs.CodePlan.{CodePlan}
use Rattle.refutations.specs.declared.literal.Literal.{Literal}
use Rattle.refutations.specs.Checking.{AreWithin}
use Rattle.tsc_net.specs.declared.plan.Group.{Group}
use Rattle.exact_question.specs.Rows.{clashes, is_literal, literal, once, rows_of, written}
use Rattle.exact_question.specs.Question.{question}
use Rattle.exact_question.specs.Laws.{IsAsked}
use Rattle.question_text.specs.declared.cells.Cell.{Cell}
use Rattle.question_text.specs.declared.numbers.Numbers.{Numbers}
use Rattle.question_text.specs.Gates.{is_one, is_zero, turned, and_of, or_of, xor_of}
use Rattle.question_text.specs.Covers.{at_net, first_of, next_row, wide, row_gates, rows_gates, row_literal, row_literals, some_row, cover_gates}
use Rattle.question_text.specs.Nodes.{wide_of, first_numbers, numbers_from, end_from, nodes_gates}
use Rattle.question_text.specs.Failing.{cell_from, cell_end, cells_from, cells_end, cell_at, no_cell, differs_of, choice_gates, wrong_gates, cell_gates, failing_gates}
use Rattle.question_text.specs.Reasons.{one_at, outputs_gates, ones_from, chain_gates, chain_end, group_gates, group_even, nets_of, groups_gates, groups_even, groups_end, rails_gates, unheard_gates}
use Rattle.question_text.specs.Whole.{right_first, failing_first, outputs_first, groups_first, rails_first, numbers_of, copies_gates, word_gates, alarm_gates, wrong_of, clauses_over, all_gates}
use Rattle.question_text.specs.Groups.{AreGroups}
use Rattle.question_text.specs.Giving.{LiteralsAreWithin}
use Rattle.question_text.proofs.Ends.{end_least, cells_least, cell_least, groups_least, firsts_rise}
use Rattle.question_text.proofs.Same.{next_swap}
use Rattle.question_text.proofs.Standing.{numbers_room}
use Rattle.question_text.proofs.Spreads.{behind_first}
use Rattle.question_text.proofs.Rooms.{cell_room}
use Rattle.question_text.proofs.TextLaw.{question_is, count_is}

nets_count : (shown : List ℕ) (g : Group) → length (nets_of shown g) ≡ length g.places + 1
nets_count shown g = omega (arith, length-append (map (slice_index shown) g.places) (g.check.number ∷ []), length-map g.places (slice_index shown))

module _ (n : ℕ) where
  abbrev Within : List Literal → Type 0
  Within ls = AreWithin n ls

  abbrev Below : Literal → Type 0
  Below l = l.variable < n

  -- ---- clauses of gates

  within_two : (a b : Literal) → Below a → Below b → Within (a ∷ b ∷ [])
  within_two a b p q = All-cons Below a (b ∷ []) p (All-cons Below b [] q (All-nil Below))

  within_three : (a b c : Literal) → Below a → Below b → Below c → Within (a ∷ b ∷ c ∷ [])
  within_three a b c p q r = All-cons Below a (b ∷ c ∷ []) p (within_two b c q r)

  all_one : (c : List Literal) → Within c → All Within (c ∷ [])
  all_one c p = All-cons Within c [] p (All-nil Within)

  all_two : (c d : List Literal) → Within c → Within d → All Within (c ∷ d ∷ [])
  all_two c d p q = All-cons Within c (d ∷ []) p (all_one d q)

  all_three : (c d e : List Literal) → Within c → Within d → Within e → All Within (c ∷ d ∷ e ∷ [])
  all_three c d e p q r = All-cons Within c (d ∷ e ∷ []) p (all_two d e q r)

  within_turned : (ls : List Literal) → Within ls → Within (map turned ls)
  within_turned ls p = All-map Below turned ls (All-weaker Below (λ l. Below (turned l)) (λ l h. h) ls p)

  xor_within : (v : ℕ) (a b : Literal) → v < n → Below a → Below b → All Within (xor_of v a b)
  xor_within v a b p q r =
      let second = is_zero v ∷ turned a ∷ turned b ∷ [] in
      let third = is_one v ∷ turned a ∷ b ∷ [] in
      let fourth = is_one v ∷ a ∷ turned b ∷ [] in
      All-cons Within (is_zero v ∷ a ∷ b ∷ []) (second ∷ third ∷ fourth ∷ []) (within_three (is_zero v) a b p q r)
      (all_three second third fourth (within_three (is_zero v) (turned a) (turned b) p q r) (within_three (is_one v) (turned a) b p q r) (within_three (is_one v) a (turned b) p q r))

  and_within : (v : ℕ) (ls : List Literal) → v < n → Within ls → All Within (and_of v ls)
  and_within v ls p q =
      All-append Within (map (λ l. is_zero v ∷ l ∷ []) ls) ((is_one v ∷ map turned ls) ∷ [])
      (All-map Within (λ l. is_zero v ∷ l ∷ []) ls (All-weaker Below (λ l. Within (is_zero v ∷ l ∷ [])) (λ l h. within_two (is_zero v) l p h) ls q))
      (all_one (is_one v ∷ map turned ls) (All-cons Below (is_one v) (map turned ls) p (within_turned ls q)))

  or_within : (out : Literal) (ls : List Literal) → Below out → Within ls → All Within (or_of out ls)
  or_within out ls p q =
      All-append Within (map (λ l. out ∷ turned l ∷ []) ls) ((turned out ∷ ls) ∷ [])
      (All-map Within (λ l. out ∷ turned l ∷ []) ls (All-weaker Below (λ l. Within (out ∷ turned l ∷ [])) (λ l h. within_two out (turned l) p h) ls q))
      (all_one (turned out ∷ ls) (All-cons Below (turned out) ls p q))

  -- ---- numbers

  abbrev IsBelow : ℕ → Type 0
  IsBelow k = k < n

  -- at any place stands a number below: past the end 0
  number_below : (numbers : List ℕ) (k : ℕ) → 0 < n → All IsBelow numbers → slice_index numbers k < n
  number_below [] k some all = some
  number_below (m ∷ numbers) zero some all = All-head IsBelow m numbers all
  number_below (m ∷ numbers) (suc k) some all = number_below numbers k some (All-tail IsBelow m numbers all)

  first_below : (count : ℕ) → count ≤ n → All IsBelow (first_numbers count)
  first_below zero few = All-nil IsBelow
  first_below (suc count) few =
      All-append IsBelow (first_numbers count) (count ∷ []) (first_below count (omega arith)) (All-cons IsBelow count [] (omega arith) (All-nil IsBelow))

  nodes_below : (at : ℕ) (nodes : List NodeOf) → end_from at nodes ≤ n → All IsBelow (numbers_from at nodes)
  nodes_below at [] few = All-nil IsBelow
  nodes_below at (m ∷ nodes) few =
      All-cons IsBelow at (numbers_from (at + 1 + wide_of m) nodes) (omega (arith, few, end_least (at + 1 + wide_of m) nodes)) (nodes_below (at + 1 + wide_of m) nodes few)

  -- ---- covers

  module _ (some : 0 < n) (numbers : List ℕ) (all : All IsBelow numbers) where
    net_below : (l : Literal) → Below (at_net numbers l)
    net_below l = number_below numbers l.variable some all

    row_within : (at : ℕ) (row : List Literal) → at < n → All Within (row_gates numbers at row)
    row_within at row low = by (nat_le 2 (length row))
      where
        by : (b : Bool) → All Within (cond b (and_of at (map (at_net numbers) row)) [])
        by true = and_within at (map (at_net numbers) row) low (All-map Below (at_net numbers) row (λ k d inside. net_below (slice_index_or row k d)))
        by false = All-nil Within

    rows_within : (at : ℕ) (rows : List (List Literal)) → at + wide rows < n → All Within (rows_gates numbers at rows)
    rows_within at [] few = All-nil Within
    rows_within at (row ∷ rows) few =
        let next = next_swap at (wide rows) row in
        let rising = next_swap at 0 row in
        All-append Within (row_gates numbers at row) (rows_gates numbers (next_row at row) rows) (row_within at row (omega (arith, few, next, rising)))
        (rows_within (next_row at row) rows (omega (arith, few, next)))

    literal_below : (at : ℕ) (row : List Literal) → at < n → Below (row_literal numbers at row)
    literal_below at row low = by (nat_eq (length row) 1)
      where
        by : (b : Bool) → Below (cond b (at_net numbers (first_of row)) (is_one at))
        by true = net_below (first_of row)
        by false = low

    literals_within : (at : ℕ) (rows : List (List Literal)) → at + wide rows < n → Within (row_literals numbers at rows)
    literals_within at [] few = All-nil Below
    literals_within at (row ∷ rows) few =
        let next = next_swap at (wide rows) row in
        All-cons Below (row_literal numbers at row) (row_literals numbers (next_row at row) rows) (literal_below at row (omega (arith, few)))
        (literals_within (next_row at row) rows (omega (arith, few, next)))

    some_row_within : (at : ℕ) (matched : Literal) (rows : List (List Literal)) → Below matched → at + wide rows < n → All Within (some_row numbers at matched rows)
    some_row_within at matched rows low few = by (list_any (λ row. nat_eq (length row) 0) rows)
      where
        by : (b : Bool) → All Within (cond b ((matched ∷ []) ∷ []) (or_of matched (row_literals numbers at rows)))
        by true = all_one (matched ∷ []) (All-cons Below matched [] low (All-nil Below))
        by false = or_within matched (row_literals numbers at rows) low (literals_within at rows few)

    cover_within : (at : ℕ) (matched : Literal) (rows : List (List Literal)) → Below matched → at + wide rows < n → All Within (cover_gates numbers at matched rows)
    cover_within at matched rows low few =
        All-append Within (rows_gates numbers at rows) (some_row numbers at matched rows) (rows_within at rows few) (some_row_within at matched rows low few)

    nodes_within : (net : ℕ) (nodes : List NodeOf) → ((j : ℕ) → j < length nodes → slice_index numbers (net + j) + 1 + wide_of (slice_index_or nodes j no_node) < n)
        → All Within (nodes_gates numbers net nodes)
    nodes_within net [] fits = All-nil Within
    nodes_within net (m ∷ nodes) fits =
        let here : slice_index numbers net + 1 + wide_of m < n =
        subst (λ (k : ℕ). slice_index numbers k + 1 + wide_of m < n) (let e : net + 0 ≡ net = omega arith in e) (fits 0 (omega arith)) in
        let variable = slice_index numbers net in
        let low : variable < n = omega (arith, here) in
        All-append Within (cover_gates numbers (variable + 1) (literal variable m.cover.on) (rows_of m)) (nodes_gates numbers (net + 1) nodes)
        (cover_within (variable + 1) (literal variable m.cover.on) (rows_of m) low here)
        (nodes_within (net + 1) nodes (λ j inside.
        subst (λ (k : ℕ). slice_index numbers k + 1 + wide_of (slice_index_or nodes j no_node) < n) (let e : net + suc j ≡ net + 1 + j = omega arith in e) (fits (suc j) (omega arith))))

    one_below : (net : ℕ) → Below (one_at numbers net)
    one_below net = number_below numbers net some all

  -- ---- the copy with a failing cell

  record CellIsBelow (c : Cell) : Type 0 where
    choice : c.choice < n
    gate : c.gate < n
    net : c.net < n
    differs : c.differs < n
    chosen : c.chosen < n

  cells_below : (i at : ℕ) (nodes : List NodeOf) → cells_end i at nodes ≤ n → All CellIsBelow (cells_from i at nodes)
  cells_below i at [] few = All-nil CellIsBelow
  cells_below i at (m ∷ nodes) few =
      let end = cells_least (i + 1) (cell_end i at (wide_of m)) nodes in
      let least = cell_least i at (wide_of m) in
      All-cons CellIsBelow (cell_from i at (wide_of m)) (cells_from (i + 1) (cell_end i at (wide_of m)) nodes) (record {
        choice = omega (arith, few, end, least);
        gate = omega (arith, few, end, least);
        net = omega (arith, few, end, least);
        differs = omega (arith, few, end, least);
        chosen = by (nat_eq i 0) (omega (arith, few, end));
      }) (cells_below (i + 1) (cell_end i at (wide_of m)) nodes few)
    where
      by : (b : Bool) → cond b (at + 4 + wide_of m) (at + 5 + wide_of m) ≤ n → cond b at (at + 4 + wide_of m) < n
      by true e = omega (arith, e)
      by false e = omega (arith, e)

  module _ (some : 0 < n) (cells : List Cell) (all : All CellIsBelow cells) where
    cell_below : (j : ℕ) → CellIsBelow (cell_at cells j)
    cell_below = go cells all
      where
        go : (cs : List Cell) → All CellIsBelow cs → (j : ℕ) → CellIsBelow (slice_index_or cs j no_cell)
        go [] below j = record { choice = some; gate = some; net = some; differs = some; chosen = some }
        go (c ∷ cs) below zero = All-head CellIsBelow c cs below
        go (c ∷ cs) below (suc j) = go cs (All-tail CellIsBelow c cs below) j

    differs_within : (inputs : ℕ) (nets : List ℕ) → Within (differs_of inputs cells nets)
    differs_within inputs nets =
        All-map Below (λ net. is_one (cell_at cells (net - inputs)).differs) (filter (λ net. nat_le inputs net) nets)
        (λ k d inside. (cell_below (slice_index_or (filter (λ net. nat_le inputs net) nets) k d - inputs)).differs)

    choice_within : (j : ℕ) → All Within (choice_gates cells j)
    choice_within j = by (nat_eq j 0)
      where
        before : CellIsBelow (cell_at cells (j - 1))
        before = cell_below (j - 1)

        here : CellIsBelow (cell_at cells j)
        here = cell_below j

        by : (b : Bool) → All Within (cond b [] ((is_zero (cell_at cells (j - 1)).chosen ∷ is_one (cell_at cells j).chosen ∷ [])
            ∷ (is_zero (cell_at cells j).choice ∷ is_one (cell_at cells j).chosen ∷ [])
            ∷ (is_zero (cell_at cells j).choice ∷ is_zero (cell_at cells (j - 1)).chosen ∷ []) ∷ []))
        by true = All-nil Within
        by false =
            let first = is_zero (cell_at cells (j - 1)).chosen ∷ is_one (cell_at cells j).chosen ∷ [] in
            let second = is_zero (cell_at cells j).choice ∷ is_one (cell_at cells j).chosen ∷ [] in
            let third = is_zero (cell_at cells j).choice ∷ is_zero (cell_at cells (j - 1)).chosen ∷ [] in
            all_three first second third (within_two (is_zero (cell_at cells (j - 1)).chosen) (is_one (cell_at cells j).chosen) before.chosen here.chosen)
            (within_two (is_zero (cell_at cells j).choice) (is_one (cell_at cells j).chosen) here.choice here.chosen)
            (within_two (is_zero (cell_at cells j).choice) (is_zero (cell_at cells (j - 1)).chosen) here.choice before.chosen)

    module _ (numbers right : List ℕ) (low : All IsBelow numbers) (also : All IsBelow right) (inputs : ℕ) where
      cell_within : (k j : ℕ) (m : NodeOf) → k < n → (cell_at cells j).rows + wide_of m < n → All Within (cell_gates numbers k inputs cells (cell_at cells j) m)
      cell_within k j m is_right room =
          let c = cell_at cells j in
          let here = cell_below j in
          let cause = is_zero c.differs ∷ is_one c.choice ∷ differs_of inputs cells m.reads in
          let wrong = All-append Within (xor_of c.net (is_one c.gate) (is_one c.choice)) (cover_gates numbers c.rows (literal c.gate m.cover.on) (rows_of m))
          (xor_within c.net (is_one c.gate) (is_one c.choice) here.net here.gate here.choice)
          (cover_within some numbers low c.rows (literal c.gate m.cover.on) (rows_of m) here.gate room) in
          All-append Within (wrong_gates numbers c m ++ xor_of c.differs (is_one k) (is_one c.net)) (cause ∷ [])
          (All-append Within (wrong_gates numbers c m) (xor_of c.differs (is_one k) (is_one c.net)) wrong (xor_within c.differs (is_one k) (is_one c.net) here.differs is_right here.net))
          (all_one cause (All-cons Below (is_zero c.differs) (is_one c.choice ∷ differs_of inputs cells m.reads) here.differs (All-cons Below (is_one c.choice) (differs_of inputs cells m.reads) here.choice (differs_within inputs m.reads))))

      failing_within : (j net : ℕ) (nodes : List NodeOf) → ((i : ℕ) → i < length nodes → (cell_at cells (j + i)).rows + wide_of (slice_index_or nodes i no_node) < n)
          → All Within (failing_gates numbers right inputs cells j net nodes)
      failing_within j net [] fits = All-nil Within
      failing_within j net (m ∷ nodes) fits =
          let here : (cell_at cells j).rows + wide_of m < n =
          subst (λ (k : ℕ). (cell_at cells k).rows + wide_of m < n) (let e : j + 0 ≡ j = omega arith in e) (fits 0 (omega arith)) in
          All-append Within (cell_gates numbers (slice_index right net) inputs cells (cell_at cells j) m ++ choice_gates cells j) (failing_gates numbers right inputs cells (j + 1) (net + 1) nodes)
          (All-append Within (cell_gates numbers (slice_index right net) inputs cells (cell_at cells j) m) (choice_gates cells j)
          (cell_within (slice_index right net) j m (number_below right net some also) here) (choice_within j))
          (failing_within (j + 1) (net + 1) nodes (λ i inside.
          subst (λ (k : ℕ). (cell_at cells k).rows + wide_of (slice_index_or nodes i no_node) < n) (let e : j + suc i ≡ j + 1 + i = omega arith in e) (fits (suc i) (omega arith))))

  -- ---- what may be wrong

  ones_within : (at : ℕ) (nets : List ℕ) → at + length nets ≤ n → Within (ones_from at nets)
  ones_within at [] few = All-nil Below
  ones_within at (net ∷ nets) few = All-cons Below (is_one at) (ones_from (at + 1) nets) (omega arith) (ones_within (at + 1) nets (omega arith))

  outputs_within : (some : 0 < n) (source right shown : List ℕ) (place at : ℕ) (nets : List ℕ) → All IsBelow source → All IsBelow right → at + length nets ≤ n
      → All Within (outputs_gates source right shown place at nets)
  outputs_within some source right shown place at [] low also few = All-nil Within
  outputs_within some source right shown place at (net ∷ nets) low also few =
      All-append Within (xor_of at (one_at source net) (one_at right (slice_index shown place))) (outputs_gates source right shown (place + 1) (at + 1) nets)
      (xor_within at (one_at source net) (one_at right (slice_index shown place)) (omega arith) (one_below some source low net) (one_below some right also (slice_index shown place)))
      (outputs_within some source right shown (place + 1) (at + 1) nets low also (omega arith))

  module _ (some : 0 < n) (right : List ℕ) (low : All IsBelow right) where
    chain_within : (at : ℕ) (odd : Literal) (nets : List ℕ) → Below odd → at + length nets ≤ n → All Within (chain_gates right at odd nets)
    chain_within at odd [] is few = All-nil Within
    chain_within at odd (net ∷ nets) is few =
        let here : at < n = omega arith in
        All-append Within (xor_of at odd (one_at right net)) (chain_gates right (at + 1) (is_one at) nets) (xor_within at odd (one_at right net) here is (one_below some right low net))
        (chain_within (at + 1) (is_one at) nets here (omega arith))

    chain_below : (at : ℕ) (odd : Literal) (nets : List ℕ) → Below odd → at + length nets ≤ n → Below (chain_end at odd nets)
    chain_below at odd [] is few = is
    chain_below at odd (net ∷ nets) is few = let here : at < n = omega arith in chain_below (at + 1) (is_one at) nets here (omega arith)

    group_within : (at : ℕ) (nets : List ℕ) → at + length nets ≤ suc n → All Within (group_gates right at nets)
    group_within at [] few = All-nil Within
    group_within at (net ∷ nets) few = chain_within at (one_at right net) nets (one_below some right low net) (omega arith)

    even_within : (at : ℕ) (nets : List ℕ) → at + length nets ≤ suc n → Within (group_even right at nets)
    even_within at [] few = All-nil Below
    even_within at (net ∷ nets) few =
        All-cons Below (turned (chain_end at (one_at right net) nets)) [] (chain_below at (one_at right net) nets (one_below some right low net) (omega arith)) (All-nil Below)

    groups_within : (shown : List ℕ) (at : ℕ) (groups : List Group) → groups_end at groups ≤ n → All Within (groups_gates right shown at groups)
    groups_within shown at [] few = All-nil Within
    groups_within shown at (g ∷ groups) few =
        All-append Within (group_gates right at (nets_of shown g)) (groups_gates right shown (at + length g.places) groups)
        (group_within at (nets_of shown g) (omega (arith, few, nets_count shown g, groups_least (at + length g.places) groups))) (groups_within shown (at + length g.places) groups few)

    evens_within : (shown : List ℕ) (at : ℕ) (groups : List Group) → groups_end at groups ≤ n → Within (groups_even right shown at groups)
    evens_within shown at [] few = All-nil Below
    evens_within shown at (g ∷ groups) few =
        All-append Below (group_even right at (nets_of shown g)) (groups_even right shown (at + length g.places) groups)
        (even_within at (nets_of shown g) (omega (arith, few, nets_count shown g, groups_least (at + length g.places) groups))) (evens_within shown (at + length g.places) groups few)

  -- ---- what is written

  once_within : (ls : List Literal) → Within ls → Within (once ls)
  once_within [] p = All-nil Below
  once_within (l ∷ ls) p =
      All-cons Below l (filter (λ m. not (is_literal l m)) (once ls)) (All-head Below l ls p)
      (All-filter (λ m. not (is_literal l m)) Below (once ls) (once_within ls (All-tail Below l ls p)))

  written_within : (clauses : List (List Literal)) → All Within clauses → All Within (written clauses)
  written_within clauses p =
      All-map Within once (filter (λ ls. not (clashes ls)) clauses)
      (All-weaker Within (λ ls. Within (once ls)) once_within (filter (λ ls. not (clashes ls)) clauses) (All-filter (λ ls. not (clashes ls)) Within clauses p))

-- ---- all of them

module _ (C N : Circuit) (P : CodePlan) (groups : List Group) (asked : IsAsked C N P) (are : AreGroups P groups) where
  abbrev n : ℕ
  n = rails_first C N groups + 3

  abbrev k : Numbers
  k = numbers_of C N groups

  some : 0 < n
  some = omega arith

  source_end : end_from N.inputs C.nodes ≤ rails_first C N groups
  source_end = let rise = firsts_rise C N groups in omega (arith, rise.0, rise.1, rise.2)

  right_end : end_from (right_first C N) N.nodes ≤ rails_first C N groups
  right_end = let rise = firsts_rise C N groups in omega (arith, rise.1, rise.2)

  cells_last : cells_end 0 (failing_first C N) N.nodes ≤ rails_first C N groups
  cells_last = let rise = firsts_rise C N groups in omega (arith, rise.2)

  inputs_low : N.inputs ≤ n
  inputs_low = omega (arith, end_least N.inputs C.nodes, source_end)

  abbrev Low : ℕ → Type 0
  Low m = m < n

  of_source : All Low k.source
  of_source =
      All-append Low (first_numbers C.inputs) (numbers_from N.inputs C.nodes) (first_below n C.inputs (omega (arith, inputs_low, asked.inputs)))
      (nodes_below n N.inputs C.nodes (omega (arith, source_end)))

  of_right : All Low k.right
  of_right =
      All-append Low (first_numbers N.inputs) (numbers_from (right_first C N) N.nodes) (first_below n N.inputs inputs_low)
      (nodes_below n (right_first C N) N.nodes (omega (arith, right_end)))

  of_cells : All (CellIsBelow n) k.cells
  of_cells = cells_below n 0 (failing_first C N) N.nodes (omega (arith, cells_last))

  of_failing : All Low k.failing
  of_failing =
      All-append Low (first_numbers N.inputs) (map (λ c. c.net) k.cells) (first_below n N.inputs inputs_low)
      (All-map Low (λ (c : Cell). c.net) k.cells (All-weaker (CellIsBelow n) (λ (c : Cell). c.net < n) (λ c below. below.net) k.cells of_cells))

  source_fits : (j : ℕ) → j < length C.nodes → slice_index k.source (node_net C 0 + j) + 1 + wide_of (slice_index_or C.nodes j no_node) < n
  source_fits j inside =
      let none = asked.source_latches in
      let e : node_net C 0 + j ≡ C.inputs + j = omega arith in
      let is = ap (slice_index k.source) e ∙ behind_first C.inputs j (numbers_from N.inputs C.nodes) in
      omega (arith, is, numbers_room N.inputs j C.nodes inside, source_end)

  right_fits : (j : ℕ) → j < length N.nodes → slice_index k.right (node_net N 0 + j) + 1 + wide_of (slice_index_or N.nodes j no_node) < n
  right_fits j inside =
      let none = asked.latches in
      let e : node_net N 0 + j ≡ N.inputs + j = omega arith in
      let is = ap (slice_index k.right) e ∙ behind_first N.inputs j (numbers_from (right_first C N) N.nodes) in
      omega (arith, is, numbers_room (right_first C N) j N.nodes inside, right_end)

  cells_fit : (j : ℕ) → j < length N.nodes → (cell_at k.cells (0 + j)).rows + wide_of (slice_index_or N.nodes j no_node) < n
  cells_fit j inside =
      subst (λ (i : ℕ). (cell_at k.cells i).rows + wide_of (slice_index_or N.nodes j no_node) < n) (let e : j ≡ 0 + j = omega arith in e)
      (let room = cell_room 0 (failing_first C N) j N.nodes inside in omega (arith, room, cells_last))

  abbrev AllWithin : List (List Literal) → Type 0
  AllWithin clauses = All (AreWithin n) clauses

  copies_within : AllWithin (copies_gates k C N)
  copies_within =
      let source = nodes_gates k.source (node_net C 0) C.nodes in
      let right = nodes_gates k.right (node_net N 0) N.nodes in
      let failing = failing_gates k.failing k.right N.inputs k.cells 0 (node_net N 0) N.nodes in
      All-append (AreWithin n) (source ++ right) failing
      (All-append (AreWithin n) source right (nodes_within n some k.source of_source (node_net C 0) C.nodes source_fits) (nodes_within n some k.right of_right (node_net N 0) N.nodes right_fits))
      (failing_within n some k.cells of_cells k.failing k.right of_failing of_right N.inputs 0 (node_net N 0) N.nodes cells_fit)

  outputs_last : outputs_first C N + length C.outputs ≤ n
  outputs_last = omega (arith, groups_least (groups_first C N) groups)

  word_within : AllWithin (word_gates k C N groups)
  word_within =
      All-append (AreWithin n) (outputs_gates k.source k.right N.outputs 0 k.outputs C.outputs) (groups_gates k.right N.outputs k.groups groups)
      (outputs_within n some k.source k.right N.outputs 0 k.outputs C.outputs of_source of_right outputs_last) (groups_within n some k.right of_right N.outputs k.groups groups (omega arith))

  rails_within : (numbers : List ℕ) (at rail1 rail2 : ℕ) → All Low numbers → at < n → AllWithin (rails_gates numbers at rail1 rail2)
  rails_within numbers at rail1 rail2 low is =
      xor_within n at (one_at numbers rail1) (one_at numbers rail2) is (one_below n some numbers low rail1) (one_below n some numbers low rail2)

  alarm_within : (rail1 rail2 : ℕ) (shown : List ℕ) → AllWithin (alarm_gates k N.inputs rail1 rail2 shown)
  alarm_within rail1 rail2 shown =
      let first = rails_gates k.right k.rails rail1 rail2 in
      let second = rails_gates k.failing (k.rails + 1) rail1 rail2 in
      let last = unheard_gates (k.rails + 1) (k.rails + 2) N.inputs k.cells shown in
      let unheard : k.rails + 2 < n = omega arith in
      let differ : k.rails + 1 < n = omega arith in
      All-append (AreWithin n) (first ++ second) last
      (All-append (AreWithin n) first second (rails_within k.right k.rails rail1 rail2 of_right (omega arith)) (rails_within k.failing (k.rails + 1) rail1 rail2 of_failing differ))
      (all_two n (is_zero (k.rails + 2) ∷ is_one (k.rails + 1) ∷ []) (is_zero (k.rails + 2) ∷ differs_of N.inputs k.cells shown)
      (within_two n (is_zero (k.rails + 2)) (is_one (k.rails + 1)) unheard differ)
      (All-cons (Below n) (is_zero (k.rails + 2)) (differs_of N.inputs k.cells shown) unheard (differs_within n some k.cells of_cells N.inputs shown)))

  wrong_within : AreWithin n (wrong_of k C N groups)
  wrong_within =
      let ones = ones_from k.outputs C.outputs in
      let evens = groups_even k.right N.outputs k.groups groups in
      All-append (Below n) (ones ++ evens) (is_zero k.rails ∷ is_one (k.rails + 2) ∷ [])
      (All-append (Below n) ones evens (ones_within n k.outputs C.outputs outputs_last) (evens_within n some k.right of_right N.outputs k.groups groups (omega arith)))
      (within_two n (is_zero k.rails) (is_one (k.rails + 2)) (let low : k.rails < n = omega arith in low) (let low : k.rails + 2 < n = omega arith in low))

  clauses_within : (rail1 rail2 : ℕ) (shown : List ℕ) → AllWithin (clauses_over k C N groups rail1 rail2 shown)
  clauses_within rail1 rail2 shown =
      let copies = copies_gates k C N in
      let word = word_gates k C N groups in
      let alarm = alarm_gates k N.inputs rail1 rail2 shown in
      All-append (AreWithin n) (copies ++ word ++ alarm) (wrong_of k C N groups ∷ [])
      (All-append (AreWithin n) (copies ++ word) alarm (All-append (AreWithin n) copies word copies_within word_within) (alarm_within rail1 rail2 shown))
      (all_one n (wrong_of k C N groups) wrong_within)

  -- the variable of each literal of the question is one of the question's
  pub literals_are_within : LiteralsAreWithin C N P
  literals_are_within =
      subst (λ (m : ℕ). All (AreWithin m) (question C N P)) (sym (count_is C N P groups asked are))
      (subst (λ (clauses : List (List Literal)). All (AreWithin n) clauses) (question_is C N P groups asked are)
      (written_within n (all_gates k C N P groups) (clauses_within P.rail1 P.rail2 (take P.outputs N.outputs))))
