-- What a program keeps, and the steps of a settle.
use Rattle.std.proofs.Common.{◌≡◌, ◌≢◌, ℕ, ◌+◌, ◌-◌, ◌*◌, ◌/◌, ◌%◌, ◌<◌, true, false, List, [], length, map, get_or, drop, ◌||◌, All, Option, Some, None, sym, ap, ◌∙◌, subst, arith, slice_index, true≢false, ◌≤◌, ◌∷◌}
use Rattle.std.specs.Prelude.{IsSome, is_some}
use Rattle.std.specs.List.{list_any}
use Rattle.std.proofs.Math.Logic.{⊎_elim}
use Rattle.std.proofs.lemmas.Bool.{cases_lt, cases_eq, cases_Bool}
use Rattle.std.proofs.lemmas.List.{get_or_past, get_or_default}
use Rattle.tsc_cover.specs.Cover.{Literal}
use Rattle.tsc_cover.specs.Terms.{terms_from}
use Rattle.fault_secure.specs.Circuit.{Circuit, node, node_net, nets, bit}
use Rattle.fault_secure.specs.StuckAt.{StuckAt, on_stem}
use Rattle.tsc_net.specs.Order.{fan_ins, evaluation_order, has_place, place_in, IsOrder}
use Rattle.tsc_net.proofs.OrderLists.{has_place-All}
use Rattle.lane_rows.specs.Alive.{source_count, net_at, reads_net, is_needed}
use Rattle.lane_rows.specs.Rows.{row_of, RowsApart}
use Rattle.lane_rows.proofs.OrderFacts.{node_within, node_placed, node_at_place, order_sized}
use Rattle.lane_sim.specs.Points.{PointsState, ArePointsOf, source_bit}
use Rattle.lane_sim.specs.Gate.{IsOperand, HaveOperands, term_operand}
use Rattle.lane_sim.specs.Program.{ProgramState, row_at, operand_of, term_of, terms_of, IsOperationOf, IsStep, ShowsWatched}
use Rattle.lane_sim.specs.Operation.{operation_bit, IsFit}
use Rattle.lane_sim.specs.declared.gate.Operation.{Operation}
use Rattle.lane_sim.specs.declared.gate.Operation.TheVariants.{Two, Many}
use Rattle.lane_sim.specs.declared.gate.Step.{Step}
use Rattle.lane_sim.specs.declared.steps.Steps.{Steps}
use Rattle.lane_sim.proofs.SettleLemmas.{operand_again, operation_is}
use Rattle.lane_sim.specs.ProgramView.{KeepsOrder}
use Rattle.lane_sim.specs.Along.{HoldsSources, HoldsNodes, row_there, place_bit}
use Rattle.lane_sim.proofs.AlongLemmas.{some_at, operand_of_source, operand_of_node, settles_at, holds_more}
use Rattle.lane_sim.proofs.ReadyLemmas.{all_mapped}
use Rattle.lane_sim.proofs.WalkLemmas.{within, taken}

-- the step that stands for one beyond a list's end
abbrev no_step : Step
no_step = record { driver = 0; to = 0; operation = Two false false 0 0 0 }

-- what a program keeps stays where what is seen of it is the same
pub keeps_along : (old new : ProgramState) (steps : Steps) → old ≡ new → KeepsOrder old steps → KeepsOrder new steps
keeps_along old new steps same keeps = subst (λ (s : ProgramState). KeepsOrder s steps) same keeps

-- two entries can't be some row and none
some_not_none : {o : Option ℕ} (row : ℕ) → o ≡ Some row → o ≡ None → ⊥
some_not_none {o} row some none = true≢false (sym (ap is_some some) ∙ ap is_some none)

module _ (program : ProgramState) (steps : Steps) (keeps : KeepsOrder program steps) where
  abbrev C : Circuit
  C = program.circuit

  abbrev rows : List (Option ℕ)
  rows = program.rows.rows

  abbrev first : ℕ
  first = source_count program.circuit

  abbrev order : List ℕ
  order = evaluation_order (fan_ins program.circuit)

  whole : IsOrder (fan_ins C) order
  whole = keeps.whole

  apart : RowsApart C order program.watched rows
  apart = keeps.apart

  -- ---- inputs and latch outputs

  -- one that has a row is watched
  watched_source : (source row : ℕ) → source < first → row_of rows source ≡ Some row → has_place program.watched source ≡ true
  watched_source source row below some = ⊎_elim
      (λ yes. yes)
      (λ no. absurd (some_not_none row some (keeps.none source below no)))
      (cases_Bool (has_place program.watched source))

  -- and no other net has it
  pub source_row_apart : (source net row : ℕ) → source < first → net < nets C → row_of rows source ≡ Some row → row_of rows net ≡ Some row → net ≡ source
  source_row_apart source net row below inside some other =
      apart.kept source net below (watched_source source row below some) inside (other ∙ sym some)

  -- one source more
  pub sources_more : (points : ℕ) (f : StuckAt) (words : List ℕ) (net : ℕ) (old new : List ℕ) → net < first
      → ((row p : ℕ) → row_of rows net ≡ Some row → p < points → source_bit new row p ≡ on_stem f net (source_bit words net p))
      → ((row p : ℕ) → (row_of rows net ≡ Some row → ⊥) → p < points → source_bit new row p ≡ source_bit old row p)
      → HoldsSources points net rows f words old → HoldsSources points (net + 1) rows f words new
  sources_more points f words net old new below here others held source row p before some inside = ⊎_elim
      (λ is. subst (λ n. row_of rows n ≡ Some row → source_bit new row p ≡ on_stem f n (source_bit words n p)) (sym is) (λ there. here row p there inside) some)
      (λ differ.
      others row p (λ same. differ (sym (source_row_apart source net row (omega arith) (omega arith) some same))) inside
      ∙ held source row p (omega arith) some inside)
      (cases_eq source net)

  -- ---- steps

  -- the order has a place a node
  pub places_are : length order ≡ length C.nodes
  places_are = order_sized C order whole

  step_ready : (k : ℕ) (d : Step) → k < length C.nodes → IsStep first rows (node C (slice_index order k)) (net_at C order k) steps.flat (get_or steps.list.items k d)
  step_ready k d inside = keeps.ready.each k d inside

  pub node_there : (k : ℕ) → k < length C.nodes → slice_index order k < length C.nodes
  node_there k inside = node_within C order whole k (omega (arith, places_are))

  -- each net has an operand
  module _ (words : List ℕ) (block : List ℕ) (sources : length words ≡ first * 16) (sized : length block ≡ program.rows.count * 16) where
    operand_there : (net : ℕ) → net < nets C → IsOperand words block (operand_of first rows net)
    operand_there net inside = ⊎_elim
        (λ below. subst (IsOperand words block) (sym (operand_of_source first rows net below)) (let b = below in omega arith))
        (λ past.
        let j = net - first in
        let is : node_net C j ≡ net = omega arith in
        let some = subst (λ n. IsSome (row_of rows n)) is (keeps.have.of_nodes j (omega arith)) in
        subst (IsOperand words block) (sym (operand_of_node first rows net past)) (let b = keeps.below net (row_at rows net) (some_at rows net some) in omega arith))
        (cases_lt net first)

    -- what a pin reads is a net, also beyond a node's pins
    pin_inside : (j pin : ℕ) → j < length C.nodes → slice_index (node C j).reads pin < nets C
    pin_inside j pin inside = ⊎_elim
        (λ below. keeps.closed.pins j pin inside below)
        (λ past. let none : slice_index (node C j).reads pin ≡ 0 = get_or_past (node C j).reads pin 0 past in omega arith)
        (cases_lt pin (length (node C j).reads))

    -- so each term has an operand
    pub terms_have_operands : (j : ℕ) → j < length C.nodes → (table : List (List Literal)) → HaveOperands words block (map (terms_of first rows (node C j).reads) table)
    terms_have_operands j inside table =
        all_mapped (All (λ term. IsOperand words block (term_operand term))) (terms_of first rows (node C j).reads) table [] (λ k d below.
        all_mapped (λ term. IsOperand words block (term_operand term)) (term_of first rows (node C j).reads) (terms_from 0 (get_or table k d)) (0, false) (λ i e within.
        let net = slice_index (node C j).reads (get_or (terms_from 0 (get_or table k d)) i e).0 in
        subst (IsOperand words block) (sym (operand_again (operand_of first rows net))) (operand_there net (pin_inside j (get_or (terms_from 0 (get_or table k d)) i e).0 inside))))

    operand_at : (j pin : ℕ) → j < length C.nodes → IsOperand words block (operand_of first rows (slice_index (node C j).reads pin))
    operand_at j pin inside = operand_there (slice_index (node C j).reads pin) (pin_inside j pin inside)

    -- the second pin's, or the first one's in its place
    second_inside : (j : ℕ) → j < length C.nodes → get_or (node C j).reads 1 (slice_index (node C j).reads 0) < nets C
    second_inside j inside = ⊎_elim
        (λ below. subst (λ net. net < nets C) (get_or_default (node C j).reads 1 0 _ below) (pin_inside j 1 inside))
        (λ past. subst (λ net. net < nets C) (sym (get_or_past (node C j).reads 1 (slice_index (node C j).reads 0) past)) (pin_inside j 0 inside))
        (cases_lt 1 (length (node C j).reads))

    operation_fits : (j : ℕ) → j < length C.nodes → (operation : Operation) → IsOperationOf first rows (node C j) steps.flat operation → IsFit words block steps.flat operation
    operation_fits j inside (Two in_rows also masks one other) ready = (
      ready.aligned,
      subst (IsOperand words block) (sym ready.first_operand) (operand_at j 0 inside),
      subst (IsOperand words block) (sym ready.second_operand) (operand_there _ (second_inside j inside)),
    )
    operation_fits j inside (Many on place) ready = (ready.place, subst (HaveOperands words block) (sym ready.terms) (terms_have_operands j inside (node C j).cover.rows))

    pub step_fits : (k : ℕ) (d : Step) → k < length C.nodes → IsFit words block steps.flat (get_or steps.list.items k d).operation
    step_fits k d inside = operation_fits (slice_index order k) (node_there k inside) (get_or steps.list.items k d).operation (step_ready k d inside).operation

  -- what the step gives is what its node gives
  pub step_gives : (f : StuckAt) (words block : List ℕ) (k : ℕ) (d : Step) → k < length C.nodes → (p : ℕ)
      → operation_bit f (get_or steps.list.items k d).driver words block p steps.flat (get_or steps.list.items k d).operation ≡ place_bit program f words block k p
  step_gives f words block k d inside p =
      let ready = step_ready k d inside in
      ap (λ driver. operation_bit f driver words block p steps.flat (get_or steps.list.items k d).operation) ready.driver
      ∙ operation_is first rows (node C (slice_index order k)) f (net_at C order k) words block p steps.flat (get_or steps.list.items k d).operation ready.operation

  -- it drives its node's net
  pub step_driver : (k : ℕ) (d : Step) → k < length C.nodes → (get_or steps.list.items k d).driver ≡ net_at C order k
  step_driver k d inside = (step_ready k d inside).driver

  -- its row is that of its net
  pub step_row : (k : ℕ) (d : Step) → k < length C.nodes → row_there program k ≡ (get_or steps.list.items k d).to / 16
  step_row k d inside = some_same (some_at rows (net_at C order k) (keeps.have.of_nodes (slice_index order k) (node_there k inside))) (step_ready k d inside).row
    where
      some_same : {o : Option ℕ} {a b : ℕ} → o ≡ Some a → o ≡ Some b → a ≡ b
      some_same x y = let e = sym x ∙ y in cc

  pub step_starts : (k : ℕ) (d : Step) → k < length C.nodes → (get_or steps.list.items k d).to % 16 ≡ 0
  step_starts k d inside = (step_ready k d inside).start

  step_row_below : (k : ℕ) (d : Step) → k < length C.nodes → (get_or steps.list.items k d).to / 16 < program.rows.count
  step_row_below k d inside = keeps.below (net_at C order k) ((get_or steps.list.items k d).to / 16) (step_ready k d inside).row

  -- ---- the step that a settle takes next: the first of those that are left

  module _ (all rest behind : List Step) (step : Step) (items : all ≡ steps.list.items)
      (is : rest ≡ step ∷ behind) (sized : length rest ≤ length all) (walked : drop (length all - length rest) all ≡ rest) where
    abbrev next_place : ℕ
    next_place = length all - length rest

    pub next_inside : next_place < length C.nodes
    next_inside = omega (arith, within all rest behind step is sized walked, ap (λ (s : List Step). length s) items, keeps.ready.sized)

    next_is : get_or steps.list.items next_place no_step ≡ step
    next_is = ap (λ (s : List Step). get_or s next_place no_step) (sym items) ∙ taken all rest behind step is sized walked no_step

    pub next_starts : step.to % 16 ≡ 0
    next_starts = subst (λ (s : Step). s.to % 16 ≡ 0) next_is (step_starts next_place no_step next_inside)

    pub next_room : (block : List ℕ) → length block ≡ program.rows.count * 16 → step.to + 16 ≤ length block
    next_room block filled =
        let below = subst (λ (s : Step). s.to / 16 < program.rows.count) next_is (step_row_below next_place no_step next_inside) in
        omega (arith, next_starts, below, filled)

    pub next_fits : (words block : List ℕ) → length words ≡ first * 16 → length block ≡ program.rows.count * 16 → IsFit words block steps.flat step.operation
    next_fits words block sources filled =
        subst (λ (s : Step). IsFit words block steps.flat s.operation) next_is (step_fits words block sources filled next_place no_step next_inside)

    pub next_row : step.to / 16 ≡ row_there program next_place
    next_row = ap (λ (s : Step). s.to / 16) (sym next_is) ∙ sym (step_row next_place no_step next_inside)

    pub next_gives : (f : StuckAt) (words block : List ℕ) (p : ℕ) → operation_bit f step.driver words block p steps.flat step.operation ≡ place_bit program f words block next_place p
    next_gives f words block p =
        ap (λ (s : Step). operation_bit f s.driver words block p steps.flat s.operation) (sym next_is) ∙ step_gives f words block next_place no_step next_inside p

  -- ---- one node more

  module _ (points : ℕ) (f : StuckAt) (words : List ℕ) (old new : List ℕ) (place : ℕ) (within : place < length order)
      (here : (p : ℕ) → p < points → source_bit new (row_there program place) p ≡ place_bit program f words old place p)
      (others : (row p : ℕ) → row ≢ row_there program place → p < points → source_bit new row p ≡ source_bit old row p) where
    pub nodes_more : HoldsNodes points program f words old place → HoldsNodes points program f words new (place + 1)
    nodes_more held p v inside settles =
        holds_more program f words order whole keeps.closed apart keeps.have old p v settles new place within
        (here p inside) (λ row apart. others row p apart inside) (held p v inside settles)

    pub sources_stay : HoldsSources points first rows f words old → HoldsSources points first rows f words new
    sources_stay held source row p below some inside =
        let j_inside = node_within C order whole place within in
        let own = some_at rows (net_at C order place) (keeps.have.of_nodes (slice_index order place) j_inside) in
        others row p (λ same.
        let is = source_row_apart source (net_at C order place) row below (omega arith) some (own ∙ ap Some (sym same)) in
        absurd (omega arith)) inside
        ∙ held source row p below some inside

  -- ---- the end

  pub shows_watched : (many : ℕ) (points : PointsState) (f : StuckAt) (block : List ℕ) → ArePointsOf C points
      → HoldsSources many first rows f points.words block → HoldsNodes many program f points.words block (length C.nodes) → ShowsWatched many program points f block
  shows_watched many points f block shape sources nodes p net v inside watched settles =
      let below = has_place-All (λ net. net < nets C) program.watched net watched keeps.watched in ⊎_elim
      (λ source.
      sources net (row_at rows net) p source (some_at rows net (keeps.have.of_watched net below watched)) inside
      ∙ sym ((settles_at C f points p v shape settles).sources net source))
      (λ past.
      let j = net - first in
      let j_inside : j < length C.nodes = omega arith in
      let k = place_in order j in
      let k_inside : k < length order = node_placed C order whole j j_inside in
      let all = order_sized C order whole in
      let there : net_at C order k ≡ net = ap (node_net C) (node_at_place C order whole j j_inside) ∙ omega arith in
      let last = λ (later : ℕ) (after : k < later) (within : later < length C.nodes) (same : row_at rows (net_at C order later) ≡ row_at rows (net_at C order k)).
      let later_inside : later < length order = omega arith in
      let own = some_at rows (net_at C order k) (keeps.have.of_nodes (slice_index order k) (node_within C order whole k k_inside)) in
      let other = some_at rows (net_at C order later) (keeps.have.of_nodes (slice_index order later) (node_within C order whole later later_inside)) in
      let unneeded = apart.reused k later after later_inside (own ∙ ap Some (sym same) ∙ sym other) in
      true≢false (sym (needed later (net_at C order k) (ap (has_place program.watched) there ∙ watched)) ∙ unneeded) in
      subst (λ n. source_bit block (row_at rows n) p ≡ bit v n) there
      (nodes p v inside (settles_at C f points p v shape settles) k (omega arith) last))
      (cases_lt net first)
    where
      needed : (from net : ℕ) → has_place program.watched net ≡ true → is_needed C order program.watched from net ≡ true
      needed from net is = ap (λ b. b || list_any (reads_net C net) (drop from order)) is
