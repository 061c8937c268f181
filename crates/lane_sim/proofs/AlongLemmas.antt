-- A settle along the evaluation order: each node reads what its pins' nets have, and its row keeps that until its net isn't needed.
use Rattle.std.proofs.Common.{◌≡◌, ◌≢◌, ℕ, ◌+◌, ◌-◌, ◌<◌, ◌≤◌, Bool, true, false, nat_lt, ◌||◌, List, [], length, drop, Contains, Option, Some, None, refl, sym, ap, ◌∙◌, subst, arith, slice_index, slice_index_or, lt-ltb, le-ltb, true≢false}
use Rattle.std.specs.Prelude.{unwrap_or, IsSome, is_some}
use Rattle.std.proofs.Math.Logic.{⊎_elim}
use Rattle.std.proofs.lemmas.Bool.{cases_lt, cases_eq, cond-true, cond-false}
use Rattle.std.proofs.lemmas.List.{get_or-map, length-drop, get_or-drop}
use Rattle.std.proofs.lemmas.List.Folds.{list_any_at}
use Rattle.tsc_cover.specs.Cover.{truth}
use Rattle.fault_secure.specs.Circuit.{Circuit, NodeOf, node, node_net, pin_net, bit, no_node, latch_net}
use Rattle.fault_secure.specs.StuckAt.{StuckAt, on_stem}
use Rattle.fault_secure.specs.Settle.{Settles}
use Rattle.fault_secure.specs.Closed.{IsClosed}
use Rattle.tsc_net.specs.Order.{fan_in, fan_ins, has_place, place_in, IsOrder}
use Rattle.tsc_net.proofs.AcyclicLemmas.{fan_in-has}
use Rattle.tsc_net.proofs.OrderLists.{has_place-at}
use Rattle.lane_rows.specs.Alive.{source_count, net_at, reads_net, is_needed}
use Rattle.lane_rows.specs.Rows.{row_of, RowsApart, HaveRows}
use Rattle.lane_rows.proofs.OrderFacts.{node_within, place_of_node, node_placed, node_at_place, order_sized}
use Rattle.lane_sim.specs.Points.{PointsState, ArePointsOf, source_bit, point_input, point_state}
use Rattle.lane_sim.specs.Gate.{operand_bit, number_of}
use Rattle.lane_sim.specs.Program.{ProgramState, row_at, operand_of}
use Rattle.lane_sim.specs.Along.{SettlesAt, net_bit, node_bit}
use Rattle.lane_sim.specs.declared.gate.Operand.{Operand}
use Rattle.lane_sim.specs.declared.gate.Operand.TheVariants.{Points, Row}
use Rattle.lane_sim.proofs.SettleLemmas.{read_bits_are}

-- ---- rows of nets

pub some_of : (o : Option ℕ) → is_some o ≡ true → o ≡ Some (unwrap_or o 0)
some_of None is = absurd (true≢false (sym is))
some_of (Some row) is = refl

pub some_at : (rows : List (Option ℕ)) (net : ℕ) → IsSome (row_of rows net) → row_of rows net ≡ Some (row_at rows net)
some_at rows net is = some_of (row_of rows net) is

-- where the lanes of a net are
pub operand_of_source : (first : ℕ) (rows : List (Option ℕ)) (net : ℕ) → net < first → operand_of first rows net ≡ Points net
operand_of_source first rows net below = cond-true (nat_lt net first) _ _ (lt-ltb net first below)

pub operand_of_node : (first : ℕ) (rows : List (Option ℕ)) (net : ℕ) → first ≤ net → operand_of first rows net ≡ Row (row_at rows net)
operand_of_node first rows net past = cond-false (nat_lt net first) _ _ (le-ltb net first past)

-- its number, of a net or of a row, is no greater than the greatest of either
row_small : (most : ℕ) (o : Option ℕ) → 0 < most → ((row : ℕ) → o ≡ Some row → row < most) → unwrap_or o 0 < most
row_small most None some few = some
row_small most (Some row) some few = few row refl

pub operand_small : (first most : ℕ) (rows : List (Option ℕ)) (net : ℕ) → net < most → ((net row : ℕ) → row_of rows net ≡ Some row → row < most)
    → number_of (operand_of first rows net) < most
operand_small first most rows net below few = ⊎_elim
    (λ source. subst (λ (h : Operand). number_of h < most) (sym (operand_of_source first rows net source)) below)
    (λ past. subst (λ (h : Operand). number_of h < most) (sym (operand_of_node first rows net past)) (row_small most (row_of rows net) (omega arith) (few net)))
    (cases_lt net first)

-- ---- valuations at a point

pub settles_at : (C : Circuit) (f : StuckAt) (points : PointsState) (p : ℕ) (v : List Bool) → ArePointsOf C points
    → Settles C f (point_input points p) (point_state points p) v → SettlesAt C f points.words p v
settles_at C f points p v shape settles = record {
  sources = λ net below. ⊎_elim
      (λ input. settles.inputs net input ∙ ap (on_stem f net) (cond-true (nat_lt net points.inputs) _ _ (lt-ltb net points.inputs (omega (arith, shape.inputs)))))
      (λ past.
      let l = net - C.inputs in
      let is : latch_net C l ≡ net = omega arith in
      let there : points.inputs + l ≡ net = omega (arith, shape.inputs) in
      let inside : l < points.latches = omega (arith, shape.latches) in
      subst (λ n. bit v n ≡ on_stem f n (point_state points p l)) is (settles.latches l (omega arith))
      ∙ ap (on_stem f net) (cond-true (nat_lt l points.latches) _ _ (lt-ltb l points.latches inside) ∙ ap (λ n. source_bit points.words n p) there))
      (cases_lt net C.inputs);
  nodes = settles.nodes;
}

module _ (program : ProgramState) (f : StuckAt) (words : List ℕ) (order : List ℕ)
    (whole : IsOrder (fan_ins program.circuit) order)
    (closed : IsClosed program.circuit)
    (apart : RowsApart program.circuit order program.watched program.rows.rows)
    (have : HaveRows program.circuit program.watched program.rows.rows) where
  abbrev C : Circuit
  C = program.circuit

  abbrev rows : List (Option ℕ)
  rows = program.rows.rows

  -- the row of the net of the node at a place
  abbrev row_there : ℕ → ℕ
  row_there place = row_at rows (net_at C order place)

  node_row : (place : ℕ) → place < length order → row_of rows (net_at C order place) ≡ Some (row_there place)
  node_row place inside = some_at rows (net_at C order place) (have.of_nodes (slice_index order place) (node_within C order whole place inside))

  -- two places with one row have equal entries
  same_entries : (place later : ℕ) → place < length order → later < length order → row_there later ≡ row_there place
      → row_of rows (net_at C order place) ≡ row_of rows (net_at C order later)
  same_entries place later inside within same = node_row place inside ∙ ap Some (sym same) ∙ sym (node_row later within)

  -- a net that the node at a place reads is needed from each place up to there
  needed_by : (net place from : ℕ) → place < length order → from ≤ place → has_place (node C (slice_index order place)).reads net ≡ true
      → is_needed C order program.watched from net ≡ true
  needed_by net place from inside before reads =
      or_right (has_place program.watched net)
      (list_any_at (reads_net C net) (drop from order) (place - from) 0 (omega (arith, length-drop from order))
      (ap (reads_net C net) (get_or-drop from order (place - from) 0 ∙ ap (slice_index order) (omega arith)) ∙ reads))
    where
      or_right : (a : Bool) {b : Bool} → b ≡ true → (a || b) ≡ true
      or_right true is = refl
      or_right false is = is

  -- what is held of the first places
  abbrev HoldsPlaces : List ℕ → ℕ → List Bool → ℕ → Type 0
  HoldsPlaces block p v places = (place : ℕ) → place < places → ((later : ℕ) → place < later → later < places → row_there later ≢ row_there place)
      → source_bit block (row_there place) p ≡ bit v (net_at C order place)

  module _ (block : List ℕ) (p : ℕ) (v : List Bool) (settles : SettlesAt C f words p v) where
    -- at the place of a node, each of its pins reads what its net has
    module _ (place : ℕ) (inside : place < length order) (held : HoldsPlaces block p v place) where
      abbrev j : ℕ
      j = slice_index order place

      j_inside : j < length C.nodes
      j_inside = node_within C order whole place inside

      -- the pin's net is that of the node m, which stands before
      from_node : (pin m : ℕ) → pin < length (node C j).reads → pin_net C j pin ≡ node_net C m → m < length C.nodes → place_in order m < place
          → operand_bit f words block p (operand_of (source_count C) rows (pin_net C j pin)) ≡ bit v (pin_net C j pin)
      from_node pin m below is m_inside before =
          let k = place_in order m in
          let k_inside : k < length order = node_placed C order whole m m_inside in
          let there : net_at C order k ≡ pin_net C j pin = ap (node_net C) (node_at_place C order whole m m_inside) ∙ sym is in
          let reads : has_place (node C j).reads (net_at C order k) ≡ true =
          ap (has_place (node C j).reads) there ∙ has_place-at (node C j).reads pin 0 below in
          let last = λ (later : ℕ) (after : k < later) (within : later < place) (same : row_there later ≡ row_there k).
          true≢false (sym (needed_by (net_at C order k) place later inside (omega arith) reads)
          ∙ apart.reused k later after (omega arith) (same_entries k later k_inside (omega arith) same)) in
          ap (operand_bit f words block p) (operand_of_node (source_count C) rows (pin_net C j pin) (omega (arith, is)))
          ∙ ap (λ net. source_bit block (row_at rows net) p) (sym there)
          ∙ held k before last
          ∙ ap (bit v) there

      pin_is : (pin : ℕ) → pin < length (node C j).reads
          → operand_bit f words block p (operand_of (source_count C) rows (pin_net C j pin)) ≡ bit v (pin_net C j pin)
      pin_is pin below = ⊎_elim
          (λ source. ap (operand_bit f words block p) (operand_of_source (source_count C) rows (pin_net C j pin) source) ∙ sym (settles.sources (pin_net C j pin) source))
          (λ past.
          let m = pin_net C j pin - source_count C in
          let net_below = closed.pins j pin j_inside below in
          let many : j < length (fan_ins C) = omega (arith, whole.sized, order_sized C order whole, j_inside) in
          let fans : slice_index_or (fan_ins C) j [] ≡ fan_in (source_count C) (node C j).reads =
          get_or-map (λ (n : NodeOf). fan_in (source_count C) n.reads) C.nodes j no_node [] j_inside in
          let before : place_in order m < place_in order j =
          whole.after j m many (subst (λ l. Contains l m) (sym fans) (fan_in-has (source_count C) (node C j).reads pin below past)) in
          from_node pin m below (omega arith) (omega arith) (omega (arith, before, place_of_node C order whole place inside)))
          (cases_lt (pin_net C j pin) (source_count C))

      -- so it gives what its net has
      pub gives : node_bit program f words block j p ≡ bit v (node_net C j)
      gives =
          ap (λ read. on_stem f (node_net C j) (truth (node C j).cover read)) (read_bits_are f (net_bit (source_count C) rows f words block p) v (node_net C j) 0 (node C j).reads pin_is)
          ∙ sym (settles.nodes j j_inside)

    -- and its row holds that afterwards, beside what the other rows hold
    pub holds_more : (after : List ℕ) (place : ℕ) → place < length order
        → (source_bit after (row_there place) p ≡ node_bit program f words block (slice_index order place) p)
        → ((row : ℕ) → row ≢ row_there place → source_bit after row p ≡ source_bit block row p)
        → HoldsPlaces block p v place → HoldsPlaces after p v (place + 1)
    holds_more after place inside here others held k below last = ⊎_elim
        (λ is. subst (λ n. source_bit after (row_there n) p ≡ bit v (net_at C order n)) (sym is) (here ∙ gives place inside held))
        (λ apart_from.
        let before : k < place = omega arith in
        let differ : row_there k ≢ row_there place = λ same. last place before (omega arith) (sym same) in
        others (row_there k) differ
        ∙ held k before (λ later after_k within. last later after_k (omega arith)))
        (cases_eq k place)
