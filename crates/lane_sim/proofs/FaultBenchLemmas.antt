-- What a bench of faults keeps and shows.
use Rattle.std.proofs.Common.{◌≡◌, ◌≢◌, ℕ, ◌+◌, ◌-◌, ◌*◌, ◌/◌, ◌%◌, ◌<◌, ◌≤◌, ◌==◌, Bool, true, false, not, List, length, slice_index, slice_index_or, All, refl, sym, ap, ◌∙◌, subst, arith, eq-eqb}
use Rattle.std.proofs.Math.Logic.{⊎_elim}
use Rattle.std.proofs.lemmas.Bool.{cases_lt}
use Rattle.std.proofs.lemmas.List.{length-map}
use Rattle.std.proofs.lemmas.List.Folds.{list_any_at}
use Rattle.tsc_bits.specs.Bits.{bit_worth}
use Rattle.fault_secure.specs.Circuit.{Circuit, node_net, nets, bit}
use Rattle.fault_secure.specs.StuckAt.{StuckAt}
use Rattle.fault_secure.specs.Settle.{Acyclic}
use Rattle.fault_secure.proofs.OneRun.{one_valuation}
use Rattle.tsc_net.specs.Order.{fan_ins, evaluation_order, has_place, place_in, IsOrder}
use Rattle.tsc_net.specs.PlanView.{net_numbers}
use Rattle.tsc_net.specs.declared.ids.NetId.{NetId}
use Rattle.tsc_net.proofs.NetNumbers.{number_at}
use Rattle.lane_rows.specs.Alive.{source_count}
use Rattle.lane_rows.proofs.OrderFacts.{node_within, node_placed, node_at_place, order_sized}
use Rattle.lane_sim.specs.Points.{PointsState, source_bit, point_input, point_state}
use Rattle.lane_sim.specs.Program.{ProgramState, row_at, ShowsWatched}
use Rattle.lane_sim.specs.RowBlock.{row_words}
use Rattle.lane_sim.specs.TwoPins.{differ}
use Rattle.lane_sim.specs.Again.{net_there, SettlesThere, HoldsRows}
use Rattle.lane_sim.specs.FaultBench.{AgreeUnder, HaveLanesUnder}
use Rattle.lane_sim.specs.Lanes.{lane_bit}
use Rattle.lane_sim.specs.FaultBenchView.{WatchesNodes}
use Rattle.lane_sim.proofs.RowBlockLemmas.{row_lanes}

-- ---- the nets of nodes

pub node_nets_within : (C : Circuit) (watch : List NetId) → length watch ≡ length C.nodes
    → ((j : ℕ) → j < length C.nodes → slice_index (net_numbers watch) j ≡ node_net C j) → All (λ net. net.number < nets C) watch
node_nets_within C watch sized each k d below =
    let own : slice_index (net_numbers watch) k ≡ (slice_index_or watch k d).number = number_at watch k d below in
    let is = each k (omega (arith, sized)) in
    omega (arith, own, is, sized)

pub node_nets_each : (C : Circuit) (watch : List NetId) → length watch ≡ length C.nodes
    → ((j : ℕ) → j < length C.nodes → slice_index (net_numbers watch) j ≡ node_net C j)
    → (j : ℕ) → j < length C.nodes → has_place (net_numbers watch) (node_net C j) ≡ true
node_nets_each C watch sized each j below =
    list_any_at (λ k. k == node_net C j) (net_numbers watch) j 0 (omega (arith, sized, length-map watch (λ (net : NetId). net.number))) (eq-eqb _ _ (each j below))

-- ---- what rows have

-- those of a program that shows the nets of all nodes
pub shown_rows : (program : ProgramState) (f : StuckAt) (points : PointsState) (block : List ℕ) → IsOrder (fan_ins program.circuit) (evaluation_order (fan_ins program.circuit))
    → WatchesNodes program → ShowsWatched 1024 program points f block → HoldsRows program f points block 0 (length program.circuit.nodes)
shown_rows program f points block whole watches shows p place v inside settles low below =
    let C = program.circuit in
    let order = evaluation_order (fan_ins C) in
    let j_inside = node_within C order whole place (omega (arith, order_sized C order whole)) in
    shows p (net_there C place) v inside (watches (slice_index order place) j_inside) settles

-- the row of a node's net has what the net has
pub row_of_node : (program : ProgramState) (f : StuckAt) (points : PointsState) (block : List ℕ) → IsOrder (fan_ins program.circuit) (evaluation_order (fan_ins program.circuit))
    → HoldsRows program f points block 0 (length program.circuit.nodes)
    → (net : ℕ) → source_count program.circuit ≤ net → net < nets program.circuit
    → (p : ℕ) (v : List Bool) → p < 1024 → SettlesThere program.circuit f points p v → source_bit block (row_at program.rows.rows net) p ≡ bit v net
row_of_node program f points block whole held net past inside p v point settles =
    let C = program.circuit in
    let order = evaluation_order (fan_ins C) in
    let j = net - source_count C in
    let k = place_in order j in
    let k_inside : k < length C.nodes = omega (arith, node_placed C order whole j (omega arith), order_sized C order whole) in
    let there : net_there C k ≡ net = ap (node_net C) (node_at_place C order whole j (omega arith)) ∙ omega arith in
    subst (λ n. source_bit block (row_at program.rows.rows n) p ≡ bit v n) there (held p k v point settles (omega arith) k_inside)

-- the lanes of a row that is read alone
pub lone_row : (block : List ℕ) (row p : ℕ) → p < 1024 → source_bit (row_words block row) 0 p ≡ source_bit block row p
lone_row block row p inside =
    let at : 0 * 16 + p / 64 ≡ p / 64 = omega arith in
    ap (λ n. bit_worth (p % 64) (slice_index (row_words block row) n)) at ∙ row_lanes block row p inside

-- ---- the lanes of nets, net after net

pub more_lanes : (C : Circuit) (f : StuckAt) (points : PointsState) (shown : List NetId) (place : ℕ) (d : NetId) (old new lanes : List ℕ) → place < length shown
    → HaveLanesUnder C f points (net_numbers shown) place old
    → ((p : ℕ) (v : List Bool) → p < 1024 → SettlesThere C f points p v → lane_bit lanes p ≡ bit v (slice_index_or shown place d).number)
    → ((p : ℕ) → p < 1024 → source_bit new place p ≡ lane_bit lanes p)
    → ((other p : ℕ) → p < 1024 → other ≢ place → source_bit new other p ≡ source_bit old other p)
    → HaveLanesUnder C f points (net_numbers shown) (place + 1) new
more_lanes C f points shown place d old new lanes inside before has stored others = λ k p v below few settles. ⊎_elim
    (λ (less : k < place). others k p few (λ (e : k ≡ place). omega (arith, less, e)) ∙ before k p v less few settles)
    (λ (more : place ≤ k).
    let same : place ≡ k = omega arith in
    subst (λ (n : ℕ). source_bit new n p ≡ bit v (slice_index (net_numbers shown) n)) same
    (stored p few ∙ (has p v few settles ∙ ap (bit v) (sym (number_at shown place d inside)))))
    (cases_lt k place)

-- ---- where two nets agree

agree_same : (x y : Bool) → not (differ x y) ≡ true → x ≡ y
agree_same true true is = refl
agree_same true false is = sym is
agree_same false true is = is
agree_same false false is = refl

same_agree : (x y : Bool) → x ≡ y → not (differ x y) ≡ true
same_agree x y is = ap (λ b. not (differ b y)) is ∙ own y
  where
    own : (b : Bool) → not (differ b b) ≡ true
    own true = refl
    own false = refl

module _ (C : Circuit) (f : StuckAt) (points : PointsState) (acyclic : Acyclic C) (one other p : ℕ) (a b agree : Bool)
    (a_is : (v : List Bool) → SettlesThere C f points p v → a ≡ bit v one) (b_is : (v : List Bool) → SettlesThere C f points p v → b ≡ bit v other)
    (agree_is : agree ≡ not (differ a b)) where
  pub agree_under : agree ≡ true → AgreeUnder C f points one other p
  agree_under is =
      let valuation = one_valuation C f (point_input points p) (point_state points p) acyclic in
      record {
        valuation = valuation.valuation;
        settles = valuation.settles;
        agree = sym (a_is valuation.valuation valuation.settles) ∙ (agree_same a b (sym agree_is ∙ is) ∙ b_is valuation.valuation valuation.settles);
      }

  pub under_agree : AgreeUnder C f points one other p → agree ≡ true
  under_agree at = agree_is ∙ same_agree a b (a_is at.valuation at.settles ∙ (at.agree ∙ sym (b_is at.valuation at.settles)))
