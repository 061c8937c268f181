use Rattle.std.proofs.Common.{◌≡◌, ◌<◌, List, ℕ, sym, ap, ◌∙◌, subst, arith}
use Rattle.fault_secure.specs.Circuit.{nets}
use Rattle.tsc_net.specs.Order.{fan_ins, evaluation_order, IsOrder}
use Rattle.tsc_net.specs.PlanView.{net_numbers}
use Rattle.tsc_net.specs.declared.ids.NetId.{NetId}
use Rattle.lane_rows.specs.Alive.{peak}
use Rattle.lane_rows.specs.Rows.{RowsApart, HaveRows, OthersHaveNone}
use Rattle.lane_sim.specs.Program.{ProgramState}
use Rattle.lane_sim.specs.ProgramView.{KeepsOrder}
use Rattle.lane_sim.proofs.BenchLemmas.{peak_within}
use Rattle.lane_sim.proofs.ReadyLemmas.{all_mapped}
use Rattle.lane_sim.proofs.ProgramLemmas.{keeps_along}
use Rattle.lane_sim.proofs.program.Program.of.Goals as goal

pub invariant_of-result : goal.invariant_of-result
invariant_of-result c =
    let C = c.args.net.now.circuit in
    let watch = c.args.watch.now in
    let rows = c.in_ok-rows.rows in
    let steps = c.in_ok-steps.steps in
    let numbers : List NetId → List ℕ = net_numbers in
    let watched : c.in_ok-watched.watched ≡ watch = c.in_ok-watched.ensures.same ∙ c.as_slice-2.ensures.whole in
    let slice = c.as_slice.ensures.whole in
    let program : ProgramState = record { circuit = C; watched = numbers watch; rows = rows } in
    let keeps : KeepsOrder program steps = record {
      few = c.nets-nets.ensures.checked.few;
      closed = c.nets-nets.ensures.checked.closed;
      acyclic = c.order-order.ensures.acyclic;
      whole = subst (IsOrder (fan_ins C)) c.order-order.ensures.order c.order-order.ensures.whole;
      ready = c.in_ok-steps.ensures.ready;
      apart = subst (λ (w : List NetId). RowsApart C (evaluation_order (fan_ins C)) (numbers w) rows.rows) slice c.in_ok-rows.ensures.apart;
      below = c.in_ok-rows.ensures.within;
      sized = c.in_ok-rows.ensures.sized;
      have = subst (λ (w : List NetId). HaveRows C (numbers w) rows.rows) slice c.in_ok-rows.ensures.some;
      none = subst (λ (w : List NetId). OthersHaveNone C (numbers w) rows.rows) slice c.in_ok-rows.ensures.none;
      watched = all_mapped (λ net. net < nets C) (λ (net : NetId). net.number) watch (record { number = 0 }) c.requires.watched;
    } in
    keeps_along program _ steps (λ i. record { circuit = C; watched = ap numbers (sym watched) i; rows = rows }) keeps

pub returns-clause-count : goal.returns-clause-count
returns-clause-count c =
    let numbers : List NetId → List ℕ = net_numbers in
    c.in_ok-rows.ensures.count ∙ ap (λ (w : List NetId). peak c.args.net.now.circuit (numbers w)) c.as_slice.ensures.whole

pub of-requires-clause-few : goal.of-requires-clause-few
of-requires-clause-few c = λ net row some.
    let C = c.args.net.now.circuit in
    let numbers : List NetId → List ℕ = net_numbers in
    let below : row < c.in_ok-rows.rows.count = c.in_ok-rows.ensures.within net row some in
    omega (arith, below, c.in_ok-rows.ensures.count, peak_within C (numbers c.as_slice.result.now), c.nets-nets.ensures.checked.few)
