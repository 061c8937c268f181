use Rattle.std.proofs.Common.{ℕ, List, refl, subst, slice_index}
use Rattle.fault_secure.specs.Circuit.{node, node_net}
use Rattle.tsc_net.specs.Order.{fan_ins, evaluation_order}
use Rattle.lane_rows.specs.Alive.{source_count}
use Rattle.lane_sim.specs.Program.{IsStep}
use Rattle.lane_sim.specs.declared.steps.Steps.{Steps}
use Rattle.lane_sim.proofs.ReadyLemmas.{ready_push}
use Rattle.lane_sim.proofs.steps.Steps.of.Goals as goal

pub loop-place-preserved : goal.loop-place-preserved
loop-place-preserved c =
    let C = c.args.net.now.circuit in
    let rows = c.args.rows.now.rows in
    let order = evaluation_order (fan_ins C) in
    let place = c.loop-place.place-index in
    let old : Steps = record { list = c.loop-place.list; flat = c.loop-place.flat; masks = c.in_ok-masks.masks; sources = c.some_has_row-sources.result } in
    let new : Steps = record { list = c.push.new.self; flat = c.step_of.new.flat; masks = c.in_ok-masks.masks; sources = c.some_has_row-sources.result } in
    let step = c.in_ok-step_of.field-0 in
    let here = subst (λ (o : List ℕ). IsStep (source_count C) rows (node C (slice_index o place)) (node_net C (slice_index o place)) new.flat step)
    c.order-place-items.ensures.order c.in_ok-step_of.ensures.ready in
    ready_push C rows order place old new step c.loop-place.invariant c.in_ok-step_of.ensures.keeps c.in_ok-step_of.ensures.inside c.in_ok-step_of.ensures.gates refl refl c.in_ok-push.ensures.items here
