use Rattle.std.proofs.Common.{◌≡◌, ℕ, ◌+◌, ◌-◌, ◌<◌, ◌≤◌, length, replicate, slice_index, ◌∙◌, ap, ap₂, subst, arith, List}
use Rattle.fault_secure.specs.Circuit.{node}
use Rattle.tsc_net.specs.PlanView.{net_numbers}
use Rattle.net_cones.proofs.OrderWithin.{order_within}
use Rattle.structure_audit.specs.Lines.{with_all_lines, with_roots}
use Rattle.structure_audit.proofs.LineWalk.{LinesSoFar, lines_start, lines_step, lines_end}
use Rattle.structure_audit.proofs.lines.fill.Goals as goal

pub loop-left-init : goal.loop-left-init
loop-left-init c =
    let first : c.nets.result - c.nodes.result ≡ c.args.net.now.circuit.inputs + length c.args.net.now.circuit.latches = omega arith in
    let masks : c.add_roots.new.masks ≡ with_roots (c.args.net.now.circuit.inputs + length c.args.net.now.circuit.latches) 0 (net_numbers c.args.word.now) (replicate (length c.args.net.now.circuit.nodes) 0)
    = c.add_roots.ensures.added ∙ ap₂ (λ (k : ℕ) (old : List ℕ). with_roots k 0 (net_numbers c.args.word.now) old) first c.requires.clear in
    (omega arith, lines_start c.args.net.now.circuit (net_numbers c.args.word.now) c.order-order.result.now c.order-order.ensures.whole c.order-order.ensures.order c.add_roots.new.masks masks)

pub hand_on-requires-clause-place : goal.hand_on-requires-clause-place
hand_on-requires-clause-place c =
    order_within c.args.net.now.circuit c.order-order.result.now c.order-order.ensures.order (c.loop-left.left - 1) (let i = c.loop-left.invariant.0 in let t = c.loop-left-test.true in omega arith)

pub loop-left-preserved : goal.loop-left-preserved
loop-left-preserved c =
    let low : c.loop-left.left ≤ length c.order-order.result.now = c.loop-left.invariant.0 in
    let test : 0 < c.loop-left.left = c.loop-left-test.true in
    let within : c.loop-left.left - 1 < length c.order-order.result.now = omega arith in
    let back : c.loop-left.left ≡ c.loop-left.left - 1 + 1 = omega arith in
    let first : c.nets.result - c.nodes.result ≡ c.args.net.now.circuit.inputs + length c.args.net.now.circuit.latches = omega arith in
    let place : ℕ = slice_index c.order-order.result.now (c.loop-left.left - 1) in
    let masks : c.hand_on.new.masks ≡ with_all_lines (c.args.net.now.circuit.inputs + length c.args.net.now.circuit.latches) (slice_index c.loop-left.masks (slice_index c.order-order.result.now (c.loop-left.left - 1))) (node c.args.net.now.circuit (slice_index c.order-order.result.now (c.loop-left.left - 1))).reads c.loop-left.masks
    = c.hand_on.ensures.handed ∙ ap (λ k. with_all_lines k (slice_index c.loop-left.masks (slice_index c.order-order.result.now (c.loop-left.left - 1))) (node c.args.net.now.circuit (slice_index c.order-order.result.now (c.loop-left.left - 1))).reads c.loop-left.masks) first in (
      omega arith,
      lines_step c.args.net.now.circuit (net_numbers c.args.word.now) c.order-order.result.now c.order-order.ensures.whole c.order-order.ensures.order (c.loop-left.left - 1) c.loop-left.masks c.hand_on.new.masks within masks
          (subst (λ left. LinesSoFar c.args.net.now.circuit (net_numbers c.args.word.now) c.order-order.result.now left c.loop-left.masks) back c.loop-left.invariant.1),
    )

pub returns : goal.returns
returns c = record {
  masks = lines_end c.args.net.now.circuit (net_numbers c.args.word.now) c.order-order.result.now c.order-order.ensures.whole c.order-order.ensures.order c.loop-left.left c.loop-left.masks
      (let t = c.loop-left-test.false in omega arith) c.loop-left.invariant.1;
}
