use Rattle.std.proofs.Common.{◌≡◌, ℕ, ◌+◌, ◌-◌, ◌<◌, ◌≤◌, Bool, length, replicate, false, sym, ◌∙◌, ap, subst, arith, slice_index}
use Rattle.std.proofs.lemmas.List.{length-replicate}
use Rattle.fault_secure.specs.Circuit.{Circuit, nets, node}
use Rattle.tsc_net.specs.PlanView.{net_numbers}
use Rattle.net_cones.specs.Marks.{mark_drivers, marked_pins}
use Rattle.net_cones.proofs.MarkLemmas.{length-mark_drivers}
use Rattle.net_cones.proofs.ConeLoop.{ConeSoFar, cone_start, cone_step, cone_end}
use Rattle.net_cones.proofs.OrderWithin.{order_within}
use Rattle.net_cones.specs.Cones.{MarksCone}
use Rattle.net_cones.proofs.ConeMarksLemmas.{marks_are}
use Rattle.net_cones.proofs.cones.mark_cone.Goals as goal

-- the place of the first node's net
first_is : (C : Circuit) (all nodes : ℕ) → all ≡ nets C → nodes ≡ length C.nodes → all - nodes ≡ C.inputs + length C.latches
first_is C all nodes a b = omega arith

pub loop-left-init : goal.loop-left-init
loop-left-init c =
    let C = c.args.net.now.circuit in
    let first = first_is c.args.net.now.circuit c.nets.result c.nodes.result c.nets.ensures.count c.nodes.ensures.count in
    let marks : c.mark_drivers.new.marks ≡ mark_drivers (c.args.net.now.circuit.inputs + length c.args.net.now.circuit.latches) (net_numbers c.args.roots.now) (replicate (length c.args.net.now.circuit.nodes) false)
    = c.mark_drivers.ensures.marked ∙ ap (λ k. mark_drivers k (net_numbers c.args.roots.now) c.args.marks.now) first
    ∙ ap (mark_drivers (c.args.net.now.circuit.inputs + length c.args.net.now.circuit.latches) (net_numbers c.args.roots.now)) c.requires.clear in
    let sized : length c.mark_drivers.new.marks ≡ length c.args.net.now.circuit.nodes
    = ap length marks ∙ length-mark_drivers (c.args.net.now.circuit.inputs + length c.args.net.now.circuit.latches) (net_numbers c.args.roots.now) (replicate (length c.args.net.now.circuit.nodes) false)
    ∙ length-replicate {A = Bool} (length c.args.net.now.circuit.nodes) false in
    (omega arith, cone_start c.args.net.now.circuit (net_numbers c.args.roots.now) c.order-order.result.now c.order-order.ensures.whole c.mark_drivers.new.marks sized marks)

pub mark_pins-requires-clause-place : goal.mark_pins-requires-clause-place
mark_pins-requires-clause-place c =
    order_within c.args.net.now.circuit c.order-order.result.now c.order-order.ensures.order (c.loop-left.left - 1) (let i = c.loop-left.invariant.0 in let t = c.loop-left-test.true in omega arith)

pub loop-left-preserved : goal.loop-left-preserved
loop-left-preserved c =
    let low : c.loop-left.left ≤ length c.order-order.result.now = c.loop-left.invariant.0 in
    let test : 0 < c.loop-left.left = c.loop-left-test.true in
    let within : c.loop-left.left - 1 < length c.order-order.result.now = omega arith in
    let back : c.loop-left.left - 1 + 1 ≡ c.loop-left.left = omega arith in
    let all = order_within c.args.net.now.circuit c.order-order.result.now c.order-order.ensures.order in
    let first = first_is c.args.net.now.circuit c.nets.result c.nodes.result c.nets.ensures.count c.nodes.ensures.count in
    let place : ℕ = slice_index c.order-order.result.now (c.loop-left.left - 1) in
    let marks : c.mark_pins.new.marks ≡ marked_pins (c.args.net.now.circuit.inputs + length c.args.net.now.circuit.latches) (slice_index c.order-order.result.now (c.loop-left.left - 1)) (node c.args.net.now.circuit (slice_index c.order-order.result.now (c.loop-left.left - 1))).reads c.loop-left.marks
    = c.mark_pins.ensures.marked ∙ ap (λ k. marked_pins k (slice_index c.order-order.result.now (c.loop-left.left - 1)) (node c.args.net.now.circuit (slice_index c.order-order.result.now (c.loop-left.left - 1))).reads c.loop-left.marks) first in (
      omega arith,
      subst (λ m. ConeSoFar c.args.net.now.circuit (net_numbers c.args.roots.now) c.order-order.result.now (c.loop-left.left - 1) m) (sym marks)
          (cone_step c.args.net.now.circuit (net_numbers c.args.roots.now) c.order-order.result.now c.order-order.ensures.whole (c.loop-left.left - 1) c.loop-left.marks within
          (all (c.loop-left.left - 1) within) all
          (subst (λ left. ConeSoFar c.args.net.now.circuit (net_numbers c.args.roots.now) c.order-order.result.now left c.loop-left.marks) (sym back) c.loop-left.invariant.1)),
    )

pub returns : goal.returns
returns c =
    let none : c.loop-left.left ≡ 0 = (let t = c.loop-left-test.false in omega arith) in
    let is : MarksCone c.args.net.now.circuit (net_numbers c.args.roots.now) c.loop-left.marks
    = cone_end c.args.net.now.circuit (net_numbers c.args.roots.now) c.order-order.result.now c.order-order.ensures.whole c.loop-left.marks
    (subst (λ left. ConeSoFar c.args.net.now.circuit (net_numbers c.args.roots.now) c.order-order.result.now left c.loop-left.marks) none c.loop-left.invariant.1) in
    record {
      marks = is;
      computed = marks_are c.args.net.now.circuit (net_numbers c.args.roots.now) c.order-order.result.now c.loop-left.marks c.order-order.ensures.order c.order-order.ensures.whole is;
    }
