use Rattle.std.proofs.Common.{ℕ, ◌+◌, Some, set, length, refl, ap, ◌∙◌, sym, subst, arith}
use Rattle.std.proofs.lemmas.List.{length-set}
use Rattle.gate_net.specs.NetLines.{AreLinesOf, AreLinedTo, IsLineOf}
use Rattle.gate_net.proofs.Kept.{grows_not, grows_twice}
use Rattle.gate_net.proofs.NetLines.{follow_kept, follow_put}
use Rattle.gate_net.proofs.LinedNets.{none-lined, node-lined, place_within, net_within, pins-lined, outputs-lined}
use Rattle.gate_net.proofs.Sizes.{order_more, order_all, node_room}
use Rattle.gate_net.proofs.net_reading.add_nodes.Goals as goal

pub loop-place-preserved : goal.loop-place-preserved
loop-place-preserved c =
    let N = c.args.net.now.circuit in
    let order = c.order-place-items.result.now in
    let new = c.node_line.new.gates in
    let kept = follow_kept N c.loop-place.gates new c.loop-place.lines c.in_ok-line.ensures.grows c.loop-place.invariant.follow in
    let here = subst (λ net. IsLineOf N new net c.in_ok-line.line) (sym c.node_net.ensures.net) c.in_ok-line.ensures.follows in
    record {
      grows = grows_twice c.args.gates.now c.loop-place.gates new c.loop-place.invariant.grows c.in_ok-line.ensures.grows;
      few = order_more N (length c.args.gates.now.gates) (length c.loop-place.gates.gates) (length new.gates) _ c.order-place-items.result.now c.loop-place.place-index 0 c.loop-place-test.true refl c.loop-place.invariant.few c.in_ok-line.ensures.few;
      follow = subst (AreLinesOf N new) (sym c.put.ensures.put) (follow_put N new c.loop-place.lines c.node_net.result.number c.in_ok-line.line kept here);
      sized = ap length c.put.ensures.put ∙ length-set c.loop-place.lines c.node_net.result.number (Some c.in_ok-line.line) ∙ c.loop-place.invariant.sized;
      lined = subst (AreLinedTo N order (c.loop-place.place-index + 1)) (sym (c.put.ensures.put ∙ ap (λ (net : ℕ). set c.loop-place.lines net (Some c.in_ok-line.line)) c.node_net.ensures.net))
          (node-lined N order c.loop-place.lines c.loop-place.place-index c.in_ok-line.line
          (omega (arith, net_within N c.requires.combinational c.requires.closed order c.order-place-items.ensures.whole c.loop-place.place-index c.loop-place-test.true, c.loop-place.invariant.sized, c.requires.sized)) c.loop-place.invariant.lined);
    }

pub returns-clause-few : goal.returns-clause-few
returns-clause-few c =
    order_all c.args.net.now.circuit (length c.args.gates.now.gates) (length c.loop-place.gates.gates) c.order-place-items.result.now c.loop-place.place-index
    c.order-place-items.ensures.whole c.loop-place-test.false c.loop-place.invariant.few

pub node_line-requires-clause-room : goal.node_line-requires-clause-room
node_line-requires-clause-room c =
    node_room c.args.net.now.circuit (length c.args.gates.now.gates) (length c.loop-place.gates.gates) c.order-place-items.result.now c.loop-place.place-index 0
    c.order-place-items.ensures.whole c.loop-place-test.true c.loop-place.invariant.few c.requires.room

pub loop-place-init : goal.loop-place-init
loop-place-init c = record {
  grows = grows_not c.args.gates.now;
  few = omega arith;
  follow = c.requires.follow;
  sized = refl;
  lined = none-lined c.args.net.now.circuit c.order-place-items.result.now c.args.lines.now c.requires.lined;
}

pub node_line-requires-clause-within : goal.node_line-requires-clause-within
node_line-requires-clause-within c =
    place_within c.args.net.now.circuit c.requires.combinational c.requires.closed c.order-place-items.result.now c.order-place-items.ensures.whole c.loop-place.place-index c.loop-place-test.true

pub node_line-requires-clause-lined : goal.node_line-requires-clause-lined
node_line-requires-clause-lined c =
    pins-lined c.args.net.now.circuit c.requires.combinational c.requires.closed c.order-place-items.result.now c.order-place-items.ensures.whole c.loop-place.lines c.loop-place.place-index c.loop-place-test.true
    c.loop-place.invariant.lined

pub returns-clause-lined : goal.returns-clause-lined
returns-clause-lined c =
    outputs-lined c.args.net.now.circuit c.requires.combinational c.requires.closed c.order-place-items.result.now c.order-place-items.ensures.whole c.loop-place.lines c.loop-place.place-index c.loop-place-test.false
    c.loop-place.invariant.lined
