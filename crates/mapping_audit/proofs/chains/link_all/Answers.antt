use Rattle.std.proofs.Common.{◌≡◌, ◌-◌, ◌+◌, ◌<◌, ◌≤◌, length, refl, sym, ◌∙◌, subst, arith}
use Rattle.tsc_net.specs.Order.{fan_ins}
use Rattle.lane_rows.proofs.OrderFacts.{node_within}
use Rattle.mapping_audit.specs.Chains.{AreChains, AreChainsFrom}
use Rattle.mapping_audit.proofs.Chaining.{chains_start, chains_step, chains_end}
use Rattle.mapping_audit.proofs.chains.link_all.Goals as goal

pub loop-left-init : goal.loop-left-init
loop-left-init c = (
  omega arith,
  chains_start (fan_ins c.args.mapped.now.circuit) c.order-order.result.now (length c.args.heads.now) (length c.args.mapped.now.circuit.nodes) c.args.blocks.now c.order-order.ensures.whole c.args.heads.now c.args.next.now
      c.requires.heads refl c.requires.next,
)

pub link-requires-clause-gate : goal.link-requires-clause-gate
link-requires-clause-gate c =
    let t = c.loop-left-test.true in
    let i = c.loop-left.invariant.0 in
    let n = node_within c.args.mapped.now.circuit c.order-order.result.now c.order-order.ensures.whole (c.loop-left.left - 1) (omega arith) in
    let b = c.requires.blocks in omega arith

pub link-requires-clause-next : goal.link-requires-clause-next
link-requires-clause-next c = c.loop-left.invariant.1.sized ∙ sym c.requires.blocks

pub loop-left-preserved : goal.loop-left-preserved
loop-left-preserved c =
    let low : c.loop-left.left ≤ length c.order-order.result.now = c.loop-left.invariant.0 in
    let test : 0 < c.loop-left.left = c.loop-left-test.true in
    let within : c.loop-left.left - 1 < length c.order-order.result.now = omega arith in
    let back : c.loop-left.left ≡ c.loop-left.left - 1 + 1 = omega arith in
    let headed : length c.loop-left.heads ≡ length c.args.heads.now = c.loop-left.invariant.1.headed in (
      omega arith,
      chains_step (fan_ins c.args.mapped.now.circuit) c.order-order.result.now (length c.args.heads.now) (length c.args.mapped.now.circuit.nodes) c.args.blocks.now c.order-order.ensures.whole (c.loop-left.left - 1)
          c.loop-left.heads c.loop-left.next c.link.new.heads c.link.new.next within
          (node_within c.args.mapped.now.circuit c.order-order.result.now c.order-order.ensures.whole (c.loop-left.left - 1) within)
          (rw headed at c.link.ensures.next) (rw headed at c.link.ensures.heads)
          (subst (λ left. AreChainsFrom c.order-order.result.now (length c.args.heads.now) (length c.args.mapped.now.circuit.nodes) c.args.blocks.now left c.loop-left.heads c.loop-left.next) back c.loop-left.invariant.1),
    )

pub returns : goal.returns
returns c = record {
  chains = subst (λ order. AreChains order (length c.args.heads.now) (length c.args.mapped.now.circuit.nodes) c.args.blocks.now c.loop-left.heads c.loop-left.next) c.order-order.ensures.order
      (chains_end (fan_ins c.args.mapped.now.circuit) c.order-order.result.now (length c.args.heads.now) (length c.args.mapped.now.circuit.nodes) c.args.blocks.now c.order-order.ensures.whole c.loop-left.left c.loop-left.heads c.loop-left.next
      (let t = c.loop-left-test.false in omega arith) c.loop-left.invariant.1);
}
