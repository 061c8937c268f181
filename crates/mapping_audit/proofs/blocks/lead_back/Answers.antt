use Rattle.std.proofs.Common.{◌≡◌, ◌-◌, ◌+◌, sym, subst, arith, ◌<◌, ◌≤◌, length}
use Rattle.lane_rows.proofs.OrderFacts.{node_within}
use Rattle.mapping_audit.specs.FindingBlocks.{AreBlocksFrom}
use Rattle.mapping_audit.proofs.Leading.{blocks_start, blocks_step, blocks_end}
use Rattle.mapping_audit.proofs.blocks.lead_back.Goals as goal

pub loop-left-init : goal.loop-left-init
loop-left-init c = (
  omega arith,
  subst (AreBlocksFrom c.args.mapped.now.circuit c.order-order.result.now c.args.owners.now c.args.none (length c.order-order.result.now)) (sym c.requires.start)
      (blocks_start c.args.mapped.now.circuit c.order-order.result.now c.args.owners.now c.args.none c.order-order.ensures.whole c.requires.sized c.requires.few),
)

pub lead-requires-clause-gate : goal.lead-requires-clause-gate
lead-requires-clause-gate c = node_within c.args.mapped.now.circuit c.order-order.result.now c.order-order.ensures.whole (c.loop-left.left - 1) (let i = c.loop-left.invariant.0 in let t = c.loop-left-test.true in omega arith)

pub lead-requires-clause-sized : goal.lead-requires-clause-sized
lead-requires-clause-sized c = c.loop-left.invariant.1.sized

pub loop-left-preserved : goal.loop-left-preserved
loop-left-preserved c =
    let low : c.loop-left.left ≤ length c.order-order.result.now = c.loop-left.invariant.0 in
    let test : 0 < c.loop-left.left = c.loop-left-test.true in
    let within : c.loop-left.left - 1 < length c.order-order.result.now = omega arith in
    let back : c.loop-left.left ≡ c.loop-left.left - 1 + 1 = omega arith in (
      omega arith,
      blocks_step c.args.mapped.now.circuit c.order-order.result.now c.args.owners.now c.args.none c.order-order.ensures.whole (c.loop-left.left - 1) c.loop-left.blocks c.lead.new.blocks within
          (node_within c.args.mapped.now.circuit c.order-order.result.now c.order-order.ensures.whole (c.loop-left.left - 1) within) c.lead.ensures.led
          (subst (λ left. AreBlocksFrom c.args.mapped.now.circuit c.order-order.result.now c.args.owners.now c.args.none left c.loop-left.blocks) back c.loop-left.invariant.1),
    )

pub returns : goal.returns
returns c = record {
  blocks = blocks_end c.args.mapped.now.circuit c.order-order.result.now c.args.owners.now c.args.none c.order-order.ensures.whole c.loop-left.left c.loop-left.blocks
      (let t = c.loop-left-test.false in omega arith) c.loop-left.invariant.1;
}
