use Rattle.std.proofs.Common.{subst, sym, arith}
use Rattle.mapping_audit.proofs.Sharing.{IsLeastShared, shared_start, shared_step}
use Rattle.mapping_audit.proofs.shared.first_shared.Goals as goal

pub loop-gate-init : goal.loop-gate-init
loop-gate-init c = subst (IsLeastShared c.args.mapped.now.circuit c.args.owners.now c.args.none c.args.blocks.now 0) (sym c.nodes-count.ensures.count) (shared_start c.args.mapped.now.circuit c.args.owners.now c.args.none c.args.blocks.now)

pub loop-gate-preserved : goal.loop-gate-preserved
loop-gate-preserved c =
    shared_step c.args.mapped.now.circuit c.args.owners.now c.args.none c.args.blocks.now c.loop-gate.gate c.loop-gate.least c.least_shared-least.result (omega arith)
    c.least_shared-least.ensures.least c.loop-gate.invariant
