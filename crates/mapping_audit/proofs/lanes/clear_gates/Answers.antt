use Rattle.std.proofs.Common.{◌∙◌}
use Rattle.fault_secure.specs.Circuit.{node_net}
use Rattle.mapping_audit.proofs.Rows.{clear_lane}
use Rattle.mapping_audit.proofs.lanes.clear_gates.Goals as goal

pub loop-gate-preserved : goal.loop-gate-preserved
loop-gate-preserved c = λ p low.
    (clear_lane (node_net c.args.mapped.now.circuit) p c.loop-gate.words c.args.gates.now c.loop-gate.gate-index c.node_net.result.number 0 c.loop-gate-test.true c.node_net.ensures.net
    ∙ c.loop-gate.invariant p low)
