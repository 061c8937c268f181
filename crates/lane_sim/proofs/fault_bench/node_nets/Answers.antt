use Rattle.std.proofs.Common.{arith}
use Rattle.lane_sim.proofs.FaultBenchLemmas.{node_nets_within, node_nets_each}
use Rattle.lane_sim.proofs.fault_bench.node_nets.Goals as goal

pub returns-clause-within : goal.returns-clause-within
returns-clause-within c =
    let i = c.loop-node.invariant in
    node_nets_within c.args.net.now.circuit c.loop-node.watch (omega (arith, i.sized, c.loop-node-test.false, c.nodes-node-end.ensures.count))
    (λ j below. i.each j (omega (arith, c.loop-node-test.false, c.nodes-node-end.ensures.count)))

pub returns-clause-each : goal.returns-clause-each
returns-clause-each c =
    let i = c.loop-node.invariant in
    node_nets_each c.args.net.now.circuit c.loop-node.watch (omega (arith, i.sized, c.loop-node-test.false, c.nodes-node-end.ensures.count))
    (λ j below. i.each j (omega (arith, c.loop-node-test.false, c.nodes-node-end.ensures.count)))
