-- What is there, then what the nodes that are left drive.
use Rattle.std.proofs.Common.{◌≡◌, ◌++◌, drop, map}
use Rattle.tsc_net.proofs.build.push_node_outs.Given as goal

abbrev pub invariant-loop-node : goal.invariant-loop-node
invariant-loop-node l = l.driven ++ map (λ x. x.out) (drop l.node-index l.nodes) ≡ l.fn.driven ++ map (λ x. x.out) l.nodes
