-- One node more.
use Rattle.std.proofs.Common.{refl}
use Rattle.pla_read.proofs.NodesMore.{gates_more}
use Rattle.pla_read.proofs.nodes.add_gate_nodes.Goals as goal

pub loop-place-preserved : goal.loop-place-preserved
loop-place-preserved c =
    gates_more c.args.parts.now c.loop-place.parts c.add_gate_node.new.parts c.args.lefts.now c.args.barred.now c.args.outs.now c.loop-place.place _ _ _ _ _ _
    c.loop-place.invariant c.loop-place-test.true c.requires.lefts_count c.requires.barred_count refl refl refl c.in_ok-add_gate_node.ensures.added
