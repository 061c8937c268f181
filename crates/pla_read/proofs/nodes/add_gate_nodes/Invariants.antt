-- The nodes of the outputs so far.
use Rattle.std.proofs.Common.{◌≡◌}
use Rattle.tsc_net.specs.PartsView.{texts_of}
use Rattle.pla_read.specs.FreeParts.{gate_nodes, with_nodes}
use Rattle.pla_read.proofs.nodes.add_gate_nodes.Given as goal

abbrev pub invariant-loop-place : goal.invariant-loop-place
invariant-loop-place l =
    l.parts ≡ with_nodes l.fn.parts (gate_nodes (texts_of l.fn.parts.names l.outs) (texts_of l.fn.parts.names l.lefts) (texts_of l.fn.parts.names l.barred) l.place)
