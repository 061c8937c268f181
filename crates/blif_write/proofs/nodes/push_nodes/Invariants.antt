use Rattle.std.proofs.Common.{◌≡◌, ◌+◌, drop, length}
use Rattle.std.specs.List.{flat_map}
use Rattle.tsc_net.specs.NetlistOf.{named_nodes}
use Rattle.blif_write.specs.Layout.{node_lines}
use Rattle.blif_write.specs.Steps.{after_lines}
use Rattle.blif_write.proofs.nodes.push_nodes.Given as goal

abbrev pub invariant-loop-place : goal.invariant-loop-place
invariant-loop-place l =
    after_lines l.out (flat_map node_lines (named_nodes l.net.names (l.net.circuit.inputs + length l.net.circuit.latches + l.place) (drop l.place l.net.circuit.nodes))) ≡ after_lines l.initial.out (flat_map node_lines (named_nodes l.net.names (l.net.circuit.inputs + length l.net.circuit.latches) l.net.circuit.nodes))
