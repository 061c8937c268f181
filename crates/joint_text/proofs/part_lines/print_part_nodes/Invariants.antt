-- The lines of the nodes before this one were printed.
use Rattle.std.proofs.Common.{◌+◌, drop, length}
use Rattle.std.specs.List.{flat_map}
use Rattle.tsc_net.specs.NetlistOf.{named_nodes, named_of}
use Rattle.tsc_text.specs.Written.{text_of}
use Rattle.blif_write.specs.Layout.{node_lines}
use Rattle.joint_text.specs.JointNamed.{names_under, under}
use Rattle.buffered_sink.specs.Output.{output}
use Rattle.buffered_sink.proofs.PrintLemmas.{IsUnderWay}
use Rattle.joint_text.proofs.part_lines.print_part_nodes.Given as goal

abbrev pub invariant-loop-place : goal.invariant-loop-place
invariant-loop-place g l =
    IsUnderWay (output (g.K.Sink.written l.initial.sink) (g.K.Sink.faults l.initial.sink) l.initial.page) (output (g.K.Sink.written l.sink) (g.K.Sink.faults l.sink) l.page)
    (text_of (flat_map node_lines (named_of (under l.label l.net)).nodes)) (text_of (flat_map node_lines (named_nodes (names_under l.label l.net) (l.net.circuit.inputs + length l.net.circuit.latches + l.place) (drop l.place l.net.circuit.nodes))))
