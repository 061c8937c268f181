-- The names of the nets before this one were printed.
use Rattle.std.proofs.Common.{drop}
use Rattle.tsc_net.specs.NetlistOf.{names_of}
use Rattle.tsc_net.specs.PlanView.{net_numbers}
use Rattle.joint_text.specs.JointNamed.{names_under}
use Rattle.joint_text.specs.LineWords.{spaced}
use Rattle.buffered_sink.specs.Output.{output}
use Rattle.buffered_sink.proofs.PrintLemmas.{IsUnderWay}
use Rattle.joint_text.proofs.part_lines.print_reads.Given as goal

abbrev pub invariant-loop-id : goal.invariant-loop-id
invariant-loop-id g l =
    IsUnderWay (output (g.K.Sink.written l.initial.sink) (g.K.Sink.faults l.initial.sink) l.initial.page) (output (g.K.Sink.written l.sink) (g.K.Sink.faults l.sink) l.page)
    (spaced (names_of (names_under l.label l.net) (net_numbers l.list))) (spaced (names_of (names_under l.label l.net) (net_numbers (drop l.id-index l.list))))
