-- The lines of the latches before this one were printed.
use Rattle.std.proofs.Common.{◌+◌, map, drop}
use Rattle.tsc_net.specs.NetlistOf.{named_latches, named_of}
use Rattle.tsc_text.specs.Written.{text_of}
use Rattle.std.specs.Option.{option_copied}
use Rattle.blif_write.specs.Layout.{clocked_latch_line}
use Rattle.blif_write.specs.RegisterText.{clock_words}
use Rattle.joint_text.specs.JointNamed.{names_under, under}
use Rattle.buffered_sink.specs.Output.{output}
use Rattle.buffered_sink.proofs.PrintLemmas.{IsUnderWay}
use Rattle.joint_text.proofs.part_lines.print_part_latches.Given as goal

abbrev pub invariant-loop-place : goal.invariant-loop-place
invariant-loop-place g l =
    IsUnderWay (output (g.K.Sink.written l.initial.sink) (g.K.Sink.faults l.initial.sink) l.initial.page) (output (g.K.Sink.written l.sink) (g.K.Sink.faults l.sink) l.page)
    (text_of (map (clocked_latch_line (clock_words (option_copied l.clock))) (named_of (under l.label l.net)).latches)) (text_of (map (clocked_latch_line (clock_words (option_copied l.clock))) (named_latches (names_under l.label l.net) (l.net.circuit.inputs + l.place) (drop l.place l.net.circuit.latches))))
