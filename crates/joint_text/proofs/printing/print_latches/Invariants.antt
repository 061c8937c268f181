-- The lines of the parts before this one were printed.
use Rattle.std.proofs.Common.{drop}
use Rattle.std.specs.Option.{option_copied}
use Rattle.blif_write.specs.RegisterText.{clock_words}
use Rattle.module_join.specs.JoinParts.{parts_as}
use Rattle.joint_text.specs.JointNamed.{prefix_of}
use Rattle.joint_text.specs.Portions.{latches_text}
use Rattle.buffered_sink.specs.Output.{output}
use Rattle.buffered_sink.proofs.PrintLemmas.{IsUnderWay}
use Rattle.joint_text.proofs.printing.print_latches.Given as goal

abbrev pub invariant-loop-place : goal.invariant-loop-place
invariant-loop-place g l =
    IsUnderWay (output (g.K.Sink.written l.initial.sink) (g.K.Sink.faults l.initial.sink) l.initial.page) (output (g.K.Sink.written l.sink) (g.K.Sink.faults l.sink) l.page)
    (latches_text (clock_words (option_copied l.clock)) (prefix_of (parts_as l.parts)) 0 (parts_as l.parts)) (latches_text (clock_words (option_copied l.clock)) (prefix_of (parts_as l.parts)) l.place (parts_as (drop l.place l.parts)))
