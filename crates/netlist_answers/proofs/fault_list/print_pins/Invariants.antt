-- The lines of the faults of the pins before this one were printed.
use Rattle.std.proofs.Common.{◌-◌}
use Rattle.buffered_sink.specs.Output.{output}
use Rattle.buffered_sink.proofs.PrintLemmas.{IsUnderWay}
use Rattle.netlist_answers.specs.FaultList.{pins_lines}
use Rattle.netlist_answers.proofs.fault_list.print_pins.Given as goal

abbrev pub invariant-loop-index : goal.invariant-loop-index
invariant-loop-index g l =
    IsUnderWay (output (g.K.Sink.written l.initial.sink) (g.K.Sink.faults l.initial.sink) l.initial.page) (output (g.K.Sink.written l.sink) (g.K.Sink.faults l.sink) l.page)
    (pins_lines l.name 0 l.pins) (pins_lines l.name l.index (l.pins - l.index))
