-- The lines of the faults of the nets before this one were printed.
use Rattle.std.specs.List.{flat_map}
use Rattle.buffered_sink.specs.Output.{output}
use Rattle.buffered_sink.proofs.PrintLemmas.{IsUnderWay}
use Rattle.fault_secure.specs.Listed.{listed_faults}
use Rattle.netlist_answers.specs.FaultList.{fault_line}
use Rattle.tsc_net.proofs.FaultNumbers.{left_from}
use Rattle.netlist_answers.proofs.fault_list.print_faults.Given as goal

abbrev pub invariant-loop-at : goal.invariant-loop-at
invariant-loop-at g l =
    IsUnderWay (output (g.K.Sink.written l.initial.sink) (g.K.Sink.faults l.initial.sink) l.initial.page) (output (g.K.Sink.written l.sink) (g.K.Sink.faults l.sink) l.page)
    (flat_map (fault_line l.net.names) (listed_faults l.net.circuit)) (flat_map (fault_line l.net.names) (left_from l.net.circuit l.at))
