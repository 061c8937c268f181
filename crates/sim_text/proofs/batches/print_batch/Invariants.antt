-- The lines of the batch's steps so far were printed, and its steps from this one on are left.
use Rattle.std.proofs.Common.{◌+◌, Bool, List, ◌++◌, drop}
use Rattle.buffered_sink.specs.Output.{output}
use Rattle.sim_text.specs.Printed.{TakesTo}
use Rattle.sim_text.specs.Tables.{sim_at}
use Rattle.sim_text.proofs.batches.print_batch.Given as goal

abbrev pub invariant-loop-place : goal.invariant-loop-place
invariant-loop-place g l =
    (rest : List (List Bool)) → TakesTo (sim_at l.sim l.first 0) (sim_at l.sim (l.first + l.place) 0) (l.batch.inputs ++ rest) (drop l.place l.batch.inputs ++ rest)
    (output (g.K.Sink.written l.initial.sink) (g.K.Sink.faults l.initial.sink) l.initial.page)
    (output (g.K.Sink.written l.sink) (g.K.Sink.faults l.sink) l.page)
