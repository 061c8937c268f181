-- The lines of the steps so far were printed, and the steps from `first` on are left.
use Rattle.std.proofs.Common.{◌-◌, ◌<◌, ◌≤◌, drop, length}
use Rattle.buffered_sink.specs.Output.{output}
use Rattle.fault_sim.specs.Sim.{IsStill}
use Rattle.sim_text.specs.Batches.{IsBatchFor}
use Rattle.sim_text.specs.Printed.{TakesTo}
use Rattle.sim_text.specs.Tables.{sim_at}
use Rattle.sim_text.proofs.batches.print_in_batches.Given as goal

abbrev pub invariant-loop-first : goal.invariant-loop-first
invariant-loop-first g l = record {
  still : IsStill l.initial.sim l.sim;
  within : l.first ≤ length l.steps;
  batch : IsBatchFor l.sim l.batch;
  some : 0 < length l.batch.inputs;
  took : TakesTo l.initial.sim (sim_at l.initial.sim l.first 0) l.steps (drop l.first l.steps)
      (output (g.K.Sink.written l.initial.sink) (g.K.Sink.faults l.initial.sink) l.initial.page)
      (output (g.K.Sink.written l.sink) (g.K.Sink.faults l.sink) l.page);
}

abbrev pub decreases-loop-first : goal.decreases-loop-first
decreases-loop-first g l = length l.steps - l.first
