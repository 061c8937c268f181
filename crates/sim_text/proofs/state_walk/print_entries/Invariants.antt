-- The lines of the steps so far were printed, and the steps from this one on are left.
use Rattle.std.proofs.Common.{◌≡◌, ◌^◌, ◌<◌, drop, length}
use Rattle.buffered_sink.specs.Output.{output}
use Rattle.sim_text.specs.Printed.{TakesTo}
use Rattle.sim_text.specs.Tables.{sim_at}
use Rattle.sim_text.proofs.state_walk.print_entries.Given as goal

abbrev pub invariant-loop-step : goal.invariant-loop-step
invariant-loop-step g l = record {
  fits : l.state < 2 ^ length l.sim.bench.circuit.latches;
  bits : length l.bits ≡ l.sim.bench.circuit.inputs;
  took : TakesTo l.sim (sim_at l.sim l.step l.state) l.steps (drop l.step l.steps)
      (output (g.K.Sink.written l.initial.sink) (g.K.Sink.faults l.initial.sink) l.initial.page)
      (output (g.K.Sink.written l.sink) (g.K.Sink.faults l.sink) l.page);
}
