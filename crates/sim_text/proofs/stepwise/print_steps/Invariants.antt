-- The steps so far were taken and their lines printed, and the steps from this one on are left.
use Rattle.std.proofs.Common.{◌≡◌, ◌+◌, drop, length}
use Rattle.buffered_sink.specs.Output.{output}
use Rattle.sim_text.specs.StepLine.{word_width}
use Rattle.sim_text.specs.Printed.{TakesTo}
use Rattle.sim_text.proofs.stepwise.print_steps.Given as goal

abbrev pub invariant-loop-step : goal.invariant-loop-step
invariant-loop-step g l = record {
  circuit : l.sim.bench.circuit ≡ l.initial.sim.bench.circuit;
  plan : l.sim.plan ≡ l.initial.sim.plan;
  number : l.sim.step ≡ l.step;
  bits : length l.bits ≡ l.initial.sim.bench.circuit.inputs;
  word : length l.word ≡ word_width (length l.initial.sim.bench.circuit.latches) + 1;
  took : TakesTo l.initial.sim l.sim l.steps (drop l.step l.steps)
      (output (g.K.Sink.written l.initial.sink) (g.K.Sink.faults l.initial.sink) l.initial.page)
      (output (g.K.Sink.written l.sink) (g.K.Sink.faults l.sink) l.page);
}
