use Rattle.tsc_net.specs.Order.{fan_ins, evaluation_order}
use Rattle.lane_sim.specs.Program.{AreReady}
use Rattle.lane_sim.proofs.steps.Steps.of.Given as goal

abbrev pub invariant-loop-place : goal.invariant-loop-place
invariant-loop-place l = AreReady l.net.circuit l.rows.rows (evaluation_order (fan_ins l.net.circuit)) l.place-index (record { list = l.list; flat = l.flat; masks = l.masks; sources = l.sources })
