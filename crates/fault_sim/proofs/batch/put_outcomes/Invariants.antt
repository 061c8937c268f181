use Rattle.std.proofs.Common.{◌≡◌, ◌≢◌, ◌%◌, length}
use Rattle.tsc_net.specs.Fault.{stuck_at_or_none}
use Rattle.lane_sim.specs.Points.{ArePointsOf}
use Rattle.fault_sim.specs.Batch.{AreFirstOutcomes, ShowsBatch}
use Rattle.fault_sim.proofs.batch.put_outcomes.Given as goal

abbrev pub invariant-loop-place : goal.invariant-loop-place
invariant-loop-place l = record {
  points : ArePointsOf l.initial.bench.circuit l.points;
  circuit : l.bench.circuit ≡ l.initial.bench.circuit;
  watched : l.bench.watched ≡ l.initial.bench.watched;
  rows : l.bench.rows ≡ l.initial.bench.rows;
  before : l.place % 1024 ≢ 0 → ShowsBatch l.bench (stuck_at_or_none l.fault) l.inputs l.count l.place;
  sized : length l.list ≡ l.count;
  made : AreFirstOutcomes l.initial.bench.circuit l.shown.plan.now (stuck_at_or_none l.fault) l.inputs l.place l.list;
}
