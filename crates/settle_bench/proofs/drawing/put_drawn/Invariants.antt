use Rattle.std.proofs.Common.{◌≡◌}
use Rattle.settle_bench.proofs.drawing.put_drawn.Given as goal

abbrev pub invariant-loop-place : goal.invariant-loop-place
invariant-loop-place l = record {
  inputs : l.points.inputs ≡ l.inputs;
  latches : l.points.latches ≡ 0;
}
