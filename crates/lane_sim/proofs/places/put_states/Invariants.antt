-- The states of the blocks so far are put.
use Rattle.std.proofs.Common.{◌≡◌, ℕ, ◌+◌, ◌*◌, ◌<◌}
use Rattle.lane_sim.specs.Points.{point_input}
use Rattle.lane_sim.specs.Places.{HasStateOf}
use Rattle.lane_sim.proofs.places.put_states.Given as goal

abbrev pub invariant-loop-block : goal.invariant-loop-block
invariant-loop-block l = record {
  state : (p : ℕ) → p < l.block * 64 → l.first + p < l.past → HasStateOf l.plan l.initial.points.inputs l.points p (l.first + p);
  input : (p k : ℕ) → p < 1024 → point_input l.points p k ≡ point_input l.initial.points p k;
  inputs : l.points.inputs ≡ l.initial.points.inputs;
  latches : l.points.latches ≡ l.initial.points.latches;
}
