-- The inputs of the blocks so far are put.
use Rattle.std.proofs.Common.{◌≡◌, ℕ, ◌+◌, ◌*◌, ◌<◌}
use Rattle.lane_sim.specs.Points.{point_state}
use Rattle.lane_sim.specs.Places.{HasInputOf}
use Rattle.lane_sim.proofs.places.put_inputs.Given as goal

abbrev pub invariant-loop-block : goal.invariant-loop-block
invariant-loop-block l = record {
  input : (p : ℕ) → p < l.block * 64 → HasInputOf l.initial.points.inputs l.points p (l.first + p);
  states : (p i : ℕ) → p < 1024 → point_state l.points p i ≡ point_state l.initial.points p i;
  inputs : l.points.inputs ≡ l.initial.points.inputs;
  latches : l.points.latches ≡ l.initial.points.latches;
}
