-- The first lanes are those of the first nets.
use Rattle.std.proofs.Common.{◌≡◌, length, map, take}
use Rattle.std.specs.Prelude.{slice_index}
use Rattle.lane_sim.specs.Bench.{lane_of}
use Rattle.behaviour_audit.proofs.lanes.read_lanes.Given as goal

abbrev pub invariant-loop-place : goal.invariant-loop-place
invariant-loop-place l = record {
  sized : length l.lanes ≡ length l.nets;
  read : take l.place l.lanes ≡ take l.place (map (λ net. slice_index (lane_of l.bench net.number) l.word) l.nets);
}
