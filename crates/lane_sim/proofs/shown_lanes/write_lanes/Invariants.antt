-- The first nets have their lanes.
use Rattle.std.proofs.Common.{◌≡◌, ◌*◌, length}
use Rattle.tsc_net.specs.Fault.{stuck_at_or_none}
use Rattle.tsc_net.specs.PlanView.{net_numbers}
use Rattle.lane_sim.specs.FaultBench.{HaveLanesUnder}
use Rattle.lane_sim.proofs.shown_lanes.write_lanes.Given as goal

abbrev pub invariant-loop-place : goal.invariant-loop-place
invariant-loop-place l = record {
  room : length l.lanes ≡ length l.shown * 16;
  written : HaveLanesUnder l.program.circuit (stuck_at_or_none l.fault) l.points (net_numbers l.shown) l.place l.lanes;
}
