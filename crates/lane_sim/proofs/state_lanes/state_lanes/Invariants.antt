-- The lanes have the words of the states so far.
use Rattle.lane_sim.proofs.PuttingLemmas.{LanesBelow}
use Rattle.lane_sim.proofs.state_lanes.state_lanes.Given as goal

abbrev pub invariant-loop-state : goal.invariant-loop-state
invariant-loop-state l = LanesBelow l.plan l.inputs l.base l.state l.lanes
