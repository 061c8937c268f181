-- What is seen of a simulation of the code, and what it keeps.
use Rattle.std.specs.Prelude.{◌≡◌, length}
use Rattle.tsc_net.specs.Fault.{stuck_at_or_none}
use Rattle.lane_sim.specs.Points.{ArePointsOf}
use Rattle.fault_sim.specs.Sim.{SimState, watched_nets}
use Rattle.fault_sim.specs.Shown.{IsShownOf}
use Rattle.fault_sim.specs.declared.sim.Sim.TheInside.{Inside}

abbrev pub sim_as : Inside → SimState
sim_as sim = record {
  bench = sim.bench;
  plan = sim.shown.plan.now;
  fault = stuck_at_or_none sim.fault;
  when = sim.when;
  step = sim.step;
  state = sim.state;
  next = sim.next;
}

-- the points, what is shown and the bits of the latches are of the bench's circuit, and the bench watches what is shown
pub record KeepsSim (sim : Inside) : Type 0 where
  pub points : ArePointsOf sim.bench.circuit sim.points
  pub shown : IsShownOf sim.bench.circuit sim.shown.plan.now sim.shown
  pub watched : sim.bench.watched ≡ watched_nets sim.bench.circuit sim.shown.plan.now
  pub state : length sim.state ≡ length sim.bench.circuit.latches
  pub next : length sim.next ≡ length sim.bench.circuit.latches
