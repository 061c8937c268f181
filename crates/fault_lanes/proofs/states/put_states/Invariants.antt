use Rattle.std.proofs.Common.{◌≡◌, ℕ, ◌<◌}
use Rattle.fault_secure.specs.Circuit.{bit}
use Rattle.lane_sim.specs.Points.{source_bit}
use Rattle.fault_lanes.proofs.states.put_states.Given as goal

abbrev pub invariant-loop-latch : goal.invariant-loop-latch
invariant-loop-latch l = (at lane : ℕ) → at < l.latch → lane < 1024 → source_bit l.states at lane ≡ bit l.state at
