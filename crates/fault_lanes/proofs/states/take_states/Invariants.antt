use Rattle.std.proofs.Common.{◌≡◌, ℕ, ◌<◌}
use Rattle.fault_secure.specs.Circuit.{latch, latch_net}
use Rattle.fault_secure.specs.StuckAt.{on_pin}
use Rattle.lane_sim.specs.Points.{source_bit}
use Rattle.fault_lanes.specs.Batch.{lane_fault}
use Rattle.fault_lanes.proofs.states.take_states.Given as goal

-- the first latches have what their pins read
abbrev pub invariant-loop-latch : goal.invariant-loop-latch
invariant-loop-latch l = (at lane : ℕ) → at < l.latch → lane < 1024
    → source_bit l.states at lane ≡ on_pin (lane_fault l.chains.faults.items lane) (latch_net l.net.circuit at) 0 (source_bit l.words (latch l.net.circuit at).reads lane)
