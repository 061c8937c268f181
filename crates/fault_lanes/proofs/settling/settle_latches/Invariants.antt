use Rattle.std.proofs.Common.{◌≡◌, ℕ, ◌+◌, ◌<◌}
use Rattle.fault_secure.specs.StuckAt.{on_stem}
use Rattle.lane_sim.specs.Points.{source_bit}
use Rattle.fault_lanes.specs.Batch.{lane_fault}
use Rattle.fault_lanes.proofs.settling.settle_latches.Given as goal

abbrev pub invariant-loop-latch : goal.invariant-loop-latch
invariant-loop-latch l = record {
  latches : (at lane : ℕ) → at < l.latch → lane < 1024 → source_bit l.words (l.first + at) lane ≡ on_stem (lane_fault l.chains.faults.items lane) (l.first + at) (source_bit l.states at lane);
  inputs : (i lane : ℕ) → i < l.first → lane < 1024 → source_bit l.words i lane ≡ source_bit l.initial.words i lane;
}
