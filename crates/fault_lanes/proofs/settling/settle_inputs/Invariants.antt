use Rattle.std.proofs.Common.{◌≡◌, ℕ, ◌<◌}
use Rattle.fault_secure.specs.Circuit.{bit}
use Rattle.fault_secure.specs.StuckAt.{on_stem}
use Rattle.lane_sim.specs.Points.{source_bit}
use Rattle.fault_lanes.specs.Batch.{lane_fault}
use Rattle.fault_lanes.proofs.settling.settle_inputs.Given as goal

abbrev pub invariant-loop-index : goal.invariant-loop-index
invariant-loop-index l = (i lane : ℕ) → i < l.index → lane < 1024 → source_bit l.words i lane ≡ on_stem (lane_fault l.chains.faults.items lane) i (bit l.input i)
