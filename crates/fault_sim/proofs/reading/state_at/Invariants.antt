use Rattle.std.proofs.Common.{◌≡◌, map, take}
use Rattle.tsc_bits.specs.Bits.{binary}
use Rattle.tsc_net.specs.Fault.{stuck_at_or_none}
use Rattle.fault_sim.specs.Sim.{point_bit}
use Rattle.fault_sim.specs.Shown.{taken_bit}
use Rattle.fault_sim.proofs.reading.state_at.Given as goal

abbrev pub invariant-loop-latch : goal.invariant-loop-latch
invariant-loop-latch l = l.state ≡ binary (map (taken_bit (stuck_at_or_none l.fault) (point_bit l.bench l.point)) (take l.latch-index l.latches))
