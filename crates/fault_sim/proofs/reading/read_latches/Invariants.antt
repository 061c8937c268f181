-- The bits of the first latches are read.
use Rattle.std.proofs.Common.{◌≡◌, length, map, take}
use Rattle.tsc_net.specs.Fault.{stuck_at_or_none}
use Rattle.fault_sim.specs.Sim.{point_bit}
use Rattle.fault_sim.specs.Shown.{taken_bit}
use Rattle.fault_sim.proofs.reading.read_latches.Given as goal

abbrev pub invariant-loop-place : goal.invariant-loop-place
invariant-loop-place l = record {
  next_sized : length l.next ≡ length l.latches;
  state_sized : length l.state ≡ length l.latches;
  next : take l.place l.next ≡ take l.place (map (λ latch. point_bit l.bench l.point latch.reads.number) l.latches);
  state : take l.place l.state ≡ take l.place (map (taken_bit (stuck_at_or_none l.fault) (point_bit l.bench l.point)) l.latches);
}
