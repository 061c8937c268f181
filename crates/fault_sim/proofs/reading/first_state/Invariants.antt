-- The bits of the first latches are in the list.
use Rattle.std.proofs.Common.{◌≡◌, map, take}
use Rattle.fault_sim.proofs.reading.first_state.Given as goal

abbrev pub invariant-loop-latch : goal.invariant-loop-latch
invariant-loop-latch l = l.state ≡ map (λ latch. latch.init) (take l.latch-index l.latches)
