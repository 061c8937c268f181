-- The bits are those of the first latches.
use Rattle.std.proofs.Common.{◌≡◌, map, take}
use Rattle.behaviour_audit.proofs.behaviour.first_bits.Given as goal

abbrev pub invariant-loop-place : goal.invariant-loop-place
invariant-loop-place l = l.bits ≡ map (λ latch. latch.init) (take l.place l.net.circuit.latches)
