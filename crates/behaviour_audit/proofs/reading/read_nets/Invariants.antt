-- The first bits are those of the first nets.
use Rattle.std.proofs.Common.{◌≡◌, length, map, take}
use Rattle.behaviour_audit.specs.Points.{slot_bit}
use Rattle.behaviour_audit.proofs.reading.read_nets.Given as goal

abbrev pub invariant-loop-place : goal.invariant-loop-place
invariant-loop-place l = record {
  sized : length l.bits ≡ length l.nets;
  read : take l.place l.bits ≡ take l.place (map (λ net. slot_bit l.bench l.slot net.number) l.nets);
}
