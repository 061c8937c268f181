use Rattle.std.proofs.Common.{◌≡◌, map, take}
use Rattle.tsc_bits.specs.Bits.{binary}
use Rattle.fault_sim.specs.Sim.{point_bit}
use Rattle.fault_sim.proofs.reading.number_at.Given as goal

abbrev pub invariant-loop-net : goal.invariant-loop-net
invariant-loop-net l = l.number ≡ binary (map (λ net. point_bit l.bench l.point net.number) (take l.net-index l.nets))
