use Rattle.std.proofs.Common.{◌≡◌, ◌-◌, ◌^◌, min, take}
use Rattle.std.specs.List.{sum_by}
use Rattle.fault_secure.specs.Size.{cover_literals}
use Rattle.tsc_synth.proofs.bound.literals.Given as goal

abbrev pub invariant-loop-place : goal.invariant-loop-place
invariant-loop-place l = l.total ≡ min (sum_by (λ n. cover_literals n.cover) (take l.place l.source.circuit.nodes)) (2 ^ 64 - 1)
