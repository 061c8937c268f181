use Rattle.std.proofs.Common.{◌≡◌, ◌-◌, ◌^◌, min, length, take}
use Rattle.std.specs.List.{sum_by}
use Rattle.module_join.proofs.limits.part_nodes.Given as goal

abbrev pub invariant-loop-part : goal.invariant-loop-part
invariant-loop-part l = l.total ≡ min (sum_by (λ part. length part.net.circuit.nodes) (take l.part-index l.parts)) (2 ^ 64 - 1)
