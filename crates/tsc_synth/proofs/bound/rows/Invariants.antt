use Rattle.std.proofs.Common.{◌≡◌, ◌-◌, ◌^◌, min, length, take}
use Rattle.std.specs.List.{sum_by}
use Rattle.tsc_synth.proofs.bound.rows.Given as goal

abbrev pub invariant-loop-place : goal.invariant-loop-place
invariant-loop-place l = l.total ≡ min (sum_by (λ n. length n.cover.rows) (take l.place l.source.circuit.nodes)) (2 ^ 64 - 1)
