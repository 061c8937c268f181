use Rattle.std.proofs.Common.{◌≡◌, ◌-◌, ◌^◌, min, take}
use Rattle.std.specs.List.{sum_by}
use Rattle.tsc_cover.specs.Row.{literals_of}
use Rattle.fault_secure.specs.Size.{row_literals}
use Rattle.tsc_synth.proofs.bound.cover_literals.Given as goal

abbrev pub invariant-loop-row : goal.invariant-loop-row
invariant-loop-row l = l.total ≡ min (sum_by (λ row. row_literals (literals_of l.width row)) (take l.row-index l.row-items)) (2 ^ 64 - 1)
