-- The states of the rows so far.
use Rattle.std.proofs.Common.{◌≡◌, ◌-◌, ◌^◌, min, take}
use Rattle.std.specs.List.{sum_by}
use Rattle.tsc_synth.specs.RowStates.{states_of_row}
use Rattle.tsc_synth.proofs.machine_covers.row_count.Given as goal

abbrev pub invariant-loop-row : goal.invariant-loop-row
invariant-loop-row l = l.total ≡ min (sum_by (λ row. states_of_row l.states row.from) (take l.row-index l.row-items)) (2 ^ 64 - 1)
