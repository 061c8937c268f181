use Rattle.std.proofs.Common.{length, take}
use Rattle.tsc_cover.specs.Cover.{some_row_matches}
use Rattle.tsc_cover.specs.Row.{literals_of_each}
use Rattle.lane_sim.specs.Lanes.{HasLanes}
use Rattle.tsc_net.specs.PlanView.{net_numbers}
use Rattle.fault_lanes.specs.Settling.{bits_at}
use Rattle.fault_lanes.proofs.covers.rows_lanes.Given as goal

abbrev pub invariant-loop-row : goal.invariant-loop-row
invariant-loop-row l = HasLanes 16 l.some (λ lane. some_row_matches (literals_of_each (length l.reads) (take l.row-index l.rows)) (bits_at l.words (net_numbers l.reads) lane))
