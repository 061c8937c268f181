use Rattle.std.proofs.Common.{◌≡◌, ℕ, ◌<◌, take, map, length}
use Rattle.tsc_bits.specs.Bits.{bit_worth}
use Rattle.tsc_cover.specs.Cover.{some_row_matches}
use Rattle.tsc_cover.specs.Row.{literals_of_each}
use Rattle.fault_secure.specs.Circuit.{bit}
use Rattle.tsc_net.specs.PlanView.{net_numbers}
use Rattle.code_lanes.specs.Lanes.{column}
use Rattle.node_lanes.proofs.covers.rows_word.Given as goal

abbrev pub invariant-loop-row : goal.invariant-loop-row
invariant-loop-row l = (p : ℕ) → p < 64 → bit_worth p l.some ≡ some_row_matches (literals_of_each (length l.reads) (take l.row-index l.rows)) (map (bit (column p l.words)) (net_numbers l.reads))
