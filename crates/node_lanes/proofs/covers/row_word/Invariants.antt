use Rattle.std.proofs.Common.{◌≡◌, ℕ, ◌<◌, ◌-◌, ◌&&◌, drop, map, length}
use Rattle.tsc_bits.specs.Bits.{bit_worth}
use Rattle.tsc_cover.specs.Cover.{row_matches, literals}
use Rattle.fault_secure.specs.Circuit.{bit}
use Rattle.tsc_net.specs.PlanView.{net_numbers}
use Rattle.code_lanes.specs.Lanes.{column}
use Rattle.node_lanes.proofs.covers.row_word.Given as goal

-- the row matches where what was read does and what is left does
abbrev pub invariant-loop-index : goal.invariant-loop-index
invariant-loop-index l =
    (p : ℕ) → p < 64 → (bit_worth p l.all && row_matches (literals (length l.reads - l.index) l.row.care l.row.value) (map (bit (column p l.words)) (net_numbers (drop l.index l.reads))))
    ≡ row_matches (literals (length l.reads) l.row.care l.row.value) (map (bit (column p l.words)) (net_numbers l.reads))
