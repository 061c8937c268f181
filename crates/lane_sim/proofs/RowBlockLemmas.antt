-- The words of a row.
use Rattle.std.proofs.Common.{◌≡◌, ℕ, ◌*◌, ◌-◌, ◌<◌, ◌%◌, ◌/◌, List, ap, arith}
use Rattle.std.proofs.lemmas.Simd.{get_or-chunk}
use Rattle.tsc_bits.specs.Bits.{bit_worth}
use Rattle.lane_sim.specs.Lanes.{lane_bit}
use Rattle.lane_sim.specs.Points.{source_bit}
use Rattle.lane_sim.specs.RowBlock.{row_words}

-- the lanes of a row
pub row_lanes : (block : List ℕ) (row p : ℕ) → p < 1024 → lane_bit (row_words block row) p ≡ source_bit block row p
row_lanes block row p inside = ap (bit_worth (p % 64)) (get_or-chunk (row * 16) 16 block (p / 64) 0 (omega arith))
