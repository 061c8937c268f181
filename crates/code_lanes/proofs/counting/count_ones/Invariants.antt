-- What is counted is what was counted before and the ones of the first lanes.
use Rattle.std.proofs.Common.{◌≡◌, ℕ, ◌+◌, ◌^◌, ◌<◌, length, take}
use Rattle.tsc_bits.specs.Counting.{ones, counted}
use Rattle.code_lanes.specs.Lanes.{column}
use Rattle.code_lanes.proofs.counting.count_ones.Given as goal

abbrev pub invariant-loop-lane : goal.invariant-loop-lane
invariant-loop-lane l =
    (k : ℕ) → k < 64 → counted (column k l.fn.digits) + length l.lanes < 2 ^ length l.fn.digits
    → counted (column k l.digits) ≡ counted (column k l.fn.digits) + ones (column k (take l.lane-index l.lanes))
