-- The digits are those of the number of the first lanes.
use Rattle.std.proofs.Common.{◌≡◌, ℕ, take}
use Rattle.tsc_bits.specs.Bits.{binary}
use Rattle.tsc_bits.specs.Counting.{counted}
use Rattle.code_lanes.specs.Lanes.{column}
use Rattle.code_lanes.proofs.counting.write_binary.Given as goal

abbrev pub invariant-loop-lane : goal.invariant-loop-lane
invariant-loop-lane l = (k : ℕ) → counted (column k l.fn.digits) ≡ 0 → counted (column k l.digits) ≡ binary (column k (take l.lane-index l.lanes))
