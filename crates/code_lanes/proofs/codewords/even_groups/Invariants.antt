-- The points without a mark are those at which the first groups are odd.
use Rattle.std.proofs.Common.{◌≡◌, ◌↔◌, ℕ, ◌<◌, [], false, get_or, IsTrue}
use Rattle.tsc_bits.specs.Bits.{bit_worth}
use Rattle.tsc_bits.specs.Counting.{odd}
use Rattle.fault_secure.specs.CodePlan.{bits_at, members}
use Rattle.code_lanes.specs.Lanes.{column}
use Rattle.code_lanes.proofs.codewords.even_groups.Given as goal

abbrev pub invariant-loop-group : goal.invariant-loop-group
invariant-loop-group l =
    (k : ℕ) → k < 64 → (bit_worth k l.even ≡ false) ↔ ((g : ℕ) → g < l.group → IsTrue (odd (bits_at (column k l.lanes) (get_or (members l.plan) g []))))
