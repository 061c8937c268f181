-- The bits at the first places are odd in number, or not, at each point.
use Rattle.std.proofs.Common.{◌≡◌, ℕ, take}
use Rattle.tsc_bits.specs.Bits.{bit_worth}
use Rattle.tsc_bits.specs.Counting.{odd}
use Rattle.fault_secure.specs.CodePlan.{bits_at}
use Rattle.code_lanes.specs.Lanes.{column}
use Rattle.code_lanes.proofs.codewords.oddness.Given as goal

abbrev pub invariant-loop-place : goal.invariant-loop-place
invariant-loop-place l = (k : ℕ) → bit_worth k l.odd ≡ odd (bits_at (column k l.lanes) (take l.place-index l.places))
