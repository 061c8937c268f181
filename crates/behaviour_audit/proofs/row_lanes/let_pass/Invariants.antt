-- At the points that are left the last literals let the inputs pass.
use Rattle.std.proofs.Common.{◌≡◌, ◌+◌, ℕ, ◌<◌}
use Rattle.tsc_bits.specs.Bits.{bit_worth, bits_of}
use Rattle.tsc_cover.specs.Cover.{literals, row_matches}
use Rattle.behaviour_audit.proofs.row_lanes.let_pass.Given as goal

abbrev pub invariant-loop-digit : goal.invariant-loop-digit
invariant-loop-digit l = (k : ℕ) → k < 64 → bit_worth k l.points ≡ row_matches (literals l.digit l.row.care l.row.value) (bits_of l.digit (l.base + k))
