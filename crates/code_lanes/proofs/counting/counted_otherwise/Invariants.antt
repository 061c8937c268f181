-- The points without a mark are those at which the first digits are those of the number.
use Rattle.std.proofs.Common.{◌≡◌, ◌↔◌, ℕ, ◌<◌, false}
use Rattle.std.specs.Prelude.{slice_index}
use Rattle.tsc_bits.specs.Bits.{bit_worth}
use Rattle.code_lanes.proofs.counting.counted_otherwise.Given as goal

abbrev pub invariant-loop-place : goal.invariant-loop-place
invariant-loop-place l =
    (k : ℕ) → k < 64 → (bit_worth k l.wrong ≡ false) ↔ ((p : ℕ) → p < l.place → bit_worth k (slice_index l.digits p) ≡ bit_worth p l.number)
