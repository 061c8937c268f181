-- At the points without a mark the first lanes have the chosen bits, but where they are free.
use Rattle.std.proofs.Common.{◌≡◌, ◌⊎◌, ℕ, ◌<◌, true, false}
use Rattle.std.specs.Prelude.{slice_index}
use Rattle.tsc_bits.specs.Bits.{bit_worth}
use Rattle.behaviour_audit.proofs.lanes.differing_where_bound.Given as goal

abbrev pub invariant-loop-place : goal.invariant-loop-place
invariant-loop-place l = (k : ℕ) → k < 64 → bit_worth k l.wrong ≡ false → (p : ℕ) → p < l.place
    → ((l.version ≡ 2) × (bit_worth k (slice_index l.free p) ≡ true)) ⊎ (bit_worth k (slice_index l.lanes p) ≡ bit_worth k (slice_index l.chosen p))
