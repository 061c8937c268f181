use Rattle.std.proofs.Common.{◌≡◌, ℕ, ◌/◌, ◌%◌, ◌<◌, length, slice_index}
use Rattle.tsc_bits.specs.Bits.{bit_worth}
use Rattle.lane_sim.specs.TwoPins.{mask_bit}
use Rattle.lane_sim.proofs.masks.all_masks.Given as goal

abbrev pub invariant-loop-place : goal.invariant-loop-place
invariant-loop-place l = record {
  sized : length l.masks.items ≡ l.place;
  bits : (place j : ℕ) → place < l.place → j < 64 → bit_worth j (slice_index l.masks.items place) ≡ mask_bit (place % 10 / 2) (place / 10);
}
