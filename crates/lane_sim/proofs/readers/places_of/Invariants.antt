-- The places so far.
use Rattle.std.proofs.Common.{◌≡◌, ℕ, ◌<◌, length, slice_index}
use Rattle.lane_sim.proofs.readers.places_of.Given as goal

abbrev pub invariant-loop-place : goal.invariant-loop-place
invariant-loop-place l = record {
  sized : length l.places.items ≡ length l.net.circuit.nodes;
  places : (k : ℕ) → k < l.place → slice_index l.places.items (slice_index l.order k) ≡ k;
}
