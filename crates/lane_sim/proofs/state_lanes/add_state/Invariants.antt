-- The lanes of the first latches have the ones of the word.
use Rattle.std.proofs.Common.{◌≡◌, ℕ, ◌-◌, ◌<◌, ◌≤◌, ◌&&◌, ◌||◌, get_or}
use Rattle.tsc_bits.specs.Bits.{bit_worth}
use Rattle.lane_sim.proofs.state_lanes.add_state.Given as goal

abbrev pub invariant-loop-latch : goal.invariant-loop-latch
invariant-loop-latch l = record {
  added : (i : ℕ) → i < l.latch → (k : ℕ) → k < 64
      → bit_worth k (get_or l.lanes i 0) ≡ (bit_worth k (get_or l.initial.lanes i 0) || (bit_worth k l.points && bit_worth (l.latches - 1 - i) l.word));
  rest : (i : ℕ) → l.latch ≤ i → get_or l.lanes i 0 ≡ get_or l.initial.lanes i 0;
}
