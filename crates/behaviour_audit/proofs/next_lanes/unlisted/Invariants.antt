-- At the points without a mark, the bits are the word of one of the first listed states.
use Rattle.std.proofs.Common.{◌≡◌, ℕ, ◌<◌, false, Some}
use Rattle.tsc_bits.specs.Bits.{bit_worth}
use Rattle.fault_secure.specs.FaultSecure.{state_at}
use Rattle.code_lanes.specs.Lanes.{column}
use Rattle.behaviour_audit.proofs.next_lanes.unlisted.Given as goal

abbrev pub invariant-loop-state : goal.invariant-loop-state
invariant-loop-state l = record {
  listed : (k : ℕ) → k < 64 → bit_worth k l.others ≡ false → (state : ℕ) × (state_at l.plan (column k l.lanes) ≡ Some state);
}
