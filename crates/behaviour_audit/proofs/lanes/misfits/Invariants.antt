-- At the points without a mark the first lanes have the bits that are wanted.
use Rattle.std.proofs.Common.{◌≡◌, ℕ, ◌-◌, ◌<◌, true, false, length}
use Rattle.tsc_bits.specs.Bits.{bit_worth}
use Rattle.fault_secure.specs.Circuit.{bit}
use Rattle.code_lanes.specs.Lanes.{column}
use Rattle.behaviour_audit.proofs.lanes.misfits.Given as goal

abbrev pub invariant-loop-place : goal.invariant-loop-place
invariant-loop-place l =
    (k : ℕ) → k < 64 → bit_worth k l.wrong ≡ false → (p : ℕ) → p < l.place → bit_worth (length l.lanes - 1 - p) l.asked ≡ true
    → bit (column k l.lanes) p ≡ bit_worth (length l.lanes - 1 - p) l.wanted
