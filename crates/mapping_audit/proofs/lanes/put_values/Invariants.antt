use Rattle.std.proofs.Common.{◌≡◌, ℕ, ◌<◌, ◌+◌, ◌-◌, drop, length}
use Rattle.tsc_bits.specs.Bits.{bits_of}
use Rattle.code_lanes.specs.Lanes.{column}
use Rattle.mapping_reading.specs.ReadMapping.{with_bits}
use Rattle.mapping_audit.proofs.lanes.put_values.Given as goal

-- putting what is left gives what putting all does
abbrev pub invariant-loop-place : goal.invariant-loop-place
invariant-loop-place l =
    (p : ℕ) → p < 64 → with_bits (drop l.place l.pins) (bits_of (length l.pins - l.place) (l.base + p)) (column p l.words)
    ≡ with_bits l.pins (bits_of (length l.pins) (l.base + p)) (column p l.initial.words)
