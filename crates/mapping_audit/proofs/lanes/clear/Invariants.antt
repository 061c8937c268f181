use Rattle.std.proofs.Common.{◌≡◌, ℕ, ◌<◌, drop}
use Rattle.code_lanes.specs.Lanes.{column}
use Rattle.mapping_audit.specs.Values.{cleared}
use Rattle.mapping_audit.proofs.lanes.clear.Given as goal

-- clearing what is left gives what clearing all does
abbrev pub invariant-loop-pin : goal.invariant-loop-pin
invariant-loop-pin l = (p : ℕ) → p < 64 → cleared (drop l.pin-index l.pins) (column p l.words) ≡ cleared l.pins (column p l.initial.words)
